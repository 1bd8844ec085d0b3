-- The class byte of each word of a table of plain words, from the bytes of the words before it.
use Prim.Native.Nat.{ℕ, zero, suc, ◌-◌, ◌≤◌, ◌<◌}
use mathlib.Core.Path.{◌≡◌, refl, ap, ap₂, sym, ◌∙◌}
use mathlib.Core.Bool.{true, false}
use mathlib.Core.List.{List, [], ◌∷◌, map}
use native.Mathlib.Omega.{arith}
use lib.ListN.{length, get_or, length-map, get_or-map}
use lib.Seq.{get_or-take}
use Rattle.logic.specs.Formula.{const}
use Rattle.logic.specs.ClassByte.{class_byte}
use Rattle.logic.specs.ClassStep.{next_byte}
use Rattle.table.specs.Node.{kind, left, right, shape}
use Rattle.table.specs.Table.{formula_of, formulas}
use Rattle.std.specs.Prelude.{Ok}
use Rattle.table.specs.Checks.{checked}
use Rattle.table.specs.Steps.{class_bytes}
use Rattle.table.proofs.Formulas.{length-formulas, formula_of-word}
use Rattle.table.proofs.Accepted.{accepted-well-formed}
use Rattle.plain_kinds.specs.declared.PlainKind.{PlainKind}
use Rattle.plain_kinds.specs.declared.PlainKind.TheVariants as kinds
use Rattle.plain_kinds.specs.PlainKind.{operator_byte, kind_byte, takes_left, takes_right, Stands}
use Rattle.class_bytes.specs.Words.{PlainWords, Filled}

pub length-class_bytes : (t : List ℕ) → length (class_bytes t) ≡ length t
unfolding class_bytes
length-class_bytes t = length-map (formulas t) class_byte ∙ length-formulas t

get_d_default : (l : List ℕ) (i d e : ℕ) → i < length l → get_or l i d ≡ get_or l i e
get_d_default [] i d e k = absurd (omega arith)
get_d_default (x ∷ l) zero d e k = refl
get_d_default (x ∷ l) (suc i) d e k = get_d_default l i d e (omega arith)

-- the byte of a word is that of its formula
pub class_bytes_at : (t : List ℕ) (j : ℕ) → j < length t → get_or (class_bytes t) j 0 ≡ class_byte (get_or (formulas t) j (const false))
unfolding class_bytes
class_bytes_at t j h =
    get_d_default (map class_byte (formulas t)) j 0 (class_byte (const false)) (omega (arith, length-map (formulas t) class_byte, length-formulas t))
    ∙ get_or-map class_byte (formulas t) j (const false)

-- the words of a plain table that the checks 1 to 10 accept
pub accepted-plain : (limit : ℕ) (t : List ℕ) → checked true limit t ≡ Ok tt → PlainWords t
accepted-plain limit t e j h =
    let f = (accepted-well-formed true limit t e).word j h in
    record { kinded = f.kinded; plain = f.plain refl; operand_left = f.operand_left; operand_right = f.operand_right }

module _ (t bytes : List ℕ) (j : ℕ) (plain : PlainWords t) (h : j < length t) (filled : Filled t bytes j) where
  abbrev Here : PlainKind → Type 0
  Here y = Stands (shape (kind (get_or t j 0))) y

  left_earlier : {y : PlainKind} → Here y → takes_left y ≡ true → (0 < left (get_or t j 0)) × (left (get_or t j 0) ≤ j)
  left_earlier stands e = let o = (plain j h).operand_left (stands.left ∙ e) in (o.0, omega (arith, o.1))

  right_earlier : {y : PlainKind} → Here y → takes_right y ≡ true → (0 < right (get_or t j 0)) × (right (get_or t j 0) ≤ j)
  right_earlier stands e = let o = (plain j h).operand_right (stands.right ∙ e) in (o.0, omega (arith, o.1))

  pub left_operand : {y : PlainKind} → Here y → takes_left y ≡ true → (0 < left (get_or t j 0)) × (left (get_or t j 0) ≤ length bytes)
  left_operand stands e = let o = left_earlier stands e in (o.0, omega (arith, o.1, filled.room))

  pub right_operand : {y : PlainKind} → Here y → takes_right y ≡ true → (0 < right (get_or t j 0)) × (right (get_or t j 0) ≤ length bytes)
  right_operand stands e = let o = right_earlier stands e in (o.0, omega (arith, o.1, filled.room))

  -- an earlier word's byte is in its place
  operand-byte : (n : ℕ) → (0 < n) × (n ≤ j) → get_or bytes (n - 1) 0 ≡ class_byte (formula_of (formulas t) n)
  unfolding formula_of
  operand-byte zero p = absurd (omega (arith, p.0))
  operand-byte (suc i) p =
      let before : suc i - 1 ≡ i = omega arith in
      ap (λ (n : ℕ). get_or bytes n 0) before
      ∙ sym (get_or-take j bytes i 0 p.1)
      ∙ ap (λ (l : List ℕ). get_or l i 0) filled.so_far
      ∙ get_or-take j (class_bytes t) i 0 p.1
      ∙ class_bytes_at t i (omega (arith, p.1))

  word_byte : (y : PlainKind) → Here y → get_or (class_bytes t) j 0
      ≡ kind_byte y (class_byte (formula_of (formulas t) (left (get_or t j 0)))) (class_byte (formula_of (formulas t) (right (get_or t j 0))))
  word_byte y stands =
      class_bytes_at t j h
      ∙ ap class_byte (formula_of-word t j h (λ e. omega (arith, ((plain j h).operand_left e).1)) (λ e. omega (arith, ((plain j h).operand_right e).1)))
      ∙ stands.byte _ _ _

  pub byte-by_kind : (y : PlainKind) → Here y → kind_byte y (get_or bytes (left (get_or t j 0) - 1) 0) (get_or bytes (right (get_or t j 0) - 1) 0) ≡ get_or (class_bytes t) j 0
  byte-by_kind kinds.Atomic s = sym (word_byte kinds.Atomic s)
  byte-by_kind kinds.Next s = ap next_byte (operand-byte (right (get_or t j 0)) (right_earlier s refl)) ∙ sym (word_byte kinds.Next s)
  byte-by_kind (kinds.Binary o) s =
      ap₂ (operator_byte o) (operand-byte (left (get_or t j 0)) (left_earlier s refl)) (operand-byte (right (get_or t j 0)) (right_earlier s refl))
      ∙ sym (word_byte (kinds.Binary o) s)
