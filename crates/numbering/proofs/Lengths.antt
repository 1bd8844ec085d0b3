-- A formula's table has no more words than a list that contains its subformulas has elements; so folding never makes a table longer.
use Prim.Native.Nat.{ℕ, zero, suc, ◌≤◌, ◌<◌}
use native.Mathlib.Omega.{arith}
use mathlib.Core.Path.{◌≡◌, sym, ap, ◌∙◌, subst}
use mathlib.Core.Bool.{false}
use mathlib.Core.List.Memᴰ
use mathlib.Core.List.{List, map, Memᴰ}
use lib.ListN.{length, get_or, length-map}
use Rattle.logic.specs.Formula.{Formula, const}
use Rattle.logic.specs.Letters.{Letters}
use Rattle.transforms.specs.Subformula as subformula
use Rattle.transforms.specs.Subformula.{Sub}
use Rattle.transforms.specs.Folding.{fold}
use Rattle.logic.proofs.Pigeonhole.{pigeonhole}
use Rattle.transforms.proofs.Letters.{letters-sub}
use Rattle.transforms.proofs.Folding.{fold-sub}
use Rattle.transforms.proofs.Normal.Membership.{mem_place, mem_at}
use Rattle.transforms.proofs.Normal.PlainFormula.{sub_trans}
use Rattle.table.specs.Table.{formulas, formula_of}
use Rattle.table.specs.Numbering.{table_of}
use Rattle.table.proofs.Formulas.{length-formulas}
use Rattle.numbering.specs.Held.{Held}
use Rattle.numbering.proofs.Building.{held_within, table_of-distinct}
use Rattle.numbering.proofs.Formulas.{Ordered, held_formula}
use Rattle.numbering.proofs.Built.{Built, Hereditary, table_of-built, table_of-ordered, made_held, held_once}
use Rattle.numbering.proofs.Used.{table_of_held}

-- what goes over to operands goes over to subformulas
pub hereditary_sub : {P : Formula → Type 0} → Hereditary P → {ψ φ : Formula} → Sub ψ φ → P φ → P ψ
hereditary_sub y subformula.self p = p
hereditary_sub y (subformula.under {o} {a} s) p = hereditary_sub y s (y.under o a p)
hereditary_sub y (subformula.left {o} {a} {b} s) p = hereditary_sub y s (y.first o a b p)
hereditary_sub y (subformula.right {o} {a} {b} s) p = hereditary_sub y s (y.second o a b p)

sub_hereditary : (φ : Formula) → Hereditary (λ ψ. Sub ψ φ)
sub_hereditary φ = record {
  under = λ o a s. sub_trans (subformula.under subformula.self) s;
  first = λ o a b s. sub_trans (subformula.left subformula.self) s;
  second = λ o a b s. sub_trans (subformula.right subformula.self) s;
}

module _ (φ : Formula) (l : List Formula) (all : (ψ : Formula) → Sub ψ φ → Memᴰ ψ l) where
  words : Built (λ ψ. Sub ψ φ) (table_of φ)
  words = table_of-built (sub_hereditary φ) φ subformula.self

  -- where the list has the formula of word i + 1
  place : (i : ℕ) → i < length (table_of φ) → ℕ
  place i h = (mem_place (all (words.formula i h).0 (words.formula i h).2)).0

  same_place : (i j : ℕ) (h : i < length (table_of φ)) (k : j < length (table_of φ)) → place i h ≡ place j k → i ≡ j
  unfolding place
  same_place i j h k e =
      let t = table_of φ in
      let x = words.formula i h in
      let y = words.formula j k in
      let q : x.0 ≡ y.0 = sym (mem_place (all x.0 x.2)).2 ∙ ap (λ (n : ℕ). get_or l n (const false)) e ∙ (mem_place (all y.0 y.2)).2 in
      let a : Held t y.0 (suc i) = subst (λ (ψ : Formula). Held t ψ (suc i)) q (made_held t i h x.0 x.1) in
      omega (arith, held_once t y.0 (suc i) (suc j) (table_of-distinct φ) a (made_held t j k y.0 y.1))

  pub table-length : length (table_of φ) ≤ length l
  unfolding place
  table-length = pigeonhole (length l) (length (table_of φ)) place (λ i h. (mem_place (all (words.formula i h).0 (words.formula i h).2)).1) same_place

-- the same list bounds the table of the folded formula, whose subformulas are foldings of listed formulas
pub folded_length : (φ : Formula) (l : List Formula) → ((ψ : Formula) → Sub ψ φ → Memᴰ ψ l) → length (table_of (fold φ)) ≤ length l
folded_length φ l all =
    let contains : (ψ : Formula) → Sub ψ (fold φ) → Memᴰ ψ (map fold l) =
    λ ψ s. let g = fold-sub φ ψ s in subst (λ (χ : Formula). Memᴰ χ (map fold l)) g.2 (Memᴰ.map fold (all g.0 g.1)) in
    omega (arith, table-length (fold φ) (map fold l) contains, length-map l fold)

-- where a formula is held, so are its subformulas
pub sub_held : (t : List ℕ) {ψ φ : Formula} → Sub ψ φ → (n : ℕ) → Held t φ n → (m : ℕ) × Held t ψ m
sub_held t subformula.self n h = (n, h)
sub_held t (subformula.under s) n h = sub_held t s h.0 h.1
sub_held t (subformula.left s) n h = sub_held t s h.0 h.2
sub_held t (subformula.right s) n h = sub_held t s h.1 h.3

-- a table that holds a formula, whose letters and numbers fit their fields, has each of its subformulas for a word's formula
pub held_formulas : (t : List ℕ) → Ordered t → length t < 16384 → (φ : Formula) (n : ℕ) → Letters (λ p. p < 16384) φ → Held t φ n
    → (ψ : Formula) → Sub ψ φ → Memᴰ ψ (formulas t)
unfolding formula_of
held_formulas t o k φ n l h ψ s = go g.0 g.1 (held_within t ψ g.0 g.1)
  where
    g : (m : ℕ) × Held t ψ m
    g = sub_held t s n h

    go : (m : ℕ) → Held t ψ m → (0 < m) × (m ≤ length t) → Memᴰ ψ (formulas t)
    go zero x b = absurd (omega (arith, b.0))
    go (suc i) x b =
        let e : get_or (formulas t) i (const false) ≡ ψ = held_formula t o k ψ (suc i) (letters-sub (λ p. p < 16384) s l) x in
        subst (λ (χ : Formula). Memᴰ χ (formulas t)) e (mem_at (formulas t) i (omega (arith, length-formulas t, b.1)))

-- folding never makes a table longer, where letters and numbers fit their fields
pub fold_shorter : (φ : Formula) → Letters (λ p. p < 16384) φ → length (table_of φ) < 16384 → length (table_of (fold φ)) ≤ length (table_of φ)
fold_shorter φ l k =
    let t = table_of φ in
    omega (arith, length-formulas t, folded_length φ (formulas t) (held_formulas t (table_of-ordered φ l k) k φ (length t) l (table_of_held φ l k)))
