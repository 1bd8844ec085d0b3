-- Words with no kinds 12 to 15 are plain words, and the class of the last one is the last of their class bytes.
use Prim.Native.Nat.{ℕ, zero, suc, ◌+◌, ◌-◌, ◌≤◌, ◌<◌}
use mathlib.Core.Path.{◌≡◌, refl, ap, sym, ◌∙◌}
use mathlib.Core.Bool.{Bool, true, false, ◌||◌}
use mathlib.Core.List.{List, [], ◌∷◌, ◌++◌}
use native.Mathlib.Omega.{arith}
use native.Mathlib.Numerals.{add-one}
use lib.ListN.{length, get_or, drop, drop_of_length-le, get_or-append}
use lib.Seq.{drop-cons}
use lib.Dec.{leb}
use borrow.Author.Tests.{leb-false}
use Rattle.logic.specs.ClassByte.{class_byte}
use Rattle.table.specs.Node.{kind}
use Rattle.table.specs.Table.{formula_of, formulas, rule}
use Rattle.table.specs.Steps.{class_bytes}
use Rattle.table.specs.Header.{is_written, class_of}
use Rattle.table.proofs.Accepted.{accepted-well-formed}
use Rattle.class_bytes.specs.Words.{PlainWords}
use Rattle.class_bytes.proofs.Words.{length-class_bytes, class_bytes_at}
use Rattle.header_classes.specs.Headable.{Headable}

or-false : (a b : Bool) → (a || b) ≡ false → (a ≡ false) × (b ≡ false)
or-false true b h = (h, cc)
or-false false b h = (refl, h)

plain-kinds : (t : List ℕ) → is_written t ≡ false → (j : ℕ) → j < length t → kind (get_or t j 0) < 12
unfolding is_written
plain-kinds [] e j h = absurd (omega arith)
plain-kinds (w ∷ t) e zero h = leb-false 12 (kind w) (or-false _ _ e).0
plain-kinds (w ∷ t) e (suc j) h = plain-kinds t (or-false (leb 12 (kind w)) _ e).1 j (omega arith)

module _ {t : List ℕ} (q : Headable t) where
  pub some : 0 < length t
  some = (accepted-well-formed q.plain_only q.limit t q.accepted).some

  pub few : length t ≤ 16383
  few = omega (arith, (accepted-well-formed q.plain_only q.limit t q.accepted).few, q.small)

  module _ (e : is_written t ≡ false) where
    pub plain-words : PlainWords t
    plain-words j h =
        let f = (accepted-well-formed q.plain_only q.limit t q.accepted).word j h in
        record { kinded = f.kinded; plain = plain-kinds t e j h; operand_left = f.operand_left; operand_right = f.operand_right }

    pub last_byte : (rest : List ℕ) → get_or (class_bytes t ++ rest) (length t - 1) 0 ≡ class_of t
    unfolding class_of rule formula_of
    last_byte rest =
        let n : length t ≡ suc (length t - 1) = omega (arith, some) in
        get_or-append (class_bytes t) rest 0 (length t - 1) (omega (arith, length-class_bytes t, some))
        ∙ class_bytes_at t (length t - 1) (omega (arith, some))
        ∙ rw e (ap (λ (k : ℕ). class_byte (formula_of (formulas t) k)) (sym n))
