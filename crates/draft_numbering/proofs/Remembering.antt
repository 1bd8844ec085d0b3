-- Numbers that are kept for slots: none at first, the same for a longer table and for a draft that begins alike, and one more for a slot that was placed.
use Prim.Native.Nat.{ℕ, ◌<◌}
use native.Mathlib.Omega.{arith}
use mathlib.Core.Path.{◌≡◌, refl, subst}
use mathlib.Core.Bool.{Bool, true, false}
use mathlib.Core.List.{List}
use lib.ListN.{length, get_or, set, replicate}
use lib.Seq.{get_or-set_same, get_or-set_other}
use lib.Dec.{eqb}
use borrow.Author.Tests.{eqb-true, eqb-false}
use Rattle.logic.proofs.Numbers.{get_or-zeros}
use Rattle.logic.specs.Formula.{Formula}
use Rattle.numbering.specs.Held.{Held}
use Rattle.numbering.proofs.Building.{Grows, held_grows}
use Rattle.drafts.specs.Drafted.{Drafted}
use Rattle.draft_numbering.specs.Numberable.{Remembered}

pub remembered_none : (d : List ℕ) (n : ℕ) (t : List ℕ) → Remembered d (replicate n 0) t
remembered_none d n t = record { held = λ i φ h g. absurd (omega (arith, g, get_or-zeros n i)) }

pub remembered-grows : {d numbers t s : List ℕ} → Grows t s → Remembered d numbers t → Remembered d numbers s
remembered-grows g r = record { held = λ i φ h p. held_grows φ _ g (r.held i φ h p) }

pub remembered-set : {d numbers t : List ℕ} (i n : ℕ) → i < length numbers → ((φ : Formula) → Drafted d φ i → Held t φ n)
    → Remembered d numbers t → Remembered d (set numbers i n) t
remembered-set {d} {numbers} {t} i n l f r = record { held = λ j φ h p. go j φ h p (eqb j i) refl }
  where
    go : (j : ℕ) (φ : Formula) → Drafted d φ j → 0 < get_or (set numbers i n) j 0 → (b : Bool) → eqb j i ≡ b → Held t φ (get_or (set numbers i n) j 0)
    go j φ h p true e =
        let q : j ≡ i = eqb-true j i e in
        rw (q, get_or-set_same numbers i n 0 l) (f φ (subst (Drafted d φ) q h))
    go j φ h p false e =
        let q : get_or (set numbers i n) j 0 ≡ get_or numbers j 0 = get_or-set_other numbers i j n 0 (eqb-false j i e) in
        rw q (r.held j φ h (rw q at p))
