-- The forms of words in a draft that grows past them, and the bits by which they are chosen.
use Prim.Native.Nat.{ℕ, ◌+◌, ◌≤◌, ◌<◌}
use native.Mathlib.Omega.{arith}
use native.Mathlib.Numerals.{add-one}
use mathlib.Core.Path.{◌≡◌, ap, ◌∙◌}
use mathlib.Core.Bool.{Bool}
use mathlib.Core.List.{List}
use lib.ListN.{length, get_or}
use Rattle.logic.specs.Bit.{bit}
use Rattle.drafts.specs.Drafted.{SlotIs}
use Rattle.drafts.proofs.Drafts.{drafted_below, slot_below}
use Rattle.fixpoints.specs.Positions.{bit_of, Kept}
use Rattle.form_places.specs.declared.Rewriting.TheVariants.{Opening}
use Rattle.form_places.specs.Places.{place}
use Rattle.form_places.proofs.Places.{place-fits}
use Rattle.conjuncts.specs.Filled.{form_of, Filled}

-- a slot that is as it was said to be
pub slot_at : {d : List ℕ} {i s : ℕ} → i < length d → get_or d i 0 ≡ s → SlotIs d i s
slot_at h e = record { within = h; is = e }

-- what stands before slot k stays where the slots before it do
pub filled-later : {t : List ℕ} {c : ℕ} {d : List ℕ} (e : List ℕ) {i : ℕ} (k : ℕ) → Filled t c d i → place Opening i < k → k ≤ length e
    → ((j : ℕ) → j < k → get_or e j 0 ≡ get_or d j 0) → Filled t c e i
filled-later {t} {c} {d} e {i} k q h l same = record {
  false_slot = slot_below d e k l same (omega arith) q.false_slot;
  true_slot = slot_below d e k l same (omega arith) q.true_slot;
  form = λ m j p r. drafted_below d e k l same (form_of m t c j) (place m j) (place-fits m j k (omega arith)) (q.form m j p r);
}

-- the bit of a word, by the position that is kept of it
pub kept_bit : {t positions : List ℕ} (c : ℕ) {i : ℕ} {r : Bool} → Kept t positions (length t) → i < length t → r ≡ bit c (get_or positions (i + 1) 0) → r ≡ bit c (bit_of t i)
kept_bit c {i} q h x = x ∙ ap (bit c) (rw (add-one i) (q.position i h))
