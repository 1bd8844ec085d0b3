-- The until-like words counted in rising word number, and the positions that are kept of them.
use Prim.Native.Nat.{ℕ, zero, suc, ◌+◌, ◌-◌, ◌≤◌, ◌<◌}
use native.Mathlib.Omega.{arith}
use native.Mathlib.Numerals.{add-one}
use native.Mathlib.Nat.{eq-or-lt_of_le, le_of_suc-le-suc}
use mathlib.Core.Path.{◌≡◌, refl, sym, ap, ◌∙◌}
use mathlib.Core.Logic.{◌⊎◌, inl, inr}
use mathlib.Core.Bool.{Bool, true, false, cond}
use mathlib.Core.List.{List, [], ◌∷◌}
use lib.ListN.{length, get_or, set, length-set}
use lib.Seq.{take-length, get_or-set_same, get_or-set_other}
use Rattle.logic.specs.Formula.{const}
use Rattle.transforms.specs.NormalForm.{keep}
use Rattle.refusals.specs.declared.Refusal.TheVariants.{TooManyFixpoints}
use Rattle.std.specs.Prelude.{Ok}
use Rattle.refusals.specs.Refusals.{first, decide_by}
use Rattle.table.specs.Steps.{fixpoints}
use Rattle.table.specs.StepChecks.{is_fixpoint_word, fixpoint_checks}
use Rattle.table.specs.Table.{formulas}
use Rattle.table.proofs.Accepted.{WellFormed}
use Rattle.fixpoints.specs.Positions.{bit_of, Kept}
use Rattle.fixpoints.proofs.UntilLike.{bit_of_step, bit_of_rise, bits_all, bit-listed}

-- no more words than the limit where no check applies
few_words : (limit n : ℕ) (ws : List ℕ) → first (fixpoint_checks limit n ws) ≡ Ok tt → length (keep is_fixpoint_word ws) ≤ limit
unfolding fixpoint_checks
few_words limit n [] e = omega arith
few_words zero n (w ∷ ws) e = go (is_fixpoint_word w) (few_words zero (suc n) ws) e
  where
    go : (b : Bool) → (first (fixpoint_checks zero (suc n) ws) ≡ Ok tt → length (keep is_fixpoint_word ws) ≤ zero)
        → decide_by b (TooManyFixpoints n) (first (fixpoint_checks zero (suc n) ws)) ≡ Ok tt → length (cond b (w ∷ keep is_fixpoint_word ws) (keep is_fixpoint_word ws)) ≤ zero
    go true r e = let z : ◌≡◌ {A = ℕ} 0 1 = cc in absurd (omega arith)
    go false r e = r e
few_words (suc limit) n (w ∷ ws) e = go (is_fixpoint_word w) (few_words limit (suc n) ws) (few_words (suc limit) (suc n) ws) e
  where
    go : (b : Bool) → (first (fixpoint_checks limit (suc n) ws) ≡ Ok tt → length (keep is_fixpoint_word ws) ≤ limit)
        → (first (fixpoint_checks (suc limit) (suc n) ws) ≡ Ok tt → length (keep is_fixpoint_word ws) ≤ suc limit)
        → first (cond b (fixpoint_checks limit (suc n) ws) (fixpoint_checks (suc limit) (suc n) ws)) ≡ Ok tt
        → length (cond b (w ∷ keep is_fixpoint_word ws) (keep is_fixpoint_word ws)) ≤ suc limit
    go true r s e = omega (arith, r e)
    go false r s e = s e

pub fixpoints-few : {limit : ℕ} {t : List ℕ} (few : ℕ) → WellFormed true limit t → first (fixpoint_checks few 1 t) ≡ Ok tt → length (fixpoints t) ≤ few
fixpoints-few {t = t} few f e = omega (arith, few_words few 1 t e, bits_all f, ap (λ (l : List ℕ). length (keep is_fixpoint_word l)) (take-length t))

-- the positions of the first i words are kept, of which so many are until-like
pub record Keeping (t positions : List ℕ) (bits i : ℕ) : Type 0 where
  pub within : i ≤ length t
  pub bits_are : bits ≡ bit_of t i
  pub kept : Kept t positions i

pub keeping_none : (t positions : List ℕ) → length t < length positions → Keeping t positions 0 0
keeping_none t positions h = record { within = omega arith; bits_are = refl; kept = record { long = h; few = omega arith; position = λ i l. absurd (omega arith) } }

module _ {t positions : List ℕ} {bits i : ℕ} (q : Keeping t positions bits i) (h : i < length t) where
  pub keeping-bits : {one : ℕ} → one ≡ cond (is_fixpoint_word (get_or t i 0)) 1 0 → bits + one ≡ bit_of t (suc i)
  keeping-bits {one} e = ap (λ (b : ℕ). b + one) q.bits_are ∙ ap (λ (n : ℕ). bit_of t i + n) e ∙ sym (bit_of_step t i h)

  pub keeping-few : bit_of t (length t) < 32 → bit_of t (suc i) < 32
  keeping-few few = omega (arith, few, bit_of_rise t (length t - suc i) (suc i) (omega arith))

  pub keeping_more : {p : List ℕ} {n one : ℕ} → bit_of t (length t) < 32 → one ≡ cond (is_fixpoint_word (get_or t i 0)) 1 0 → p ≡ set positions (i + 1) bits → n ≡ bits + one
      → Keeping t p n (i + 1)
  keeping_more {p} {n} few o ep en = rw (add-one i) (record {
    within = h;
    bits_are = en ∙ keeping-bits o;
    kept = record { long = rw (ep, length-set positions (i + 1) bits) q.kept.long; few = keeping-few few; position = λ k l. position k (eq-or-lt_of_le (le_of_suc-le-suc l)) };
  })
    where
      position : (k : ℕ) → (k ≡ i) ⊎ (k < i) → get_or p (suc k) 0 ≡ bit_of t k
      position k (inl e) = rw (ep, add-one i, e) (get_or-set_same positions (suc i) bits 0 (omega (arith, q.kept.long)) ∙ q.bits_are)
      position k (inr l) = rw (ep, add-one i) (get_or-set_other positions (suc i) (suc k) bits 0 (λ z. omega arith) ∙ q.kept.position k l)

pub keeping_all : {limit : ℕ} {t positions : List ℕ} {bits i : ℕ} → WellFormed true limit t → Keeping t positions bits i → length t ≤ i
    → (bits ≡ length (fixpoints t)) × Kept t positions (length t)
keeping_all {t = t} {i = i} f q h = let e : i ≡ length t = omega (arith, q.within) in (q.bits_are ∙ ap (bit_of t) e ∙ sym (bits_all f), rw (← e) q.kept)

module _ {t positions : List ℕ} (q : Kept t positions (length t)) (i : ℕ) (h : i < length t) where
  -- a position is that of a bit of a choice
  pub kept_small : get_or positions (i + 1) 0 < 32
  kept_small = rw (add-one i) (omega (arith, q.position i h, q.few, bit_of_rise t (length t - i) i (omega arith)))

  -- the position that is kept of an until-like word is document 01's bit number of it, and the word's formula has that place in the list by which choices are read
  pub kept_position : {limit : ℕ} → WellFormed true limit t → is_fixpoint_word (get_or t i 0) ≡ true
      → (get_or positions (suc i) 0 ≡ bit_of t i) × (get_or (fixpoints t) (get_or positions (suc i) 0) (const false) ≡ get_or (formulas t) i (const false))
  kept_position f e = (q.position i h, ap (λ (n : ℕ). get_or (fixpoints t) n (const false)) (q.position i h) ∙ bit-listed f i h e)
