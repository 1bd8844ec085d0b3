-- Steps that look at length last, some of them more than once: how each ends, and what it leaves of the slice.
use Prim.Native.Nat.{ℕ, ◌≤◌, ◌<◌, min}
use native.Mathlib.Omega.{arith}
use mathlib.Core.Path.{◌≡◌, refl, sym, ap, ◌∙◌}
use mathlib.Core.Logic.{◌↔◌, ◌⊎◌, inl, inr}
use mathlib.Core.Bool.{Bool, true, false, not, ◌&&◌}
use mathlib.Core.List.{List, [], ◌∷◌, ◌++◌}
use lib.ListN.{length, drop, replicate}
use lib.Dec.{leb, ltb}
use borrow.Author.Tests.{lt-ltb, le-ltb, lt-leb, le-leb, eq-eqb, ne_eqb}
use Rattle.logic.proofs.Numbers.{lt_or_le}
use Rattle.refusals.specs.declared.Refusal.{Refusal}
use Rattle.refusals.specs.declared.Refusal.TheVariants.{ResultTooShort}
use Rattle.refusals.specs.Refusals.{Outcome}
use Rattle.std.specs.Prelude.{Ok, Err}
use Rattle.refusals.specs.Refusals.{Check, ◌⇒◌, first, decide_by, number_of}
use Rattle.refusals.proofs.First.{first_append-accepted, first_append-refused}
use Rattle.table.specs.StepChecks.{result_checks}
use Rattle.table.specs.Numbering.{fits}
use Rattle.table.specs.Frame.{Step, outcome_of, answer_by, answer_of, result_by, result_of, answer_number}
use Rattle.placing.specs.Written.{Ends}
use Rattle.automaton_steps.specs.Steps.{long_checks}

-- 12 unless it fits
abbrev pub length_checks : Bool → List Check
length_checks fit = (not fit ⇒ ResultTooShort) ∷ []

-- checks that say the same, after others
pub append_same : (xs ys zs : List Check) → first ys ≡ first zs → first (xs ++ ys) ≡ first (xs ++ zs)
append_same [] ys zs e = e
append_same (c ∷ xs) ys zs e = ap (decide_by c.fails c.refusal) (append_same xs ys zs e)

-- words without a header: those of a table at most, and within the slice
pub long_result : (k n : ℕ) → first (long_checks k ++ result_checks k n) ≡ first (length_checks (fits k n))
unfolding long_checks result_checks fits
long_result k n = go (lt_or_le 16383 k) (lt_or_le (min n 16383) k)
  where
    go : (16383 < k) ⊎ (k ≤ 16383) → (min n 16383 < k) ⊎ (k ≤ min n 16383)
        → first ((ltb 16383 k ⇒ ResultTooShort) ∷ ((not (leb k (min n 16384)) ⇒ ResultTooShort) ∷ [])) ≡ first (length_checks (leb k (min n 16383)))
    go (inl h) (inl m) = rw (lt-ltb 16383 k h, lt-leb k (min n 16383) m)
    go (inl h) (inr m) = absurd (omega arith)
    go (inr h) (inl m) = rw (le-ltb 16383 k h, lt-leb k (min n 16383) m, lt-leb k (min n 16384) (omega arith))
    go (inr h) (inr m) = rw (le-ltb 16383 k h, le-leb k (min n 16383) m, le-leb k (min n 16384) (omega arith))

-- and states besides
pub longs-result : (m k n : ℕ) → first (long_checks m ++ (long_checks k ++ result_checks k n)) ≡ first (length_checks (leb m 16383 && fits k n))
unfolding long_checks
longs-result m k n = go (lt_or_le 16383 m)
  where
    go : (16383 < m) ⊎ (m ≤ 16383)
        → first ((ltb 16383 m ⇒ ResultTooShort) ∷ (long_checks k ++ result_checks k n)) ≡ first (length_checks (leb m 16383 && fits k n))
    go (inl h) = rw (lt-ltb 16383 m h, lt-leb m 16383 h)
    go (inr h) = rw (le-ltb 16383 m h, le-leb m 16383 h) (long_result k n)

-- by whatever checks a step is refused: every word of the slice is 0 exactly by 12
pub record Left (s : Step) (t slice : List ℕ) : Type 0 where
  pub zeroed : answer_number (answer_of s t (length slice)) ≡ 12 → result_of s t slice ≡ replicate (length slice) 0
  pub kept : (r : Refusal) → answer_of s t (length slice) ≡ Err r → (number_of r ≡ 12 → ⊥) → result_of s t slice ≡ slice

pub left_by-number : (s : Step) (t slice : List ℕ) → Left s t slice
unfolding answer_of result_of
left_by-number s t slice = record { zeroed = zeroed (outcome_of s t (length slice)); kept = kept (outcome_of s t (length slice)) }
  where
    made : List ℕ
    made = s.makes t

    zeroed : (o : Outcome) → answer_number (answer_by o (length made)) ≡ 12 → result_by o made slice ≡ replicate (length slice) 0
    zeroed (Ok tt) e = absurd (omega arith)
    zeroed (Err r) e = rw (eq-eqb (number_of r) 12 e)

    kept : (o : Outcome) (r : Refusal) → answer_by o (length made) ≡ Err r → (number_of r ≡ 12 → ⊥) → result_by o made slice ≡ slice
    kept (Ok tt) r e f = absurd (let z : ◌≡◌ {A = ℕ} 0 1 = cc in omega arith)
    kept (Err q) r e f = let same : q ≡ r = cc in rw (ne_eqb (number_of q) 12 (λ x. f (sym (ap number_of same) ∙ x)))

-- a step that makes checks xs, none of which is for length, and then 12 unless it fits
pub record Last (s : Step) (t slice : List ℕ) (xs : List Check) (fit : Bool) : Type 0 where
  pub whole : outcome_of s t (length slice) ≡ first (xs ++ length_checks fit)
  pub early : (r : Refusal) → first xs ≡ Err r → number_of r ≡ 12 → ⊥

module _ {s : Step} {t slice : List ℕ} {xs : List Check} {fit : Bool} (q : Last s t slice xs fit) where
  by_outcome : {o : Outcome} → outcome_of s t (length slice) ≡ o → Ends s t slice (answer_by o (length (s.makes t))) (result_by o (s.makes t) slice)
  unfolding answer_of result_of
  by_outcome e = record { reply = ap (λ (x : Outcome). answer_by x (length (s.makes t))) (sym e); slice = ap (λ (x : Outcome). result_by x (s.makes t) slice) (sym e) }

  pub last_refused : (r : Refusal) → first xs ≡ Err r → Ends s t slice (Err r) slice
  last_refused r e = rw (ne_eqb (number_of r) 12 (q.early r e)) at (by_outcome (q.whole ∙ first_append-refused xs (length_checks fit) r e))

  module _ (ok : first xs ≡ Ok tt) where
    accepted : outcome_of s t (length slice) ≡ first (length_checks fit)
    accepted = q.whole ∙ first_append-accepted xs (length_checks fit) ok

    pub last_unfit : fit ≡ false → Ends s t slice (Err ResultTooShort) (replicate (length slice) 0)
    last_unfit f = by_outcome (accepted ∙ ap (λ (b : Bool). first (length_checks b)) f)

    pub last_fit : fit ≡ true → Ends s t slice (Ok (length (s.makes t))) (s.makes t ++ drop (length (s.makes t)) slice)
    last_fit f = by_outcome (accepted ∙ ap (λ (b : Bool). first (length_checks b)) f)

  -- 12 exactly when the checks pass and it does not fit
  pub last_exactly : (answer_number (answer_of s t (length slice)) ≡ 12) ↔ ((first xs ≡ Ok tt) × (fit ≡ false))
  last_exactly = (λ a. by_checks a (first xs) refl, λ p. ap answer_number (sym (last_unfit p.0 p.1).reply))
    where
      by_fit : (b : Bool) → fit ≡ b → first xs ≡ Ok tt → answer_number (answer_of s t (length slice)) ≡ 12 → fit ≡ false
      by_fit false f ok a = f
      by_fit true f ok a = absurd (let z : ◌≡◌ {A = ℕ} 0 12 = ap answer_number (last_fit ok f).reply ∙ a in omega arith)

      by_checks : answer_number (answer_of s t (length slice)) ≡ 12 → (o : Outcome) → first xs ≡ o → (first xs ≡ Ok tt) × (fit ≡ false)
      by_checks a (Ok tt) e = (e, by_fit fit refl e a)
      by_checks a (Err r) e = absurd (q.early r e (ap answer_number (last_refused r e).reply ∙ a))
