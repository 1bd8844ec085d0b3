-- A rule followed over any number of samples; what a later step may still be refused for; and bits that are not driven.
use Prim.Native.Nat.{ℕ, suc, ◌+◌, ◌<◌}
use native.Mathlib.Nat.{add-zero}
use native.Mathlib.Omega.{arith}
use mathlib.Core.Path.{◌≡◌, refl, sym, ap, subst, ◌∙◌}
use mathlib.Core.Bool.{Bool, true, false}
use mathlib.Core.Logic.Iff
use mathlib.Core.Logic.{◌↔◌}
use mathlib.Core.List.{List, ◌∷◌}
use lib.ListN.{length, get_or, replicate}
use Rattle.logic.specs.Lasso.{Word, letter_in}
use Rattle.logic.specs.Driven.{SameBits}
use Rattle.logic.specs.Semantics.{Holds}
use Rattle.refusals.specs.declared.Refusal.{Refusal}
use Rattle.refusals.specs.declared.Refusal.TheVariants.{ResultTooShort}
use Rattle.refusals.specs.Refusals.{Outcome}
use Rattle.std.specs.Prelude.{Ok, Err}
use Rattle.refusals.specs.Refusals.{first}
use Rattle.table.specs.Table.{rule}
use Rattle.table.specs.Header.{body}
use Rattle.table.specs.StepChecks.{result_fits}
use Rattle.table.specs.Frame.{after_step, outcome_of, answer_of, result_of, answer_number}
use Rattle.table.proofs.Frame.{refused-answer, refused-result, made_answer, too_long-answer, too_long-result, refused_for_length}
use Rattle.table.proofs.AfterStep.{table-accepted, after_early}
use Rattle.after_laws.specs.Remaining.{Remaining}
use Rattle.after_laws.specs.Run.{Step, Run, none, step, From}
use Rattle.after_laws.proofs.Promise.{same_table, made_remaining}

-- what one step of a run leaves
pub step_remaining : {v driven : ℕ} {s u : List ℕ} → Step v driven s u → Remaining v driven s u
step_remaining {v} {driven} {s} q = subst (Remaining v driven s) (sym q.front) (made_remaining v driven s q.slice q.number q.made)

-- after a step for each of the samples the remainder holds at the position after them exactly if the rule held at the first one's
pub run_holds : {driven : ℕ} {vs s u : List ℕ} → Run driven vs s u → (σ : Word) (i : ℕ) → From driven σ i vs
    → Holds σ (rule (body u)) (i + length vs) ↔ Holds σ (rule (body s)) i
run_holds {s = s} none σ i f = subst (λ (j : ℕ). Holds σ (rule (body s)) j ↔ Holds σ (rule (body s)) i) (sym (add-zero i)) Iff.rfl
run_holds {driven} {u = u} (step {v} {vs} {s} {w} q r) σ i f =
    let next : (k : ℕ) → suc i + k ≡ i + suc k = λ k. omega arith in
    let rest : From driven σ (suc i) vs = λ k h. subst (λ (j : ℕ). SameBits driven (σ j) (get_or vs k 0)) (sym (next k)) (f (suc k) (omega arith)) in
    let first : SameBits driven (σ i) v = subst (λ (j : ℕ). SameBits driven (σ j) v) (add-zero i) (f 0 (omega arith)) in
    Iff.trans (subst (λ (j : ℕ). Holds σ (rule (body u)) j ↔ Holds σ (rule (body w)) (suc i)) (next (length vs)) (run_holds r σ (suc i) rest))
    ((step_remaining q).holds σ i first)

-- so where the samples are those of the word
pub run-shown : {driven : ℕ} {vs s u : List ℕ} → Run driven vs s u → (σ : Word) (i : ℕ) → ((k : ℕ) → k < length vs → σ (i + k) ≡ get_or vs k 0)
    → Holds σ (rule (body u)) (i + length vs) ↔ Holds σ (rule (body s)) i
run-shown r σ i f = run_holds r σ i (λ k h n d. ap (λ (v : ℕ). letter_in v n) (f k h))

-- the checks before 12 pass what a step left, whatever the next sample is
pub run-accepted : {driven v : ℕ} {vs s u : List ℕ} → Run driven (v ∷ vs) s u → (w : ℕ) → first ((after_step w driven).checks u) ≡ Ok tt
run-accepted {driven} {u = u} (step q none) w = let r = step_remaining q in table-accepted w driven u r.accepted ∙ r.sampled
run-accepted (step q (step p r)) w = run-accepted (step p r) w

-- so a later step is refused for length alone
pub run-refused : {driven v : ℕ} {vs s u : List ℕ} → Run driven (v ∷ vs) s u → (w : ℕ) (slice : List ℕ) (r : Refusal)
    → answer_of (after_step w driven) u (length slice) ≡ Err r → r ≡ ResultTooShort
run-refused {driven} {u = u} run w slice r e = by_fit (result_fits (length ((after_step w driven).makes u)) (length slice)) refl
  where
    ok : first ((after_step w driven).checks u) ≡ Ok tt
    ok = run-accepted run w

    by_fit : (b : Bool) → result_fits (length ((after_step w driven).makes u)) (length slice) ≡ b → r ≡ ResultTooShort
    by_fit true f = absurd (let m = made_answer (after_step w driven) u slice ok f in let z : ◌≡◌ {A = ℕ} 0 1 = cc in omega arith)
    by_fit false f = let m = too_long-answer (after_step w driven) u slice ok f in cc

-- samples that have the same driven bits are answered alike, accepted and refused, and leave the same slice
module _ (driven v w : ℕ) (e : SameBits driven v w) (s slice : List ℕ) where
  pub same_answer : answer_of (after_step v driven) s (length slice) ≡ answer_of (after_step w driven) s (length slice)
  unfolding answer_of outcome_of
  same_answer = go (first ((after_step v driven).checks s)) refl
    where
      go : (o : Outcome) → first ((after_step v driven).checks s) ≡ o → answer_of (after_step v driven) s (length slice) ≡ answer_of (after_step w driven) s (length slice)
      go (Ok tt) h = rw (same_table v driven s h w e)
      go (Err r) h = refused-answer (after_step v driven) s slice r h ∙ sym (refused-answer (after_step w driven) s slice r h)

  pub same_result : result_of (after_step v driven) s slice ≡ result_of (after_step w driven) s slice
  unfolding result_of outcome_of
  same_result = go (first ((after_step v driven).checks s)) refl
    where
      go : (o : Outcome) → first ((after_step v driven).checks s) ≡ o → result_of (after_step v driven) s slice ≡ result_of (after_step w driven) s slice
      go (Ok tt) h = rw (same_table v driven s h w e)
      go (Err r) h =
          refused-result (after_step v driven) s slice (after_early v driven) r h ∙ sym (refused-result (after_step w driven) s slice (after_early w driven) r h)

-- too long a remainder is 12, and leaves every word of the slice 0; the table that is followed is lent for reading
pub remainder_too_long : (v driven : ℕ) (s slice : List ℕ) → answer_number (answer_of (after_step v driven) s (length slice)) ≡ 12
    → result_of (after_step v driven) s slice ≡ replicate (length slice) 0
remainder_too_long v driven s slice e =
    let p = (refused_for_length (after_step v driven) (after_early v driven) s slice).0 e in
    too_long-result (after_step v driven) s slice p.0 p.1
