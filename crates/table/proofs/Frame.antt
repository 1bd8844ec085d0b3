-- The three ways in which a step that makes words ends, said once for every step: refused before 12, too long, made.
use Prim.Native.Nat.{ℕ, zero, suc}
use mathlib.Core.Path.{◌≡◌, refl, ap, sym, ◌∙◌}
use mathlib.Core.Logic.{◌↔◌}
use mathlib.Core.Bool.{Bool, true, false, not, cond}
use mathlib.Core.List.{List, [], ◌∷◌, ◌++◌}
use native.Mathlib.Omega.{arith}
use lib.ListN.{length, take, drop, replicate}
use lib.Seq.{take-append_seam}
use borrow.Author.Tests.{ne_eqb}
use Rattle.refusals.specs.declared.Refusal.{Refusal}
use Rattle.refusals.specs.declared.Refusal.TheVariants.{ResultTooShort, LimitsOutside}
use Rattle.refusals.specs.Refusals.{Outcome}
use Rattle.std.specs.Prelude.{Ok, Err}
use Rattle.table.specs.declared.settings.Limits.{Limits}
use Rattle.refusals.specs.Refusals.{first, decide_by, number_of, outcome_number}
use Rattle.table.specs.Limits.{is_permitted, plain_limit}
use Rattle.table.specs.Header.{body, headed_checks, headed_checked}
use Rattle.table.specs.StepChecks.{is_fixpoint_word, limit_checks, fixpoint_checks, result_fits, result_checks}
use Rattle.table.specs.Steps.{is_normal}
use Rattle.table.specs.Frame.{Step, stated, outcome_of, answer_by, answer_of, result_by, result_of, answer_number, class_step, plain_step, form_checks, normal_step, dialect_step}
use Rattle.refusals.proofs.First.{first_append-accepted, first_append-refused, first_append_both, AllRefusals, first_refusal}
use Rattle.table.proofs.Header.{headed-refusal}

-- no check before the last refuses for length
pub record Early (s : Step) : Type 0 where
  pub early : (t : List ℕ) (r : Refusal) → first (s.checks t) ≡ Err r → number_of r ≡ 12 → ⊥

module _ (s : Step) (t slice : List ℕ) where
  pub refused : (r : Refusal) → first (s.checks t) ≡ Err r → outcome_of s t (length slice) ≡ Err r
  unfolding outcome_of
  refused r e = first_append-refused (s.checks t) (result_checks (length (s.makes t)) (length slice)) r e

  pub refused-answer : (r : Refusal) → first (s.checks t) ≡ Err r → answer_of s t (length slice) ≡ Err r
  unfolding answer_of
  refused-answer r e = ap (λ (o : Outcome). answer_by o (length (s.makes t))) (refused r e)

  pub refused-result : Early s → (r : Refusal) → first (s.checks t) ≡ Err r → result_of s t slice ≡ slice
  unfolding result_of
  refused-result y r e = ap (λ (o : Outcome). result_by o (s.makes t) slice) (refused r e) ∙ rw (ne_eqb (number_of r) 12 (y.early t r e))

  module _ (ok : first (s.checks t) ≡ Ok tt) where
    last : outcome_of s t (length slice) ≡ first (result_checks (length (s.makes t)) (length slice))
    unfolding outcome_of
    last = first_append-accepted (s.checks t) (result_checks (length (s.makes t)) (length slice)) ok

    module _ (f : result_fits (length (s.makes t)) (length slice) ≡ false) where
      pub too_long : outcome_of s t (length slice) ≡ Err ResultTooShort
      unfolding result_checks
      too_long = last ∙ rw f

      pub too_long-answer : answer_of s t (length slice) ≡ Err ResultTooShort
      unfolding answer_of
      too_long-answer = ap (λ (o : Outcome). answer_by o (length (s.makes t))) too_long

      pub too_long-result : result_of s t slice ≡ replicate (length slice) 0
      unfolding result_of
      too_long-result = ap (λ (o : Outcome). result_by o (s.makes t) slice) too_long

    module _ (f : result_fits (length (s.makes t)) (length slice) ≡ true) where
      pub made : outcome_of s t (length slice) ≡ Ok tt
      unfolding result_checks
      made = last ∙ rw f

      pub made_answer : answer_of s t (length slice) ≡ Ok (length (s.makes t))
      unfolding answer_of
      made_answer = ap (λ (o : Outcome). answer_by o (length (s.makes t))) made

      pub made_result : result_of s t slice ≡ s.makes t ++ drop (length (s.makes t)) slice
      unfolding result_of
      made_result = ap (λ (o : Outcome). result_by o (s.makes t) slice) made

-- what an answer tells: the words that were made fit, and stand at the front of the slice
pub record Answered (s : Step) (t slice : List ℕ) (n : ℕ) : Type 0 where
  pub accepted : first (s.checks t) ≡ Ok tt
  pub long : n ≡ length (s.makes t)
  pub fitting : result_fits n (length slice) ≡ true
  pub front : take n (result_of s t slice) ≡ s.makes t

-- the last check passed, or refused
fit_passed : (b : Bool) → first (record { fails = not b; refusal = ResultTooShort } ∷ []) ≡ Ok tt → b ≡ true
fit_passed true e = refl
fit_passed false e = cc

module _ (s : Step) (t slice : List ℕ) where
  pub answered : (n : ℕ) → answer_of s t (length slice) ≡ Ok n → Answered s t slice n
  unfolding answer_of outcome_of result_checks
  answered n a = by_outcome (outcome_of s t (length slice)) refl a
    where
      by_outcome : (o : Outcome) → outcome_of s t (length slice) ≡ o → answer_by o (length (s.makes t)) ≡ Ok n → Answered s t slice n
      by_outcome (Ok tt) e a =
          let l : n ≡ length (s.makes t) = cc in
          let b = (first_append_both (s.checks t) _).0 e in
          let f = fit_passed (result_fits (length (s.makes t)) (length slice)) b.1 in
          record {
            accepted = b.0;
            long = l;
            fitting = rw l f;
            front = rw (l, made_result s t slice b.0 f) (take-append_seam (s.makes t) (drop (length (s.makes t)) slice));
          }
      by_outcome (Err r) e a = absurd (let z : ◌≡◌ {A = ℕ} 0 1 = cc in omega arith)

-- to refuse for length is to answer 12: exactly when every check before passes and the words do not fit the slice
module _ (s : Step) (y : Early s) (t slice : List ℕ) where
  not_fitting : answer_number (answer_of s t (length slice)) ≡ 12 → (o : Outcome) → first (s.checks t) ≡ o
      → (first (s.checks t) ≡ Ok tt) × (result_fits (length (s.makes t)) (length slice) ≡ false)
  not_fitting a (Err r) e = absurd (y.early t r e (sym (ap answer_number (refused-answer s t slice r e)) ∙ a))
  not_fitting a (Ok tt) e = (e, by_fit (result_fits (length (s.makes t)) (length slice)) refl)
    where
      by_fit : (b : Bool) → result_fits (length (s.makes t)) (length slice) ≡ b → b ≡ false
      by_fit false f = refl
      by_fit true f = absurd (let z : ◌≡◌ {A = ℕ} 0 12 = sym (ap answer_number (made_answer s t slice e f)) ∙ a in omega arith)

  pub refused_for_length : (answer_number (answer_of s t (length slice)) ≡ 12)
      ↔ ((first (s.checks t) ≡ Ok tt) × (result_fits (length (s.makes t)) (length slice) ≡ false))
  refused_for_length = (λ a. not_fitting a (first (s.checks t)) refl, λ p. ap answer_number (too_long-answer s t slice p.0 p.1))

-- the limits that a house states are refused by 25
pub stated-early : (l : Limits) {s : Step} → Early s → Early (stated l s)
unfolding limit_checks
stated-early l {s} y = record { early = λ t. by_limits t (is_permitted l) }
  where
    by_limits : (t : List ℕ) (b : Bool) (r : Refusal) → decide_by (not b) LimitsOutside (first (s.checks t)) ≡ Err r → number_of r ≡ 12 → ⊥
    by_limits t true r e n = y.early t r e n
    by_limits t false r e n = let z : ◌≡◌ {A = ℕ} 25 12 = ap outcome_number e ∙ n in omega arith

-- the steps of document 01 look at the length last
pub class-early : Early class_step
unfolding headed_checked
class-early = record { early = headed-refusal true 16383 }

pub dialect-early : Early dialect_step
unfolding headed_checked
dialect-early = record { early = headed-refusal true 16383 }

pub plain-early : (l : Limits) → Early (plain_step l)
unfolding headed_checked
plain-early l = stated-early l (record { early = headed-refusal false l.written })

-- the checks on until-like words refuse by 11 alone
fixpoint_refusals : (limit n : ℕ) (ws : List ℕ) → AllRefusals (λ r. number_of r ≡ 11) (fixpoint_checks limit n ws)
unfolding fixpoint_checks
fixpoint_refusals limit n [] = tt
fixpoint_refusals zero n (w ∷ ws) = (refl, fixpoint_refusals zero (suc n) ws)
fixpoint_refusals (suc limit) n (w ∷ ws) = go (is_fixpoint_word w) (fixpoint_refusals limit (suc n) ws) (fixpoint_refusals (suc limit) (suc n) ws)
  where
    go : (b : Bool) → AllRefusals (λ r. number_of r ≡ 11) (fixpoint_checks limit (suc n) ws) → AllRefusals (λ r. number_of r ≡ 11) (fixpoint_checks (suc limit) (suc n) ws)
        → AllRefusals (λ r. number_of r ≡ 11) (cond b (fixpoint_checks limit (suc n) ws) (fixpoint_checks (suc limit) (suc n) ws))
    go true p q = p
    go false p q = q

pub fixpoint-refusal : (limit : ℕ) (t : List ℕ) (r : Refusal) → first (fixpoint_checks limit 1 t) ≡ Err r → number_of r ≡ 11
fixpoint-refusal limit t r e = first_refusal (λ x. number_of x ≡ 11) (fixpoint_checks limit 1 t) r (fixpoint_refusals limit 1 t) e

-- and are made of no table that is its own form
form-refusal : (l : Limits) (t : List ℕ) (b : Bool) (r : Refusal) → first (cond b [] (fixpoint_checks l.fixpoints 1 t)) ≡ Err r → number_of r ≡ 11
form-refusal l t true r e = absurd (let z : ◌≡◌ {A = ℕ} 0 1 = cc in omega arith)
form-refusal l t false r e = fixpoint-refusal l.fixpoints t r e

pub normal-early : (l : Limits) → Early (normal_step l)
unfolding headed_checked
normal-early l = stated-early l (record { early = λ s r e n. by_table s r n (first (headed_checks true (plain_limit l) s)) refl e })
  where
    by_table : (s : List ℕ) (r : Refusal) → number_of r ≡ 12 → (o : Outcome) → first (headed_checks true (plain_limit l) s) ≡ o
        → first (headed_checks true (plain_limit l) s ++ form_checks l (body s)) ≡ Err r → ⊥
    by_table s r n (Ok tt) k e =
        omega (arith, form-refusal l (body s) (is_normal (body s)) r (sym (first_append-accepted (headed_checks true (plain_limit l) s) _ k) ∙ e))
    by_table s r n (Err q) k e =
        let a = first_append-refused (headed_checks true (plain_limit l) s) (form_checks l (body s)) q k in
        let same : r ≡ q = cc in
        headed-refusal true (plain_limit l) s q k (sym (ap number_of same) ∙ n)
