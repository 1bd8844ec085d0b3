-- How the call for the states ends: a refused table, 28, more states than fit, or the states.
use Prim.Native.Nat.{ℕ}
use native.Mathlib.Omega.{arith}
use mathlib.Core.Path.{◌≡◌, refl, sym, ap, ◌∙◌}
use mathlib.Core.Logic.{◌↔◌}
use mathlib.Core.Bool.{Bool, true, false, not}
use mathlib.Core.List.{List, [], ◌∷◌, ◌++◌, append_assoc}
use lib.ListN.{length, drop, replicate}
use Rattle.refusals.specs.declared.Refusal.{Refusal}
use Rattle.refusals.specs.declared.Refusal.TheVariants.{ResultTooShort, NotDeltaTwo}
use Rattle.refusals.specs.Refusals.{Outcome}
use Rattle.std.specs.Prelude.{Ok, Err}
use Rattle.refusals.specs.Refusals.{◌⇒◌, first, number_of, outcome_number}
use Rattle.refusals.proofs.First.{first_append-accepted, first_append-refused, first_append_both}
use Rattle.table.specs.Header.{body, headed_checks, headed_checked}
use Rattle.table.specs.StepChecks.{result_checks}
use Rattle.table.specs.Steps.{is_normal}
use Rattle.table.specs.Numbering.{fits}
use Rattle.table.specs.Frame.{outcome_of, answer_of, answer_number}
use Rattle.table.proofs.Header.{headed-refusal}
use Rattle.automata_tables.specs.States.{state_words}
use Rattle.placing.specs.Written.{Ends}
use Rattle.automaton_steps.specs.Steps.{delta_checks, long_checks, watched_checks, states_step}
use Rattle.automaton_steps.proofs.Last.{length_checks, append_same, long_result, Last, last_refused, last_unfit, last_fit, last_exactly}

-- the checks of the table, and 28
module _ (s : List ℕ) where
  pub table-refused : (r : Refusal) → headed_checked true 16383 s ≡ Err r → first (watched_checks s) ≡ Err r
  unfolding headed_checked
  table-refused r e = first_append-refused (headed_checks true 16383 s) (delta_checks (body s)) r e

  pub table-accepted : headed_checked true 16383 s ≡ Ok tt → first (watched_checks s) ≡ first ((not (is_normal (body s)) ⇒ NotDeltaTwo) ∷ [])
  unfolding headed_checked delta_checks
  table-accepted e = first_append-accepted (headed_checks true 16383 s) (delta_checks (body s)) e

  pub not_delta : headed_checked true 16383 s ≡ Ok tt → is_normal (body s) ≡ false → first (watched_checks s) ≡ Err NotDeltaTwo
  not_delta e n = table-accepted e ∙ rw n

  pub watched_accepted : headed_checked true 16383 s ≡ Ok tt → is_normal (body s) ≡ true → first (watched_checks s) ≡ Ok tt
  watched_accepted e n = table-accepted e ∙ rw n

  passed_delta : (b : Bool) → first ((not b ⇒ NotDeltaTwo) ∷ []) ≡ Ok tt → b ≡ true
  passed_delta true e = refl
  passed_delta false e = cc

  pub accepted_watched : first (watched_checks s) ≡ Ok tt → (headed_checked true 16383 s ≡ Ok tt) × (is_normal (body s) ≡ true)
  unfolding headed_checked delta_checks
  accepted_watched e =
      let p = (first_append_both (headed_checks true 16383 s) (delta_checks (body s))).0 e in
      (p.0, passed_delta (is_normal (body s)) p.1)

  -- none of them is for length
  pub watched_refusal : (r : Refusal) → first (watched_checks s) ≡ Err r → number_of r ≡ 12 → ⊥
  watched_refusal r e n = by_table (headed_checked true 16383 s) refl
    where
      by_delta : (b : Bool) → first ((not b ⇒ NotDeltaTwo) ∷ []) ≡ Err r → ⊥
      by_delta true d = let z : ◌≡◌ {A = ℕ} 0 1 = cc in omega arith
      by_delta false d = let z : ◌≡◌ {A = ℕ} 28 12 = ap outcome_number d ∙ n in omega arith

      by_table : (o : Outcome) → headed_checked true 16383 s ≡ o → ⊥
      by_table (Ok tt) k = by_delta (is_normal (body s)) (sym (table-accepted k) ∙ e)
      by_table (Err q) k =
          let a = table-refused q k in
          let same : r ≡ q = cc in
          headed-refusal true 16383 s q k (sym (ap number_of same) ∙ n)

module _ (s result : List ℕ) where
  abbrev words : List ℕ
  words = state_words (body s)

  states_last : Last states_step s result (watched_checks s) (fits (length words) (length result))
  unfolding outcome_of
  states_last = record {
    whole =
        ap first (append_assoc (watched_checks s) (long_checks (length words)) (result_checks (length words) (length result)))
        ∙ append_same (watched_checks s) _ (length_checks (fits (length words) (length result))) (long_result (length words) (length result));
    early = watched_refusal s;
  }

  -- refused before 12: the slice keeps its words
  pub states-refused : (r : Refusal) → first (watched_checks s) ≡ Err r → Ends states_step s result (Err r) result
  states-refused r e = last_refused states_last r e

  module _ (ok : first (watched_checks s) ≡ Ok tt) where
    pub states-unfit : fits (length words) (length result) ≡ false → Ends states_step s result (Err ResultTooShort) (replicate (length result) 0)
    states-unfit f = last_unfit states_last ok f

    pub states_made : fits (length words) (length result) ≡ true → Ends states_step s result (Ok (length words)) (words ++ drop (length words) result)
    states_made f = last_fit states_last ok f

  -- 12 exactly when the table passes, is in Delta-2, and has more states than fit
  pub states_for_length : (answer_number (answer_of states_step s (length result)) ≡ 12) ↔ ((first (watched_checks s) ≡ Ok tt) × (fits (length words) (length result) ≡ false))
  states_for_length = last_exactly states_last
