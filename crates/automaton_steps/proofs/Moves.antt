-- How the call for a move ends: a refused table, 28, a state past the last, 22, 21, more states or words than fit, or the move's table.
use Prim.Native.Nat.{ℕ, ◌≤◌, ◌<◌}
use native.Mathlib.Omega.{arith}
use mathlib.Core.Path.{◌≡◌, refl, sym, ap, ◌∙◌}
use mathlib.Core.Logic.{◌↔◌}
use mathlib.Core.Bool.{Bool, true, false, ◌&&◌}
use mathlib.Core.List.{List, ◌++◌, append_assoc}
use lib.ListN.{length, drop, replicate}
use lib.Dec.{ltb, leb}
use borrow.Author.Tests.{lt-ltb, le-ltb, ltb-false}
use Rattle.refusals.specs.declared.Refusal.{Refusal}
use Rattle.refusals.specs.declared.Refusal.TheVariants.{ResultTooShort, StateOutside}
use Rattle.refusals.specs.Refusals.{Outcome}
use Rattle.std.specs.Prelude.{Ok, Err}
use Rattle.refusals.specs.Refusals.{Check, first, decide_by, number_of, outcome_number}
use Rattle.refusals.proofs.First.{first_append-accepted, first_append-refused, first_append_both, first_passed}
use Rattle.table.specs.Header.{body, headed_checked}
use Rattle.table.specs.StepChecks.{sample_checks, result_checks}
use Rattle.table.specs.Steps.{is_normal}
use Rattle.table.specs.Numbering.{fits}
use Rattle.table.specs.Frame.{outcome_of, answer_of, answer_number}
use Rattle.table.proofs.AfterStep as sample
use Rattle.automata_tables.specs.States.{state_words}
use Rattle.automata_tables.specs.Moves.{move_table}
use Rattle.placing.specs.Written.{Ends}
use Rattle.automaton_steps.specs.Steps.{state_checks, long_checks, watched_checks, asked_checks, move_step}
use Rattle.automaton_steps.proofs.Last.{length_checks, append_same, longs-result, Last, last_refused, last_unfit, last_fit, last_exactly}
use Rattle.automaton_steps.proofs.States.{watched_refusal, accepted_watched}

-- what is known where the table, the state and the sample pass
pub record Asked (n driven : ℕ) (s : List ℕ) : Type 0 where
  pub table : headed_checked true 16383 s ≡ Ok tt
  pub normal : is_normal (body s) ≡ true
  pub inside : n ≤ length (state_words (body s))
  pub sample : sample.Sampled driven (body s)

module _ (n driven : ℕ) (s : List ℕ) where
  abbrev asked : List Check
  asked = state_checks n (body s) ++ sample_checks driven (body s)

  pub asked-table : (r : Refusal) → first (watched_checks s) ≡ Err r → first (asked_checks n driven s) ≡ Err r
  asked-table r e = first_append-refused (watched_checks s) asked r e

  module _ (ok : first (watched_checks s) ≡ Ok tt) where
    pub asked-state : length (state_words (body s)) < n → first (asked_checks n driven s) ≡ Err StateOutside
    unfolding state_checks
    asked-state h = first_append-accepted (watched_checks s) asked ok ∙ rw (lt-ltb (length (state_words (body s))) n h)

    pub asked-sample : n ≤ length (state_words (body s)) → first (asked_checks n driven s) ≡ first (sample_checks driven (body s))
    unfolding state_checks
    asked-sample h = first_append-accepted (watched_checks s) asked ok ∙ rw (le-ltb (length (state_words (body s))) n h)

  pub asked-accepted : first (asked_checks n driven s) ≡ Ok tt → Asked n driven s
  unfolding state_checks
  asked-accepted e =
      let p = (first_append_both (watched_checks s) asked).0 e in
      let q = (first_append_both (state_checks n (body s)) (sample_checks driven (body s))).0 p.1 in
      let w = accepted_watched s p.0 in
      record {
        table = w.0;
        normal = w.1;
        inside = ltb-false (length (state_words (body s))) n (first_passed (state_checks n (body s)) q.0).0;
        sample = sample.sample-accepted driven (body s) q.1;
      }

  -- none of them is for length
  pub asked-refusal : (r : Refusal) → first (asked_checks n driven s) ≡ Err r → number_of r ≡ 12 → ⊥
  unfolding state_checks
  asked-refusal r e z = by_table (first (watched_checks s)) refl
    where
      by_state : headed_checked true 16383 s ≡ Ok tt → (b : Bool) → decide_by b StateOutside (first (sample_checks driven (body s))) ≡ Err r → ⊥
      by_state k true d = let y : ◌≡◌ {A = ℕ} 6 12 = ap outcome_number d ∙ z in omega arith
      by_state k false d = (sample.after_early 0 driven).early s r (sample.table-accepted 0 driven s k ∙ d) z

      by_table : (o : Outcome) → first (watched_checks s) ≡ o → ⊥
      by_table (Ok tt) k = by_state (accepted_watched s k).0 (ltb (length (state_words (body s))) n) (sym (first_append-accepted (watched_checks s) asked k) ∙ e)
      by_table (Err q) k =
          let a = asked-table q k in
          let same : r ≡ q = cc in
          watched_refusal s q k (sym (ap number_of same) ∙ z)

module _ (n v driven : ℕ) (s result : List ℕ) where
  abbrev count : ℕ
  count = length (state_words (body s))

  abbrev words : List ℕ
  words = move_table (body s) n v

  -- at most 16,383 states, and the words fit
  abbrev fit : Bool
  fit = leb count 16383 && fits (length words) (length result)

  move_last : Last (move_step n v driven) s result (asked_checks n driven s) fit
  unfolding outcome_of
  move_last = record {
    whole =
        ap first (append_assoc (asked_checks n driven s) (long_checks count ++ long_checks (length words)) (result_checks (length words) (length result)))
        ∙ append_same (asked_checks n driven s) _ (length_checks fit)
        (ap first (append_assoc (long_checks count) (long_checks (length words)) (result_checks (length words) (length result))) ∙ longs-result count (length words) (length result));
    early = asked-refusal n driven s;
  }

  -- refused before 12: the slice keeps its words
  pub move-refused : (r : Refusal) → first (asked_checks n driven s) ≡ Err r → Ends (move_step n v driven) s result (Err r) result
  move-refused r e = last_refused move_last r e

  module _ (ok : first (asked_checks n driven s) ≡ Ok tt) where
    pub move-unfit : fit ≡ false → Ends (move_step n v driven) s result (Err ResultTooShort) (replicate (length result) 0)
    move-unfit f = last_unfit move_last ok f

    pub move_made : fit ≡ true → Ends (move_step n v driven) s result (Ok (length words)) (words ++ drop (length words) result)
    move_made f = last_fit move_last ok f

  -- 12 exactly when all else passes, and there are more than 16,383 states or more words than fit
  pub move_for_length : (answer_number (answer_of (move_step n v driven) s (length result)) ≡ 12) ↔ ((first (asked_checks n driven s) ≡ Ok tt) × (fit ≡ false))
  move_for_length = last_exactly move_last
