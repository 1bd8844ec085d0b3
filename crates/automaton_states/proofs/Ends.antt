-- The states of accepted words, written where they fit, and how the call ends.
use Prim.Native.Nat.{ℕ, ◌-◌, ◌≤◌, ◌<◌}
use native.Mathlib.Omega.{arith}
use mathlib.Core.Path.{◌≡◌, refl, sym, ap, ◌∙◌}
use mathlib.Core.Bool.{Bool, true, false, true≢false}
use mathlib.Core.List.{List, ◌++◌}
use lib.ListN.{length, take, drop, replicate}
use borrow.Author.Tests.{le-leb, lt-leb}
use Rattle.refusals.specs.declared.Refusal.TheVariants.{ResultTooShort}
use Rattle.std.specs.Prelude.{Ok, Err}
use Rattle.refusals.specs.Refusals.{first}
use Rattle.table.specs.Answers.{Answer}
use Rattle.table.specs.Checks.{checked}
use Rattle.table.specs.Header.{body, headed_checked}
use Rattle.table.specs.Numbering.{room, fits}
use Rattle.table.proofs.Header.{accepted-headed}
use Rattle.placing.specs.Written.{Ends}
use Rattle.heading.proofs.Order.{whole_body, some_word}
use Rattle.automata_tables.specs.States.{state_words}
use Rattle.automaton_steps.specs.Steps.{watched_checks, states_step}
use Rattle.automaton_steps.proofs.States.{accepted_watched, states_made, states-unfit}
use Rattle.state_words.specs.Stated.{Stated}
use Rattle.automaton_states.specs.Listed.{Listed}

-- the states were written where they fit, and their number is held to the room of the slice
module _ {t out e : List ℕ} {n m : ℕ} (q : Stated t out e n) (w : m ≡ room (length e)) where
  pub listed_made : n ≤ m → Listed (state_words t) out e (Ok n)
  unfolding fits
  listed_made h = record {
    fit = λ f. (ap Ok q.all, q.front (omega (arith, q.long)) ∙ ap (λ (x : ℕ). state_words t ++ drop x out) q.all);
    unfit = λ f. absurd (true≢false (sym (le-leb (length (state_words t)) (room (length out)) (omega (arith, q.all, q.long))) ∙ f));
  }

  pub listed-short : {z : List ℕ} → m < n → z ≡ replicate (length e) 0 → Listed (state_words t) out z (Err ResultTooShort)
  unfolding fits
  listed-short h z = record {
    fit = λ f. absurd (true≢false (sym f ∙ lt-leb (length (state_words t)) (room (length out)) (omega (arith, q.all, q.long))));
    unfit = λ f. (refl, z ∙ ap (λ (x : ℕ). replicate x 0) q.long);
  }

module _ (s result : List ℕ) (ok : first (watched_checks s) ≡ Ok tt) where
  table-accepted : headed_checked true 16383 s ≡ Ok tt
  table-accepted = (accepted_watched s ok).0

  -- there is a header, and the part after it is accepted
  pub some : 1 ≤ length s
  some = some_word true 16383 s table-accepted

  pub words-accepted : checked true 16383 (take (length s - 1) (body s)) ≡ Ok tt
  words-accepted = rw (whole_body s) (accepted-headed true 16383 s table-accepted).words

  pub listed-ends : {e : List ℕ} {r : Answer} → Listed (state_words (take (length s - 1) (body s))) result e r → Ends states_step s result r e
  listed-ends {e} {r} g = by_fit (rw (whole_body s) at g) (fits (length (state_words (body s))) (length result)) refl
    where
      by_fit : Listed (state_words (body s)) result e r → (b : Bool) → fits (length (state_words (body s))) (length result) ≡ b → Ends states_step s result r e
      by_fit g true f = let h = g.fit f in let m = states_made s result ok f in record { reply = h.0 ∙ m.reply; slice = h.1 ∙ m.slice }
      by_fit g false f = let h = g.unfit f in let m = states-unfit s result ok f in record { reply = h.0 ∙ m.reply; slice = h.1 ∙ m.slice }
