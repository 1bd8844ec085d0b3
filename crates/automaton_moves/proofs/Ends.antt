-- How the call for a move ends, from what is answered of the words.
use Prim.Native.Nat.{ℕ, ◌-◌, ◌≤◌}
use mathlib.Core.Path.{◌≡◌, refl, ◌∙◌}
use mathlib.Core.Bool.{Bool, true, false}
use mathlib.Core.List.{List}
use lib.ListN.{length, take}
use Rattle.refusals.specs.declared.Refusal.{Refusal}
use Rattle.refusals.specs.Refusals.{Outcome}
use Rattle.std.specs.Prelude.{Ok, Err}
use Rattle.refusals.specs.Refusals.{first}
use Rattle.refusals.proofs.First.{first_append-accepted}
use Rattle.table.specs.Answers.{Answer}
use Rattle.table.specs.Checks.{checked}
use Rattle.table.specs.Header.{body}
use Rattle.table.proofs.Header.{accepted-headed}
use Rattle.placing.specs.Written.{Ends}
use Rattle.heading.proofs.Order.{whole_body, some_word}
use Rattle.automaton_steps.specs.Steps.{watched_checks, asked_checks, move_step}
use Rattle.automaton_steps.proofs.States.{accepted_watched}
use Rattle.automaton_steps.proofs.Moves.{asked-table, move-refused, move-unfit, move_made}
use Rattle.move_checks.specs.Left.{left_checks}
use Rattle.move_placing.specs.Placed.{move_fits}
use Rattle.move_answers.specs.Answered.{Given, Answered}

-- a table that passed: there is a header, and the part after it is accepted
module _ (s : List ℕ) (ok : first (watched_checks s) ≡ Ok tt) where
  pub some : 1 ≤ length s
  some = some_word true 16383 s (accepted_watched s ok).0

  pub words-accepted : checked true 16383 (take (length s - 1) (body s)) ≡ Ok tt
  words-accepted = rw (whole_body s) (accepted-headed true 16383 s (accepted_watched s ok).0).words

module _ (n v driven : ℕ) (s result : List ℕ) where
  pub table-refused : (r : Refusal) → first (watched_checks s) ≡ Err r → Ends (move_step n v driven) s result (Err r) result
  table-refused r e = move-refused n v driven s result r (asked-table n driven s r e)

  module _ (ok : first (watched_checks s) ≡ Ok tt) where
    pub answered-ends : {e : List ℕ} {r : Answer} → Answered (take (length s - 1) (body s)) n v driven result e r → Ends (move_step n v driven) s result r e
    unfolding move_fits
    answered-ends {e} {r} g = by_checks (rw (whole_body s) at g) (first (left_checks n driven (body s))) refl
      where
        asked : first (asked_checks n driven s) ≡ first (left_checks n driven (body s))
        asked = first_append-accepted (watched_checks s) (left_checks n driven (body s)) ok

        by_fit : first (asked_checks n driven s) ≡ Ok tt → Given (body s) n v result e r → (b : Bool) → move_fits (body s) n v (length result) ≡ b
            → Ends (move_step n v driven) s result r e
        by_fit a g true f = let h = g.fit f in let m = move_made n v driven s result a f in record { reply = h.0 ∙ m.reply; slice = h.1 ∙ m.slice }
        by_fit a g false f = let h = g.unfit f in let m = move-unfit n v driven s result a f in record { reply = h.0 ∙ m.reply; slice = h.1 ∙ m.slice }

        by_checks : Answered (body s) n v driven result e r → (o : Outcome) → first (left_checks n driven (body s)) ≡ o → Ends (move_step n v driven) s result r e
        by_checks g (Ok tt) d = by_fit (asked ∙ d) (g.passed d) (move_fits (body s) n v (length result)) refl
        by_checks g (Err q) d =
            let h = g.refused q d in
            let m = move-refused n v driven s result q (asked ∙ d) in
            record { reply = h.0 ∙ m.reply; slice = h.1 ∙ m.slice }
