-- Bits that are not driven are never looked at by the call for a move.
use Prim.Native.Nat.{ℕ}
use native.Mathlib.Omega.{arith}
use mathlib.Core.Path.{◌≡◌, refl, sym, ◌∙◌}
use mathlib.Core.Bool.{true}
use mathlib.Core.List.{List}
use lib.ListN.{length}
use Rattle.logic.specs.Driven.{Driven, SameBits}
use Rattle.refusals.specs.Refusals.{Outcome}
use Rattle.std.specs.Prelude.{Ok, Err}
use Rattle.refusals.specs.Refusals.{first}
use Rattle.table.specs.Header.{body}
use Rattle.table.specs.Frame.{outcome_of, answer_of, result_of}
use Rattle.table.proofs.Accepted.{WellFormed, accepted-well-formed}
use Rattle.table.proofs.Header.{accepted-headed}
use Rattle.numbering.proofs.Driven.{driven-exactly}
use Rattle.automata_tables.specs.Moves.{move_table}
use Rattle.automata_tables.proofs.Letters.{table_same}
use Rattle.automaton_steps.specs.Steps.{asked_checks, move_step}
use Rattle.automaton_steps.proofs.Moves.{asked-accepted, move-refused}

-- samples that have the same driven bits are answered alike, accepted and refused, and leave the same slice
module _ (q driven v w : ℕ) (e : SameBits driven v w) (s slice : List ℕ) where
  same_table : first (asked_checks q driven s) ≡ Ok tt → move_table (body s) q v ≡ move_table (body s) q w
  same_table ok =
      let a = asked-accepted q driven s ok in
      let formed : WellFormed true 16383 (body s) = accepted-well-formed true 16383 (body s) (accepted-headed true 16383 s a.table).words in
      table_same (Driven driven) (omega arith) formed ((driven-exactly formed driven).0 a.sample.letters) v w e q

  pub same_answer : answer_of (move_step q v driven) s (length slice) ≡ answer_of (move_step q w driven) s (length slice)
  unfolding answer_of outcome_of
  same_answer = go (first (asked_checks q driven s)) refl
    where
      go : (o : Outcome) → first (asked_checks q driven s) ≡ o → answer_of (move_step q v driven) s (length slice) ≡ answer_of (move_step q w driven) s (length slice)
      go (Ok tt) h = rw (same_table h)
      go (Err r) h = sym (move-refused q v driven s slice r h).reply ∙ (move-refused q w driven s slice r h).reply

  pub same_result : result_of (move_step q v driven) s slice ≡ result_of (move_step q w driven) s slice
  unfolding result_of outcome_of
  same_result = go (first (asked_checks q driven s)) refl
    where
      go : (o : Outcome) → first (asked_checks q driven s) ≡ o → result_of (move_step q v driven) s slice ≡ result_of (move_step q w driven) s slice
      go (Ok tt) h = rw (same_table h)
      go (Err r) h = sym (move-refused q v driven s slice r h).slice ∙ (move-refused q w driven s slice r h).slice
