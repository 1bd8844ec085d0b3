-- What is told by every answered call of a watching automaton (`specs/Watching`), whatever else is known of the table.
use Prim.Native.Nat.{ℕ, ◌≤◌}
use native.Mathlib.Omega.{arith}
use mathlib.Core.Path.{◌≡◌, ap, ◌∙◌}
use mathlib.Core.Bool.{true}
use mathlib.Core.List.{List}
use lib.ListN.{length, take}
use borrow.Author.Tests.{ltb-false}
use Rattle.std.specs.Prelude.{Ok}
use Rattle.refusals.specs.Refusals.{first}
use Rattle.refusals.proofs.First.{first_append_both, first_passed}
use Rattle.table.specs.Table.{rule}
use Rattle.table.specs.Header.{body, headed_checked}
use Rattle.table.specs.Steps.{is_normal}
use Rattle.table.specs.Frame.{answer_of, result_of}
use Rattle.table.proofs.Normal.{normal-exactly}
use Rattle.table.proofs.Frame.{answered}
use Rattle.automata_tables.specs.States.{state_words}
use Rattle.automata_tables.specs.Moves.{move_table, as_positive}
use Rattle.automata_tables.specs.Recognises.{Recognises}
use Rattle.automata_tables.proofs.Promise.{headed-recognises}
use Rattle.automaton_steps.specs.Steps.{long_checks, watched_checks, asked_checks, states_step, move_step}
use Rattle.automaton_steps.proofs.States.{accepted_watched}
use Rattle.automaton_steps.proofs.Moves.{asked-accepted}
use Rattle.automaton_steps.specs.Watching.{Watched, Moved}

-- an accepted table in Δ₂
accepted-recognises : (s : List ℕ) → headed_checked true 16383 s ≡ Ok tt → is_normal (body s) ≡ true → Recognises (body s)
accepted-recognises s ok normal = headed-recognises 16383 s ok (omega arith) ((normal-exactly (body s)).0 normal)

-- at most as many as a table may have words
short : (k : ℕ) → first (long_checks k) ≡ Ok tt → k ≤ 16383
unfolding long_checks
short k e = ltb-false 16383 k (first_passed (long_checks k) e).0

-- of every answered call for the states
pub made_states : (s slice : List ℕ) (n : ℕ) → answer_of states_step s (length slice) ≡ Ok n → Watched s (take n (result_of states_step s slice))
made_states s slice n made =
    let a = answered states_step s slice n made in
    let checks = (first_append_both (watched_checks s) (long_checks (length (state_words (body s))))).0 a.accepted in
    let table = accepted_watched s checks.0 in
    record { words = a.front; recognises = accepted-recognises s table.0 table.1 }

-- of every answered call for a move
pub made_move : (q v driven : ℕ) (s slice : List ℕ) (n : ℕ) → answer_of (move_step q v driven) s (length slice) ≡ Ok n
    → Moved q v s (take n (result_of (move_step q v driven) s slice))
made_move q v driven s slice n made =
    let a = answered (move_step q v driven) s slice n made in
    let states : ℕ = length (state_words (body s)) in
    let words : ℕ = length (move_table (body s) q v) in
    let checks = (first_append_both (asked_checks q driven s) _).0 a.accepted in
    let longs = (first_append_both (long_checks states) (long_checks words)).0 checks.1 in
    let asked = asked-accepted q driven s checks.0 in
    let known : Recognises (body s) = accepted-recognises s asked.table asked.normal in
    record {
      words = a.front;
      inside = asked.inside;
      recognises = known;
      stands = ap (λ (u : List ℕ). as_positive (rule u)) a.front ∙ known.written q v (short states longs.0) (short words longs.1);
    }
