-- The loop's invariant is that of proofs/Parsing: a state of the reader whose image the code holds.
use mathlib.Core.Path.{◌≡◌}
use lib.ListN.{length}
use Rattle.placing.specs.State.{state, Numbered}
use Rattle.turns.specs.Numbers.{viewed, Fit}
use Rattle.parsing.proofs.Parsing.{Going}
use Rattle.parsing.proofs.parse.Given as goal

abbrev pub invariant-loop-i : goal.invariant-loop-i
invariant-loop-i l = (length l.stack ≡ length l.initial.stack)
    × (length l.out ≡ length l.initial.out)
    × (length l.index ≡ length l.initial.index)
    × Numbered (state l.out l.index)
    × Fit l.r.turn
    × Going l.text l.i (viewed l.r l.stack (state l.out l.index))
