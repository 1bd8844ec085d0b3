-- The prefixes are taken off the stack from the top: proofs/Settling.
use mathlib.Core.Path.{◌≡◌}
use lib.ListN.{length}
use Rattle.placing.specs.State.{state}
use Rattle.settling.proofs.Settling.{Settling}
use Rattle.settling.proofs.settle.Given as goal

abbrev pub invariant-loop-top : goal.invariant-loop-top
invariant-loop-top l = (length l.out ≡ length l.initial.out) × (length l.index ≡ length l.initial.index) × Settling l.stack (state l.initial.out l.initial.index) (state l.out l.index) l.depth l.n l.top l.number
