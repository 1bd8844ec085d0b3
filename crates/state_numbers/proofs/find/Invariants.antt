-- The state's word is not past the one that is looked at.
use Prim.Native.Nat.{pred, ◌-◌, ◌≤◌, ◌<◌}
use native.Mathlib.Omega.{arith}
use mathlib.Core.Path.{◌≡◌}
use lib.ListN.{length, get_or}
use borrow.Author.Rules.{rules}
use Rattle.state_numbers.specs.Numbered.{states_before}
use Rattle.state_numbers.proofs.States.{before_all}
use Rattle.state_numbers.proofs.Counting.{some_before, start_at}
use Rattle.state_numbers.proofs.find.Given as goal

abbrev pub invariant-loop-n : goal.invariant-loop-n
invariant-loop-n l = (l.n ≤ length l.words) × (l.state ≤ states_before l.words l.n)

abbrev pub decreases-loop-n : goal.decreases-loop-n
decreases-loop-n l = l.n
