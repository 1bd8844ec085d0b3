-- The words passed have their numbers.
use mathlib.Core.Path.{◌≡◌}
use lib.ListN.{length}
use Rattle.state_numbers.proofs.Counting.{Counting}
use Rattle.state_numbers.proofs.number.Given as goal

abbrev pub invariant-loop-i : goal.invariant-loop-i
invariant-loop-i l = Counting l.words l.starts l.total l.i × (length l.starts ≡ length l.initial.starts)
