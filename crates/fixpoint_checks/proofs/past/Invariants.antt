-- The words so far have at most as many until-like words as the limit says.
use Rattle.fixpoint_checks.proofs.Counting.{Counting}
use Rattle.fixpoint_checks.proofs.past.Given as goal

abbrev pub invariant-loop-i : goal.invariant-loop-i
invariant-loop-i l = Counting l.table l.limit l.found l.i
