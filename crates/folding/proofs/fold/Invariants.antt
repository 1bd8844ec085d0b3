-- The slots so far are folded.
use Rattle.folding.specs.Folded.{Folded}
use Rattle.folding.proofs.fold.Given as goal

abbrev pub invariant-loop-i : goal.invariant-loop-i
invariant-loop-i l = Folded l.draft l.folded l.i
