-- The conjuncts of the words so far are joined.
use Rattle.conjuncts.proofs.Conjoining.{Joining}
use Rattle.conjuncts.proofs.conjuncts.Given as goal

abbrev pub invariant-loop-i : goal.invariant-loop-i
invariant-loop-i l = Joining l.fixpoint l.table l.choice l.initial.draft l.first l.draft l.next l.i
