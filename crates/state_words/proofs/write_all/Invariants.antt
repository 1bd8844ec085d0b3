-- The states of the words passed stand at the front, where they fit.
use Rattle.state_words.proofs.Stating.{Stating}
use Rattle.state_words.proofs.write_all.Given as goal

abbrev pub invariant-loop-i : goal.invariant-loop-i
invariant-loop-i l = Stating l.words l.initial.res l.res l.made l.i
