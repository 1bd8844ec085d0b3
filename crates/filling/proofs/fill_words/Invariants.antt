-- The words so far are laid out.
use Rattle.choosing.specs.Filled.{Laid}
use Rattle.filling.proofs.fill_words.Given as goal

abbrev pub invariant-loop-i : goal.invariant-loop-i
invariant-loop-i l = Laid l.table l.draft l.i
