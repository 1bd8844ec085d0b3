-- The words so far are those of the choice.
use Rattle.choosing.specs.Filled.{Chosen}
use Rattle.choosing.proofs.choose_words.Given as goal

abbrev pub invariant-loop-i : goal.invariant-loop-i
invariant-loop-i l = Chosen l.table l.choice l.draft l.i
