-- No part of a choice so far folds to true.
use Rattle.std.proofs.Common.{length}
use Rattle.choosing.specs.Filled.{Laid}
use Rattle.true_parts.proofs.Looks.{Untrue}
use Rattle.true_parts.proofs.each.Given as goal

abbrev pub invariant-loop-choice : goal.invariant-loop-choice
invariant-loop-choice l = record {
  laid : Laid l.table l.draft (length l.table);
  untrue : Untrue l.table l.choice;
}
