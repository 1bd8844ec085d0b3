-- The parts of the choices so far are joined.
use Rattle.std.proofs.Common.{length, Some, None}
use Rattle.placing.specs.State.{state}
use Rattle.choosing.specs.Filled.{Laid}
use Rattle.sums.specs.Summed.{Grown}
use Rattle.part_sums.specs.Joining.{joined}
use Rattle.choices.proofs.ChoiceOrder.{fewer, so_far}
use Rattle.choices.proofs.all.Given as goal

abbrev pub invariant-loop-ones : goal.invariant-loop-ones
invariant-loop-ones l = record {
  laid : Laid l.table l.draft (length l.table);
  grown : Grown (joined l.table (fewer l.bits l.ones)) (state l.fn.out l.fn.index) (state l.out l.index) (Some None) (Some l.sum);
}

abbrev pub invariant-loop-choice : goal.invariant-loop-choice
invariant-loop-choice l = record {
  laid : Laid l.table l.draft (length l.table);
  grown : Grown (joined l.table (so_far l.bits l.limit l.ones l.choice)) (state l.fn.out l.fn.index) (state l.out l.index) (Some None) (Some l.sum);
}
