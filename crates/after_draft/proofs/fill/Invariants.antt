-- The invariant: the words before word j and their steps stand.
use Rattle.std.proofs.Common.{◌-◌}
use Rattle.after_draft.specs.Filling.{Filled}
use Rattle.after_draft.proofs.fill.Given as goal

abbrev pub invariant-loop-j : goal.invariant-loop-j
invariant-loop-j l = Filled l.sample l.table l.draft (l.j - 1)
