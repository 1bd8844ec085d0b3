-- The invariant: the conversions of the words before word j stand.
use Rattle.std.proofs.Common.{◌-◌}
use Rattle.dialect_slots.specs.Filling.{Filled}
use Rattle.dialect_draft.proofs.fill.Given as goal

abbrev pub invariant-loop-j : goal.invariant-loop-j
invariant-loop-j l = Filled l.table l.draft (l.j - 1)
