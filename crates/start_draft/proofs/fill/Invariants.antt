-- The invariant: the words before the one that is next stand, combined.
use Prim.Native.Nat.{◌-◌}
use mathlib.Core.Path.{◌≡◌}
use lib.ListN.{length}
use Rattle.start_draft.specs.Filling.{Filled}
use Rattle.start_draft.proofs.fill.Given as goal

abbrev pub invariant-loop-j : goal.invariant-loop-j
invariant-loop-j l = (length l.draft ≡ length l.initial.draft) × Filled l.words l.draft (l.j - 1)
