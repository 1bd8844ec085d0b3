-- The invariant: the words before the one that is next stand, combined and moved.
use Prim.Native.Nat.{◌-◌}
use mathlib.Core.Path.{◌≡◌}
use lib.ListN.{length}
use Rattle.move_draft.specs.Filling.{Filled}
use Rattle.move_draft.proofs.fill.Given as goal

abbrev pub invariant-loop-j : goal.invariant-loop-j
invariant-loop-j l = (length l.draft ≡ length l.initial.draft) × Filled l.sample l.upper l.words l.draft (l.j - 1)
