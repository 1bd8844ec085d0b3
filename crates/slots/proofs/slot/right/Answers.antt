use mathlib.Core.Path.{refl}
use Rattle.slots.specs.Slot.{right}
use Rattle.slots.proofs.slot.right.Goals as goal

pub returns : goal.returns
unfolding right
returns c = refl
