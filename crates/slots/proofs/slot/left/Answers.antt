use mathlib.Core.Path.{refl}
use Rattle.slots.specs.Slot.{left}
use Rattle.slots.proofs.slot.left.Goals as goal

pub returns : goal.returns
unfolding left
returns c = refl
