use mathlib.Core.Path.{refl}
use Rattle.slots.specs.Slot.{pack}
use borrow.Author.Rules.{rules}
use Rattle.slots.proofs.slot.pack.Goals as goal

pub returns : goal.returns
unfolding pack
returns c = refl
