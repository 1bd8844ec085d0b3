use mathlib.Core.Path.{refl}
use Rattle.slots.specs.Slot.{kind}
use borrow.Author.Rules.{rules}
use Rattle.slots.proofs.slot.kind.Goals as goal

pub returns : goal.returns
unfolding kind
returns c = refl
