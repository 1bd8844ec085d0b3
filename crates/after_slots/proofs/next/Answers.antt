use borrow.Author.Rules.{rules}
use mathlib.Core.Path.{refl}
use Rattle.after_slots.specs.Slots.{copied}
use Rattle.after_slots.proofs.next.Goals as goal

pub returns : goal.returns
unfolding copied
returns c = rw c.store.ensures refl
