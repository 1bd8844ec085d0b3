use borrow.Author.Rules.{rules}
use mathlib.Core.Path.{refl}
use Rattle.after_slots.specs.Slots.{stored}
use Rattle.after_slots.proofs.store.Goals as goal

pub returns : goal.returns
unfolding stored
returns c = rw (c.of-s.ensures, c.pack.ensures) refl
