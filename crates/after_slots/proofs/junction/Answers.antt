use borrow.Author.Rules.{rules}
use mathlib.Core.Path.{refl}
use Rattle.after_slots.proofs.junction.Goals as goal

pub returns : goal.returns
returns c = rw (c.store-2.ensures, c.store.ensures) refl
