use borrow.Author.Rules.{rules}
use mathlib.Core.Path.{refl}
use Rattle.fixpoint_slots.proofs.fixpoint.Goals as goal

pub returns : goal.returns
returns c =
    rw (c.store-3.ensures, c.store-2.ensures, c.store.ensures) refl
