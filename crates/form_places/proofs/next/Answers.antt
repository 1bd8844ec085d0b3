use native.Mathlib.Omega.{arith}
use mathlib.Core.Path.{◌∙◌}
use borrow.Author.Rules.{rules}
use Rattle.form_places.proofs.Places.{place-fits}
use Rattle.form_places.proofs.next.Goals as goal

pub pack-requires : goal.pack-requires
pack-requires c = (
  omega arith,
  omega arith,
  rw (c.place.ensures, c.right.ensures) (place-fits c.args.rewriting _ _ c.requires.right_fits),
)

pub returns : goal.returns
returns c = c.pack.ensures ∙ rw (c.place.ensures, c.right.ensures)
