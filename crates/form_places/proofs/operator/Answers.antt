use mathlib.Core.Path.{◌∙◌}
use borrow.Author.Rules.{rules}
use Rattle.form_places.specs.Places.{place}
use Rattle.form_places.proofs.Places.{place-fits}
use Rattle.form_places.proofs.operator.Goals as goal

pub pack-requires : goal.pack-requires
pack-requires c =
    let w = c.args.w in
    let m = c.args.rewriting in
    let p = c.requires in (
      p.0,
      rw (c.place.ensures, c.left.ensures) (place-fits m _ _ p.1.left_fits),
      rw (c.place-2.ensures, c.right.ensures) (place-fits m _ _ p.1.right_fits),
    )

pub returns : goal.returns
returns c = c.pack.ensures ∙ rw (c.place.ensures, c.left.ensures, c.place-2.ensures, c.right.ensures)
