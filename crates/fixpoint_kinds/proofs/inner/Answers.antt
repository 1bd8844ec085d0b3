use native.Mathlib.Omega.{arith}
use mathlib.Core.Path.{ap, ◌∙◌}
use Rattle.form_places.specs.Places.{finally_slot, globally_slot}
use Rattle.fixpoint_kinds.proofs.inner.Goals as goal

pub place-requires : goal.place-requires
place-requires c = omega (arith, rw c.in-Least.is at c.requires)

pub finally-requires : goal.finally-requires
finally-requires c = omega (arith, c.place.ensures, rw c.in-Least.is at c.requires)

pub place-requires-in-Greatest : goal.place-requires-in-Greatest
place-requires-in-Greatest c = omega (arith, rw c.in-Greatest.is at c.requires)

pub globally-requires : goal.globally-requires
globally-requires c = omega (arith, c.place-in-Greatest.ensures, rw c.in-Greatest.is at c.requires)

pub returns-in-Least : goal.returns-in-Least
returns-in-Least c = rw c.in-Least.is (c.finally.ensures ∙ ap finally_slot c.place.ensures)

pub returns-in-Greatest : goal.returns-in-Greatest
returns-in-Greatest c = rw c.in-Greatest.is (c.globally.ensures ∙ ap globally_slot c.place-in-Greatest.ensures)
