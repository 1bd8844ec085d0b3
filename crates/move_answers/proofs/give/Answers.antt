-- The move is placed, or the slice is cleared.
use native.Mathlib.Omega.{arith}
use mathlib.Core.Path.{refl}
use Rattle.move_answers.proofs.Given.{given_made, given_none}
use Rattle.move_answers.proofs.give.Goals as goal

pub returns-in-Some : goal.returns-in-Some
returns-in-Some c = let q = c.in-Some.ensures in given_made q.1 (omega (arith, q.0))

pub returns-in-None : goal.returns-in-None
returns-in-None c = given_none c.in-None.ensures c.place.auto.res refl (c.fill.ensures.after (λ y e. e))
