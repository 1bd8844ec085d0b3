-- An entry above the top.
use native.Mathlib.Numerals.{add-one}
use Rattle.turns.proofs.Making.{top_push}
use Rattle.turns.proofs.push.Goals as goal

pub returns : goal.returns
returns c = (rw add-one, top_push _ _ _ c.requires)
