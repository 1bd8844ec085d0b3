-- A word added at the front of its chain; each earlier word keeps its own place.
use native.Mathlib.Numerals.{add-one}
use native.Mathlib.Omega.{arith}
use Rattle.indexing.proofs.Adding.{indexed_more}
use Rattle.indexing.proofs.add.Goals as goal

pub returns : goal.returns
returns c =
    λ t i.
    rw (c.from-n.ensures, c.bucket.ensures.0, i.count_at, add-one)
    (indexed_more t c.args.index.now c.args.w i (omega (arith, c.requires.0, i.count_at)))
