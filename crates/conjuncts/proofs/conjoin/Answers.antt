use native.Mathlib.Omega.{arith}
use lib.ListN.{length-set}
use Rattle.conjuncts.proofs.Stores.{three-conjoined}
use Rattle.conjuncts.proofs.conjoin.Goals as goal

pub bounds-draft-next-2 : goal.bounds-draft-next-2
bounds-draft-next-2 c = simp length-set (omega arith)

pub bounds-draft-next-3 : goal.bounds-draft-next-3
bounds-draft-next-3 c = simp length-set (omega arith)

pub shape_of-draft : goal.shape_of-draft
shape_of-draft c = simp length-set

pub returns : goal.returns
returns c = three-conjoined _ _ _ _ c.requires.within c.inner.ensures c.outer.ensures c.pack.ensures
