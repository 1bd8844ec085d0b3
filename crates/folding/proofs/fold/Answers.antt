use Rattle.std.proofs.Common.{arith}
use Rattle.folding.proofs.Folds.{folded_next}
use Rattle.folding.proofs.fold.Goals as goal

pub loop-i-preserved : goal.loop-i-preserved
loop-i-preserved c = rw c.of.ensures (folded_next c.loop-i.invariant (omega arith) (omega arith))
