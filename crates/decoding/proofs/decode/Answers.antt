use mathlib.Core.Path.{refl}
use native.Mathlib.Omega.{arith}
use Rattle.decoding.specs.Words.{decoded}
use Rattle.decoding.proofs.Words.{word_more}
use Rattle.decoding.proofs.decode.Goals as goal

pub loop-i-init : goal.loop-i-init
unfolding decoded
loop-i-init c = refl

pub loop-i-preserved : goal.loop-i-preserved
loop-i-preserved c = rw c.loop-i.invariant (word_more _ _ _ _ (omega arith) c.word.ensures)
