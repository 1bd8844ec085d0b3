-- The bit of the letter.
use Prim.Native.Nat.{◌<◌}
use native.Mathlib.Nat.{mod-lt}
use native.Mathlib.Omega.{arith}
use Rattle.logic.specs.Lasso.{letter_in}
use Rattle.logic.specs.Bit.{bit}
use Rattle.row_words.proofs.Bits.{one_digit}
use Rattle.letter_bits.proofs.letter_bit.Goals as goal

pub returns : goal.returns
unfolding letter_in bit
returns c = let some : 0 < 2 = omega arith in rw c.from.ensures (one_digit _ (mod-lt _ some), mod-lt _ some)
