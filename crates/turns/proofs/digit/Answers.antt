-- A number that is 0, one past 32, or a letter.
use native.Mathlib.Omega.{arith}
use mathlib.Core.Path.{refl}
use Rattle.turns.proofs.Making.{digit-out, digit_in, zero-out, large-out}
use Rattle.turns.proofs.digit.Goals as goal

pub returns-then-m-eq0 : goal.returns-then-m-eq0
returns-then-m-eq0 c = rw (← c.from.ensures) (digit-out _ _ c.stuck.ensures (zero-out _ c.if-m-eq0.true))

pub returns-then-m-gt32 : goal.returns-then-m-gt32
returns-then-m-gt32 c = rw (← c.from.ensures) (digit-out _ _ c.stuck-then-m-gt32.ensures (large-out _ c.if-m-gt32.true))

pub returns : goal.returns
returns c = rw (← c.from.ensures) (digit_in _ (omega arith) (omega arith), omega arith, refl)
