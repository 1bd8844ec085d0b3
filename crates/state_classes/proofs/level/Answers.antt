-- The level of the first two bits where one of them is set.
use native.Mathlib.Omega.{arith}
use mathlib.Core.Path.{sym}
use borrow.Author.Rules.{rules}
use Rattle.logic.specs.Bit.{bit}
use Rattle.state_classes.proofs.Smallest.{level_first, level-second, one_digit}
use Rattle.state_classes.proofs.level.Goals as goal

pub overflow_add-digit : goal.overflow_add-digit
overflow_add-digit c = let byte = c.args.byte in omega (arith, one_digit (bit byte 1), one_digit (bit byte 2))

pub returns-then-digit-eq0 : goal.returns-then-digit-eq0
returns-then-digit-eq0 c = sym (level_first c.args.byte (omega arith))

pub returns : goal.returns
returns c = sym (level-second c.args.byte (λ e. omega arith))
