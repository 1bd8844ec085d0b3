-- The bits of the smallest level that are set, of a proper word.
use native.Mathlib.Omega.{arith}
use Prim.Native.Nat.{◌+◌}
use mathlib.Core.Path.{sym, ◌∙◌}
use borrow.Author.Rules.{rules}
use Rattle.logic.specs.Bit.{bit}
use Rattle.state_classes.proofs.Smallest.{level_small, one_digit, read_none, read_count}
use Rattle.state_classes.proofs.count.Goals as goal

pub returns-then-not-is_proper : goal.returns-then-not-is_proper
returns-then-not-is_proper c = read_none c.args.kind c.args.byte (sym c.is_proper.ensures ∙ c.if-not-is_proper.true)

pub digit-requires : goal.digit-requires
digit-requires c = omega (arith, level_small c.args.byte)

pub overflow_add-sigma : goal.overflow_add-sigma
overflow_add-sigma c = omega (arith, level_small c.args.byte)

pub digit-requires-2 : goal.digit-requires-2
digit-requires-2 c = omega (arith, level_small c.args.byte)

pub overflow_add-result : goal.overflow_add-result
overflow_add-result c =
    let l = c.level-sigma.result in
    let byte = c.args.byte in
    omega (arith, one_digit (bit byte l), one_digit (bit byte (l + 1)))

pub returns : goal.returns
returns c =
    let a = c.args in
    read_count a.byte c.level-sigma.ensures c.digit.ensures a.kind (sym c.is_proper.ensures ∙ c.if-not-is_proper.false) c.digit-2.ensures
