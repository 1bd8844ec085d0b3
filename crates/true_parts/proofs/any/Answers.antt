use Rattle.std.proofs.Common.{◌-◌, ap}
use lib.Pow.{pow_pos}
use Rattle.true_parts.proofs.Looks.{shifted, ready_again, none_opened}
use Rattle.true_parts.proofs.any.Goals as goal

pub overflow_sub-bits : goal.overflow_sub-bits
overflow_sub-bits c = rw (shifted c.args.bits c.requires.bits_value.1) (pow_pos c.args.bits)

pub each-requires : goal.each-requires
each-requires c = (ready_again c.requires.ready c.opened.auto.draft c.opened.auto.folded c.opened.ensures.laid, c.requires.bits_value.1)

pub returns-else-opened : goal.returns-else-opened
returns-else-opened c = record {
  looked = rw c.if-opened.false (none_opened c.args.table.now c.args.bits c.requires.bits_value.0 (ap (λ x. x - 1) (shifted c.args.bits c.requires.bits_value.1)) c.opened.ensures.opened c.if-opened.false);
  laid = c.opened.ensures.laid;
}
