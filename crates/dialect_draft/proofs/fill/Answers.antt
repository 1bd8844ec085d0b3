use Rattle.std.proofs.Common.{true, arith}
use Rattle.dialect_draft.proofs.fill.Goals as goal

pub convert_word-requires : goal.convert_word-requires
convert_word-requires c = record {
  room = record { accepted = c.requires.accepted; slots = omega (arith, c.requires.slots); few = omega (arith, c.requires.few) };
  word = record { plain = true; limit = 16383; accepted = c.requires.accepted; positive = omega arith; inside = omega arith };
  before = λ i p b. c.loop-j.invariant.form i p (omega arith);
}
