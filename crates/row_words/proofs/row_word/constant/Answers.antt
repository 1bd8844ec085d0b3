-- n ones, or none.
use Rattle.row_words.proofs.Bits.{pack-ones, pack-zeros}
use Rattle.row_words.proofs.row_word.constant.Goals as goal

pub returns-then-value : goal.returns-then-value
returns-then-value c i = rw (c.if-value.true, c.ones.ensures) (pack-ones i _)

pub returns-else-value : goal.returns-else-value
returns-else-value c i = rw c.if-value.false (pack-zeros i _)
