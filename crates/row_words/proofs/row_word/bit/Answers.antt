-- Bit k is what a shift by k leaves lowest.
use mathlib.Core.Path.{refl}
use Rattle.logic.specs.Bit.{bit}
use Rattle.row_words.proofs.row_word.bit.Goals as goal

pub returns : goal.returns
unfolding bit
returns c = refl
