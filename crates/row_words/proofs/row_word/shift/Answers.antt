-- The shift leaves the last position free for the digit of the word after.
use native.Mathlib.Nat.{mod-lt}
use native.Mathlib.Omega.{arith}
use Rattle.row_words.proofs.Words.{next_law}
use Rattle.row_words.proofs.row_word.shift.Goals as goal

pub returns : goal.returns
returns c A i e =
    let a = c.args in
    next_law A i a.n a.x _ (mod-lt a.after (omega arith)) (omega arith) (omega arith) e
