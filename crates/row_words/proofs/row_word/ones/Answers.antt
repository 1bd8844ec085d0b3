-- 64 ones, shifted, are n ones.
use native.Mathlib.Omega.{arith}
use Rattle.row_words.proofs.Words.{shifted-ones}
use Rattle.row_words.proofs.row_word.ones.Goals as goal

pub returns : goal.returns
returns c = shifted-ones c.args.n (omega arith)
