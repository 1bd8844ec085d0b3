use native.Mathlib.Omega.{arith}
use Rattle.row_words.proofs.Rows.{pack-word, written_none, written_row, written-up}
use Rattle.letter_rows.proofs.write_letter.Goals as goal

pub loop-w-init : goal.loop-w-init
loop-w-init c = written_none (omega arith)

pub loop-w-preserved : goal.loop-w-preserved
loop-w-preserved c =
    let l = c.loop-w in written-up l.invariant (omega arith) (pack-word _ _ l.w _ _ c.filled.ensures c.letters.ensures)

pub returns : goal.returns
returns c = written_row (omega arith) (omega arith) c.loop-w.invariant
