-- The words passed are those of the row.
use lib.ListN.{length, get_or}
use Rattle.row_words.specs.Row as rows
use Rattle.row_words.specs.Writing.{literal}
use Rattle.letter_rows.proofs.write_letter.Given as goal

abbrev pub invariant-loop-w : goal.invariant-loop-w
invariant-loop-w l = rows.Written (length l.samples) (λ i. literal l.letter l.positive (get_or l.samples i 0)) 0 l.w l.row
