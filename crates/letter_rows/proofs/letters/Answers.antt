-- The letter's word, or the word with every bit denied.
use Rattle.letter_rows.proofs.Denied.{held, denied}
use Rattle.letter_rows.proofs.letters.Goals as goal

pub returns-then-positive : goal.returns-then-positive
returns-then-positive c =
    let a = c.args in
    held a.samples.now a.letter a.positive a.first a.n _ c.by_eights-word.ensures c.if-positive.true

pub returns-else-positive : goal.returns-else-positive
returns-else-positive c =
    let a = c.args in
    denied a.samples.now a.letter a.positive a.first a.n _ c.by_eights-word.ensures _ c.ones.ensures c.if-positive.false
