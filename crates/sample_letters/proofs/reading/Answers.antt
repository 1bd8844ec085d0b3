use borrow.Author.Rules.{rules}
use Rattle.sample_letters.proofs.Constants.{held, denied}
use Rattle.sample_letters.proofs.reading.Goals as goal

pub returns-then-kind-eq3 : goal.returns-then-kind-eq3
returns-then-kind-eq3 c = held _ _ _ c.if-kind-eq3.true

pub returns : goal.returns
returns c = denied _ _ _ c.if-kind-eq3.false
