-- The states fit the room of the slice, or the slice is cleared.
use Rattle.automaton_states.proofs.Ends.{listed_made, listed-short}
use Rattle.automaton_states.proofs.list.Goals as goal

pub returns-then-n-min : goal.returns-then-n-min
returns-then-n-min c = listed_made c.write-n.ensures c.min.ensures c.if-n-min.true

pub returns : goal.returns
returns c = listed-short c.write-n.ensures c.min.ensures c.if-n-min.false (c.fill.ensures.after (λ y e. e))
