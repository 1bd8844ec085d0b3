-- The measure is the word's number, since an operand is an earlier word.
use Rattle.plain_draft.proofs.+denied_wanted.Given as goal

abbrev pub decreases-denied : goal.decreases-denied
decreases-denied l = l.j

abbrev pub decreases-wanted : goal.decreases-wanted
decreases-wanted l = l.j
