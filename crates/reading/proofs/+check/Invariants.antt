-- The proof of the cycle of calls {check}: the limit falls. The whole table first, and then its contents, in the least room that is enough.
use Rattle.reading.proofs.+check.Given as goal

abbrev pub decreases-check : goal.decreases-check
decreases-check l = l.limit
