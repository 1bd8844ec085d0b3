-- The proof of the cycle of calls {write}: the length of the slice falls.
use lib.ListN.{length}
use Rattle.move_writing.proofs.+write.Given as goal

abbrev pub decreases-write : goal.decreases-write
decreases-write l = length l.res.now
