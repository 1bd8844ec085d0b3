-- The proof of the cycle of calls {write}: the number falls.
use Rattle.state_rooms.proofs.+write.Given as goal

abbrev pub decreases-write : goal.decreases-write
decreases-write l = l.most
