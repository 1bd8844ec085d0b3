-- The length of the slice falls.
use Rattle.std.proofs.Common.{length}
use Rattle.forms.proofs.+write.Given as goal

abbrev pub decreases-write : goal.decreases-write
decreases-write l = length l.res.now
