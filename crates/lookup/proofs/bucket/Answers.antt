-- The product of the hash and the number of buckets fits.
use mathlib.Core.Path.{refl}
use native.Mathlib.Omega.{arith}
use Rattle.lookup.specs.Index.{hash_of, bucket_of}
use Rattle.lookup.proofs.Laws.{part_le, bucket_lt}
use Rattle.lookup.proofs.bucket.Goals as goal

pub overflow_mul-result-2 : goal.overflow_mul-result-2
unfolding hash_of
overflow_mul-result-2 c = omega (arith, part_le c.args.half c.from.result)

pub returns : goal.returns
unfolding bucket_of hash_of
returns c = rw c.from.ensures (refl, bucket_lt c.args.half c.args.w c.requires.0)
