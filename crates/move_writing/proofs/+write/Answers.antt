use Prim.Native.Nat.{ℕ, ◌<◌}
use native.Mathlib.Omega.{arith}
use mathlib.Core.Path.{sym}
use lib.ListN.{length}
use borrow.Author.Rules.{rules}
use Rattle.table.proofs.Accepted.{table-few}
use Rattle.placing.proofs.Written.{lent_length}
use Rattle.move_writing.proofs.Lent.{moved_part}
use Rattle.move_writing.proofs.+write.Goals as goal

pub overflow_mul-slots : goal.overflow_mul-slots
overflow_mul-slots t c = omega (arith, table-few _ c.requires.accepted)

pub overflow_add-slots : goal.overflow_add-slots
overflow_add-slots t c = omega (arith, table-few _ c.requires.accepted)

pub slice_bounds-write-end-then-slots-res : goal.slice_bounds-write-end-then-slots-res
slice_bounds-write-end-then-slots-res t c = sym (lent_length _ c.args.res.now c.if-slots-res.true)

pub write-requires : goal.write-requires
write-requires t c = (omega (arith, lent_length _ c.args.res.now c.if-slots-res.true), c.requires)

pub returns-then-slots-res : goal.returns-then-slots-res
returns-then-slots-res t c = moved_part _ _ _ c.args.res.now _ c.if-slots-res.true c.write.result c.write.ensures

pub of-requires-2-clause-asked : goal.of-requires-2-clause-asked
of-requires-2-clause-asked t c = record { few = omega (arith, table-few _ c.requires.accepted); lent = omega arith }
