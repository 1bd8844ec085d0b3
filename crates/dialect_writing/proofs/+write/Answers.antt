use native.Mathlib.Omega.{arith}
use Rattle.table.proofs.Accepted.{table-few}
use Rattle.placing.proofs.Written.{lent_length}
use Rattle.dialect_writing.proofs.Lent.{written_part}
use Rattle.dialect_writing.proofs.+write.Goals as goal

pub overflow_mul-slots : goal.overflow_mul-slots
overflow_mul-slots t c = omega (arith, table-few _ c.requires)

pub overflow_add-slots : goal.overflow_add-slots
overflow_add-slots t c = omega (arith, table-few _ c.requires)

pub write-requires : goal.write-requires
write-requires t c = (omega (arith, c.decreases, lent_length _ c.args.res.now c.if-slots-res.true), c.requires)

pub returns-then-slots-res : goal.returns-then-slots-res
returns-then-slots-res t c = written_part _ _ _ c.requires c.if-slots-res.true _ c.write.ensures

pub write_in-requires : goal.write_in-requires
write_in-requires t c = record {
  asked = record { accepted = c.requires; few = omega arith; lent = omega arith };
  slots = omega arith;
  index = (omega arith, omega arith, omega arith);
}

pub write_in-requires-then-table-le512 : goal.write_in-requires-then-table-le512
write_in-requires-then-table-le512 t c = record {
  asked = record { accepted = c.requires; few = omega arith; lent = omega arith };
  slots = omega arith;
  index = (omega arith, omega arith, omega arith);
}

pub write_in-requires-2 : goal.write_in-requires-2
write_in-requires-2 t c = record {
  asked = record { accepted = c.requires; few = omega (arith, table-few _ c.requires); lent = omega arith };
  slots = omega arith;
  index = (omega arith, omega arith, omega arith);
}
