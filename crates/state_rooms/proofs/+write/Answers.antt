use native.Mathlib.Omega.{arith}
use Rattle.table.proofs.Accepted.{table-few}
use Rattle.state_rooms.proofs.+write.Goals as goal

pub of-requires-2 : goal.of-requires-2
of-requires-2 t c = (c.requires, table-few _ c.requires, omega arith)
