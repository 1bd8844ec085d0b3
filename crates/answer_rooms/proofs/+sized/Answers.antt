use native.Mathlib.Omega.{arith}
use Rattle.table.proofs.Accepted.{table-few}
use Rattle.answer_rooms.proofs.+sized.Goals as goal

pub of-requires-2 : goal.of-requires-2
of-requires-2 t c =
    let few = table-few _ c.requires in
    (c.requires, few, omega (arith, few), omega arith, omega arith)
