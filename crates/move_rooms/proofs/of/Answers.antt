-- Nothing is drafted yet, and there is room.
use native.Mathlib.Omega.{arith}
use Rattle.automata_tables.specs.Moves.{as_formula, written_at}
use Rattle.number_rooms.proofs.Rooms.{still_long}
use Rattle.move_rooms.proofs.Rooms.{to_number, moved}
use Rattle.move_rooms.proofs.of.Goals as goal

pub number-requires : goal.number-requires
number-requires g c =
    let a = c.args in
    let q = c.requires in
    record {
      asked = to_number g.row.DRAFT g.row.SLOTS q.room.0 q.asked (as_formula (written_at a.words.now a.state a.sample)) c.fill-root.ensures.drafted (still_long g.row.DRAFT c.fill-root.auto.draft);
      index = (q.room.1, q.room.2, q.room.3);
    }

pub returns : goal.returns
returns g c =
    let a = c.args in
    let q = c.requires in
    let drafted = c.fill-root.ensures in
    moved g.row.DRAFT g.row.SLOTS q.room.0 q.asked c.fill-root.new.draft c.number.new.res a.state a.sample c.fill-root.result q.drawn drafted.drafted drafted.upper_bound
    (still_long g.row.DRAFT c.fill-root.auto.draft) (omega arith) c.number.result c.number.ensures
