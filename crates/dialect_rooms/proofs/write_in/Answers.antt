-- Nothing is drafted yet, and there is room.
use Rattle.std.proofs.Common.{arith}
use Rattle.dialect_rooms.proofs.Rooms.{room_for, to_number, conversion_written}
use Rattle.dialect_rooms.proofs.write_in.Goals as goal

pub fill-requires : goal.fill-requires
fill-requires g c = room_for g.row.DRAFT c.requires.asked (omega (arith, c.requires.slots, c.requires.index.0))

pub number-requires : goal.number-requires
number-requires g c = record {
  asked = to_number g.row.DRAFT c.requires.asked c.fill.ensures c.requires.slots c.fill.auto.draft;
  index = c.requires.index;
}

pub returns : goal.returns
returns g c = conversion_written g.row.DRAFT c.requires.asked c.fill.ensures _ _ c.number.ensures
