-- Nothing is drafted yet, and there is room.
use Rattle.after_rooms.proofs.Rooms.{room_for, to_number, remainder_written}
use Rattle.after_rooms.proofs.write_in.Goals as goal

pub fill-requires : goal.fill-requires
fill-requires g c = room_for g.row.SLOTS c.requires.asked c.requires.index.0

pub number-requires : goal.number-requires
number-requires g c = record {
  asked = to_number g.row.SLOTS c.requires.asked _ c.fill.ensures c.fill.auto.draft;
  index = c.requires.index;
}

pub returns : goal.returns
returns g c = remainder_written g.row.SLOTS c.requires.asked _ c.fill.ensures _ _ c.number.ensures
