-- Nothing is drafted yet, and there is room.
use Rattle.std.proofs.Common.{arith}
use Rattle.plain_rooms.proofs.Rooms.{nothing-drafted, to_number, form-written}
use Rattle.plain_rooms.proofs.write_in.Goals as goal

pub draft_rule-root-requires : goal.draft_rule-root-requires
draft_rule-root-requires g c = nothing-drafted g.row.DRAFT c.requires.asked (omega (arith, c.requires.slots, c.requires.index.0))

pub number-requires : goal.number-requires
number-requires g c = record {
  asked = to_number g.row.DRAFT c.requires.asked c.draft_rule-root.new.draft c.draft_rule-root.result c.draft_rule-root.ensures c.requires.slots c.draft_rule-root.auto.draft;
  index = c.requires.index;
}

pub returns : goal.returns
returns g c = form-written g.row.DRAFT c.requires.asked c.draft_rule-root.new.draft c.draft_rule-root.result c.draft_rule-root.ensures _ _ c.number.ensures
