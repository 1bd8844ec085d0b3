use Rattle.table.specs.Table.{rule}
use Rattle.plain_rooms.proofs.Start.{started}
use Rattle.plain_rooms.proofs.draft_rule.Goals as goal

pub wanted-requires : goal.wanted-requires
wanted-requires c =
    started c.requires c.store.ensures c.store-2.ensures

pub returns : goal.returns
unfolding rule
returns c = c.wanted.ensures.drafted
