use Rattle.placing.specs.State.{state}
use Rattle.number_rooms.proofs.Rooms.{numberable, all_written}
use Rattle.number_rooms.proofs.number.Goals as goal

pub number-requires : goal.number-requires
number-requires g c =
    let fit = c.requires.index in
    let h = numberable g.row.SLOTS g.row.INDEX c.requires.asked fit.0 fit.1 fit.2 in
    record { numbered = h.0; numberable = h.1 }

pub returns : goal.returns
returns g c =
    all_written g.row.INDEX c.args.draft.now c.args.root c.args.res.now c.number.new.numbers (state c.number.new.out c.number.new.index) c.number.result c.number.ensures
