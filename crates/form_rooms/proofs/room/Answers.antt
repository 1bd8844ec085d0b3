use Rattle.std.proofs.Common.{◌-◌, ◌/◌, arith}
use Rattle.form_rooms.proofs.Rooms.{formable, formed_all}
use Rattle.form_rooms.proofs.room.Goals as goal

pub form-requires : goal.form-requires
form-requires g c = let i = c.requires.index in formable g.row.SLOTS g.row.INDEX (g.row.INDEX / 2 - 1) c.requires.asked i.0 (omega arith) i.2

pub returns : goal.returns
returns g c = formed_all c.requires.asked.0.table g.row.INDEX _ c.args.out.now _ c.form.ensures
