use Rattle.std.proofs.Common.{arith}
use Rattle.plain_rooms.proofs.Rooms.{asked-fewer}
use Rattle.plain_rooms.proofs.write.Goals as goal

-- a short table goes into the smaller room
pub write_in-requires : goal.write_in-requires
write_in-requires c = record {
  asked = asked-fewer c.requires (omega arith);
  slots = omega arith;
  index = (omega arith, omega arith, omega arith);
}
