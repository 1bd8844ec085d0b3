-- The index and the marks are empty, and large enough.
use native.Mathlib.Omega.{arith}
use Rattle.faults.proofs.Marking.{room_for, kept_none}
use Rattle.check_rooms.proofs.fault.Goals as goal

pub fault_in-requires : goal.fault_in-requires
fault_in-requires g c =
    (room_for _ g.row.WORDS g.row.INDEX g.row.WORDS c.requires.roomy (omega (arith, c.requires.sized)) (omega arith), kept_none g.row.INDEX g.row.WORDS (omega (arith, c.requires.sized)) c.requires.sized.1)
