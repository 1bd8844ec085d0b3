use native.Mathlib.Omega.{arith}
use lib.ListN.{length-set}
use Rattle.state_slots.proofs.three.Goals as goal

pub bounds-draft-i-2 : goal.bounds-draft-i-2
bounds-draft-i-2 c = simp length-set (omega arith)
