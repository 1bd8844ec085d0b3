use Prim.Native.Nat.{ℕ}
use native.Mathlib.Omega.{arith}
use mathlib.Core.Bool.{true}
use lib.ListN.{length-replicate}
use Rattle.table.proofs.Accepted.{accepted-well-formed}
use Rattle.form_rooms.specs.Rooms.{positions_length}
use Rattle.forms.proofs.form.Goals as goal

pub count-bits-requires : goal.count-bits-requires
count-bits-requires c =
    let q = c.requires in
    record { limit = q.limit; accepted = q.accepted; few = q.few; long = rw (length-replicate {A = ℕ} positions_length 0) (omega (arith, q.short, (accepted-well-formed true _ _ q.accepted).few)) }

pub write-requires : goal.write-requires
write-requires c = record { table = c.requires; kept = c.count-bits.ensures.1; bits_are = c.count-bits.ensures.0 }
