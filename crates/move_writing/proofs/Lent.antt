-- A move numbered into the part of a slice that is lent.
use Prim.Native.Nat.{ℕ, ◌+◌, ◌*◌, ◌<◌, min}
use native.Mathlib.Omega.{arith}
use mathlib.Core.Path.{◌≡◌}
use mathlib.Core.List.{List, ◌++◌}
use lib.ListN.{length, take, drop}
use Rattle.std.specs.Prelude.{Option, None, Some}
use Rattle.table.specs.Answers.{OrNone}
use Rattle.placing.proofs.Written as writing
use Rattle.automata_tables.specs.Moves.{move_table}
use Rattle.move_rooms.specs.Rooms.{Moved}

-- the part of a longer slice that is lent serves as the whole
module _ (t : List ℕ) (n v : ℕ) (out part : List ℕ) (h : 7 * length t + 7 < length out) where
  one_part : (r : ℕ) → Moved t n v (take (7 * length t + 7) out) part r → Moved t n v out (part ++ drop (7 * length t + 7) out) r
  one_part r q =
      let whole : 7 * length t + 7 ≡ min (length out) (7 * length t + 7) = omega arith in
      record { written = writing.written_part (move_table t n v) out q.short whole q.written; short = q.short }

  pub moved_part : (r : Option ℕ) → OrNone (λ r. Moved t n v (take (7 * length t + 7) out) part r) r → OrNone (λ r. Moved t n v out (part ++ drop (7 * length t + 7) out) r) r
  moved_part None q = one_part 0 q
  moved_part (Some r) q = (q.0, one_part r q.1)
