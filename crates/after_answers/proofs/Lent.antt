-- What remains, numbered into the part of a slice that is lent.
use Prim.Native.Nat.{ℕ, ◌+◌, ◌*◌, ◌<◌, min}
use native.Mathlib.Omega.{arith}
use mathlib.Core.Path.{◌≡◌}
use mathlib.Core.Bool.{true}
use mathlib.Core.List.{List, ◌++◌}
use lib.ListN.{length, take, drop}
use Rattle.std.specs.Prelude.{Ok, Option, None, Some}
use Rattle.table.specs.Answers.{OrNone}
use Rattle.table.specs.Checks.{checked}
use Rattle.table.specs.Steps.{after_table}
use Rattle.placing.specs.Written.{Written}
use Rattle.placing.proofs.Written as writing
use Rattle.after_laws.proofs.Length.{after_short}

-- the part of a longer slice that is lent serves as the whole
module _ (v : ℕ) (t out part : List ℕ) (ok : checked true 16383 t ≡ Ok tt) (h : 3 * length t + 3 < length out) where
  part_written : (n : ℕ) → Written (after_table v t) (take (3 * length t + 3) out) part n → Written (after_table v t) out (part ++ drop (3 * length t + 3) out) n
  part_written n q =
      let whole : 3 * length t + 3 ≡ min (length out) (3 * length t + 3) = omega arith in
      writing.written_part (after_table v t) out (after_short v t ok) whole q

  pub written_part : (r : Option ℕ) → OrNone (λ n. Written (after_table v t) (take (3 * length t + 3) out) part n) r
      → OrNone (λ n. Written (after_table v t) out (part ++ drop (3 * length t + 3) out) n) r
  written_part None q = part_written 0 q
  written_part (Some n) q = (q.0, part_written n q.1)
