-- The conversion numbered into the part of a slice that is lent.
use Prim.Native.Nat.{ℕ, ◌+◌, ◌*◌, ◌<◌, min}
use native.Mathlib.Omega.{arith}
use mathlib.Core.Path.{◌≡◌}
use mathlib.Core.Bool.{true}
use mathlib.Core.List.{List, ◌++◌}
use lib.ListN.{length, take, drop}
use Rattle.std.specs.Prelude.{Ok, Option, None, Some}
use Rattle.table.specs.Answers.{OrNone}
use Rattle.table.specs.Checks.{checked}
use Rattle.table.specs.Steps.{dialect_table}
use Rattle.placing.specs.Written.{Written}
use Rattle.placing.proofs.Written as writing
use Rattle.dialect_laws.proofs.Length.{dialect-short}

-- the part of a longer slice that is lent serves as the whole
module _ (t out part : List ℕ) (ok : checked true 16383 t ≡ Ok tt) (h : 2 * length t + 2 < length out) where
  part_written : (n : ℕ) → Written (dialect_table t) (take (2 * length t + 2) out) part n → Written (dialect_table t) out (part ++ drop (2 * length t + 2) out) n
  part_written n q =
      let whole : 2 * length t + 2 ≡ min (length out) (2 * length t + 2) = omega arith in
      writing.written_part (dialect_table t) out (dialect-short t ok) whole q

  pub written_part : (r : Option ℕ) → OrNone (λ n. Written (dialect_table t) (take (2 * length t + 2) out) part n) r
      → OrNone (λ n. Written (dialect_table t) out (part ++ drop (2 * length t + 2) out) n) r
  written_part None q = part_written 0 q
  written_part (Some n) q = (q.0, part_written n q.1)
