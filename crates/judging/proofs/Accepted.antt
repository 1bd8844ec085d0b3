-- What an accepted call says of its table with its header, and of its words' rows.
use Prim.Native.Nat.{ℕ, ◌≤◌}
use mathlib.Core.Path.{◌≡◌, ap}
use mathlib.Core.Bool.{false}
use mathlib.Core.List.{List}
use native.Mathlib.Omega.{arith}
use lib.ListN.{length}
use Rattle.std.specs.Prelude.{Ok}
use Rattle.table.specs.Header.{body}
use Rattle.table.proofs.Accepted.{accepted-well-formed}
use Rattle.table_rows.specs.Rows.{Fillable}
use Rattle.judging.specs.Judging.{row_outcome}
use Rattle.judge_conditions.proofs.Outcomes.{Judgeable, judgeable}

pub accepted-facts : (t samples : List ℕ) (start driven : ℕ) (s : List ℕ) → row_outcome t samples start driven s ≡ Ok tt
    → Judgeable t (length samples) start driven (length s)
unfolding row_outcome
accepted-facts t samples start driven s e = judgeable t (length samples) start driven (length s) e

-- the words of what the row call accepts can be filled
pub accepted-fillable : (t samples : List ℕ) (start driven : ℕ) (s : List ℕ) → row_outcome t samples start driven s ≡ Ok tt → Fillable (body t) samples start s
accepted-fillable t samples start driven s e =
    let f = accepted-facts t samples start driven s e in
    record { accepted = f.accepted; some = f.some; few = f.few; inside = f.inside; room = f.room }

-- and there is one after the header
pub accepted-words : (t samples : List ℕ) (start driven : ℕ) (s : List ℕ) → row_outcome t samples start driven s ≡ Ok tt → 2 ≤ length t
accepted-words t samples start driven s e =
    let f = accepted-facts t samples start driven s e in omega (arith, ap length f.whole, (accepted-well-formed false 16383 (body t) f.accepted).some)
