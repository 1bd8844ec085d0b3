-- What a remainder's table is written with.
use Rattle.std.specs.Prelude.{ℕ, ◌+◌, ◌*◌, ◌≤◌, ◌≡◌, true, List, length}
use Rattle.std.specs.Prelude.{Ok}
use Rattle.table.specs.Checks.{checked}

-- an accepted table whose draft has at most so many slots, and a slice of no more words than that
pub record Asked (slots : ℕ) (t out : List ℕ) : Type 0 where
  pub accepted : checked true 16383 t ≡ Ok tt
  pub few : 3 * length t + 3 ≤ slots
  pub lent : length out ≤ 3 * length t + 3
