-- What a plain form is drafted and numbered with.
use Rattle.std.specs.Prelude.{ℕ, ◌+◌, ◌*◌, ◌≤◌, ◌≡◌, false, List, length, get_or}
use Rattle.std.specs.Prelude.{Ok}
use Rattle.table.specs.Checks.{checked}

-- an accepted table whose forms have at most so many slots, and a slice of no more words than that
pub record Asked (slots : ℕ) (t out : List ℕ) : Type 0 where
  pub limit : ℕ
  pub accepted : checked false limit t ≡ Ok tt
  pub few : 2 * length t + 2 ≤ slots
  pub lent : length out ≤ 2 * length t + 2

-- an accepted table, and a draft for its forms with nothing in it
pub record Empty (t d : List ℕ) : Type 0 where
  pub limit : ℕ
  pub accepted : checked false limit t ≡ Ok tt
  pub slots : 2 * length t + 2 ≤ length d
  pub few : length d ≤ 1048576
  pub empty : (i : ℕ) → get_or d i 0 ≡ 0
