-- Words that have a header.
use Rattle.std.specs.Prelude.{ℕ, ◌≤◌, ◌≡◌, Bool, List}
use Rattle.std.specs.Prelude.{Ok}
use Rattle.table.specs.Checks.{checked}

-- words that pass the checks of some step
pub record Headable (t : List ℕ) : Type 0 where
  pub plain_only : Bool
  pub limit : ℕ
  pub accepted : checked plain_only limit t ≡ Ok tt
  pub small : limit ≤ 16383
