-- What a plain form is made of.
use Rattle.std.specs.Prelude.{ℕ, ◌≤◌, ◌≡◌, false, List}
use Rattle.std.specs.Prelude.{Ok}
use Rattle.table.specs.Checks.{checked}

-- words that are accepted by a permitted limit
pub record Formable (words : List ℕ) : Type 0 where
  pub limit : ℕ
  pub accepted : checked false limit words ≡ Ok tt
  pub small : limit ≤ 256
