-- What a form is asked with.
use Rattle.std.specs.Prelude.{ℕ, ◌<◌, ◌≤◌, ◌≡◌, List, length}
use Rattle.table.specs.Steps.{fixpoints}
use Rattle.placing.specs.State.{State, Numbered}
use Rattle.fixpoints.specs.Positions.{Kept}
use Rattle.choosing.specs.Filled.{Roomy}

pub record Formable (t positions : List ℕ) (bits : ℕ) (d folded numbers stack : List ℕ) (s : State) : Type 0 where
  pub room : Roomy t d
  pub kept : Kept t positions (length t)
  pub long : length folded ≡ length d
  pub numbers_long : length d ≤ length numbers
  pub stack_long : length d ≤ length stack
  pub numbered : Numbered s
  pub bits_are : bits ≡ length (fixpoints t)
  pub few : bits < 32
