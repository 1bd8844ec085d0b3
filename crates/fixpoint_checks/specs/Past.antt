-- What check 11 finds.
use Rattle.std.specs.Prelude.{ℕ, ◌<◌, ◌≡◌, List}
use Rattle.refusals.specs.declared.Refusal.TheVariants.{TooManyFixpoints}
use Rattle.std.specs.Prelude.{Ok, Err}
use Rattle.refusals.specs.Refusals.{first}
use Rattle.table.specs.StepChecks.{fixpoint_checks}

-- the place of the first until-like word past the limit, by which a table is refused; 0: there is none
pub record Past (t : List ℕ) (limit r : ℕ) : Type 0 where
  pub few : r ≡ 0 → first (fixpoint_checks limit 1 t) ≡ Ok tt
  pub many : 0 < r → first (fixpoint_checks limit 1 t) ≡ Err (TooManyFixpoints r)
