-- What the part of a choice is, folded, and what it is asked with.
use Rattle.std.specs.Prelude.{ℕ, ◌^◌, ◌≤◌, ◌≡◌, List, length}
use Rattle.logic.specs.Formula.{Formula}
use Rattle.transforms.specs.NormalForm.{part}
use Rattle.transforms.specs.Folding.{fold}
use Rattle.table.specs.Table.{rule}
use Rattle.table.specs.Steps.{fixpoints}
use Rattle.placing.specs.State.{State, Numbered}
use Rattle.drafts.specs.Drafted.{Drafted}
use Rattle.choosing.specs.Filled.{Fillable}

abbrev pub folded_part : List ℕ → ℕ → Formula
folded_part t c = fold (part (fixpoints t) (rule t) c)

-- words that are laid out, and as many slots for the folded draft
pub record Ready (t positions d folded : List ℕ) : Type 0 where
  pub fillable : Fillable t positions d
  pub long : length folded ≡ length d

-- a slot that stands for a formula, a number and a place on the stack for each slot, and a table so far
pub record Numberless (folded : List ℕ) (root : ℕ) (numbers stack : List ℕ) (s : State) : Type 0 where
  pub formula : Formula
  pub drafted : Drafted folded formula root
  pub few : length folded ≤ 2 ^ 20
  pub numbers_long : length folded ≤ length numbers
  pub stack_long : length folded ≤ length stack
  pub numbered : Numbered s
