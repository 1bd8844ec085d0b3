-- The folded parts of choices, joined by a folding or; and what each choice is asked with.
use Rattle.std.specs.Prelude.{ℕ, ◌≤◌, ◌≡◌, true, length}
use mathlib.Core.List.{List, map, foldl}
use Rattle.logic.specs.Formula.{Formula, const, disj}
use Rattle.transforms.specs.Folding.{fold_binary}
use Rattle.placing.specs.State.{State, Numbered}
use Rattle.parts.specs.Parts.{folded_part, Ready}

-- a formula, and the folded parts of choices, from the left
abbrev pub joined : List ℕ → List ℕ → Formula → Formula
joined t cs χ = foldl (fold_binary disj) χ (map (folded_part t) cs)

-- the part of a choice does not fold to true
abbrev pub Untrue : List ℕ → ℕ → Type 0
Untrue t c = folded_part t c ≡ const true → ⊥

-- words that are laid out, a number and a place on the stack for each slot, and a table so far
pub record Joinable (t positions d folded numbers stack : List ℕ) (s : State) : Type 0 where
  pub ready : Ready t positions d folded
  pub numbers_long : length d ≤ length numbers
  pub stack_long : length d ≤ length stack
  pub numbered : Numbered s
