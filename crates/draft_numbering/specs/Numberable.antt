-- What numbering a slot of a draft asks for, and what it makes.
use Rattle.std.specs.Prelude.{ℕ, ◌≤◌, ◌<◌, ◌≡◌, List, length, get_or}
use Rattle.logic.specs.Formula.{Formula}
use Rattle.table.specs.Numbering.{build}
use Rattle.numbering.specs.Held.{Held}
use Rattle.drafts.specs.Drafted.{Drafted}
use Rattle.placing.specs.State.{State, count, written, Numbered, Placing}

-- a slot's number, where it has one, is that of its formula in the table so far; 0 is for none
pub record Remembered (d numbers built : List ℕ) : Type 0 where
  pub held : (i : ℕ) (φ : Formula) → Drafted d φ i → 0 < get_or numbers i 0 → Held built φ (get_or numbers i 0)

-- the root stands for a formula, there are numbers and a stack for every slot, and the numbers are those of a table
pub record Numberable (d : List ℕ) (root : ℕ) (numbers stack built : List ℕ) : Type 0 where
  pub formula : Formula
  pub drafted : Drafted d formula root
  pub few : length d ≤ 1048576
  pub numbers_long : length d ≤ length numbers
  pub stack_long : length d ≤ length stack
  pub remembered : Remembered d numbers built

-- the formula of the root was placed, and the numbers are those of the table that was made
pub record Rooted (d : List ℕ) (root : ℕ) (s e : State) (numbers : List ℕ) (r : ℕ) : Type 0 where
  pub placed : (φ : Formula) → Drafted d φ root → Placing s e (build (written s) φ) r
  pub remembered : 0 < r → Remembered d numbers (written e)

-- numbers and a stack for every slot of a draft, no slot numbered, and no word written
pub record Fresh (d numbers stack : List ℕ) (s : State) : Type 0 where
  pub numbers_long : length d ≤ length numbers
  pub stack_long : length d ≤ length stack
  pub unnumbered : (i : ℕ) → get_or numbers i 0 ≡ 0
  pub numbered : Numbered s
  pub none : count s ≡ 0
