-- The draft of a step by the sample v: each word of the table, and its step.
use Rattle.std.specs.Prelude.{ℕ, ◌+◌, ◌*◌, ◌<◌, ◌≤◌, ◌≡◌, true, List, length}
use Rattle.logic.specs.Formula.{Formula}
use Rattle.transforms.specs.Folding.{fold}
use Rattle.transforms.specs.After.{after}
use Rattle.std.specs.Prelude.{Ok}
use Rattle.table.specs.Table.{formulas, formula_of}
use Rattle.table.specs.Checks.{checked}
use Rattle.drafts.specs.Drafted.{Drafted}
use Rattle.source.specs.Source.{Inside}

-- the formula of word j
abbrev pub word_of : List ℕ → ℕ → Formula
word_of t j = formula_of (formulas t) j

-- an accepted table, and a draft with slots for its words
pub record Room (t d : List ℕ) : Type 0 where
  pub accepted : checked true 16383 t ≡ Ok tt
  pub slots : 3 * length t + 3 ≤ length d
  pub few : length d ≤ 1048576

-- word j and its step stand, folded
pub record Stepped (v : ℕ) (t d : List ℕ) (j : ℕ) : Type 0 where
  pub own : Drafted d (fold (word_of t j)) (3 * j)
  pub step : Drafted d (fold (after v (word_of t j))) (3 * j + 2)

-- those of the first n words
pub record Filled (v : ℕ) (t d : List ℕ) (n : ℕ) : Type 0 where
  pub word : (j : ℕ) → 0 < j → j ≤ n → Stepped v t d j

-- those of the words before word j
pub record Next (v : ℕ) (t d : List ℕ) (j : ℕ) : Type 0 where
  pub room : Room t d
  pub word : Inside t j
  pub before : (i : ℕ) → 0 < i → i < j → Stepped v t d i
