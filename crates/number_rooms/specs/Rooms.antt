-- What a draft is numbered with from no words, and what that writes.
use Rattle.std.specs.Prelude.{ℕ, ◌≤◌, ◌<◌, List, length}
use Rattle.logic.specs.Formula.{Formula}
use Rattle.logic.specs.Letters.{Letters}
use Rattle.table.specs.Numbering.{table_of}
use Rattle.placing.specs.Written.{Written}
use Rattle.drafts.specs.Drafted.{Drafted}

-- a draft of at most so many slots, whose root stands for a formula, and a slice of no more words
pub record Asked (slots : ℕ) (d : List ℕ) (root : ℕ) (out : List ℕ) : Type 0 where
  pub formula : Formula
  pub drafted : Drafted d formula root
  pub long : length d ≤ slots
  pub lent : length out ≤ slots

-- the table of the root's formula is written
pub record Made (d : List ℕ) (root : ℕ) (out made : List ℕ) (r : ℕ) : Type 0 where
  pub written : (φ : Formula) → Drafted d φ root → Letters (λ p. p < 16384) φ → Written (table_of φ) out made r
