-- The index and the marks of operands, and what reading words tells.
use Rattle.std.specs.Prelude.{ℕ, ◌+◌, ◌≤◌, ◌<◌, ◌≡◌, Bool, List, [], length, get_or, take}
use Rattle.refusals.specs.Refusals.{Outcome}
use Rattle.std.specs.Prelude.{Ok}
use Rattle.refusals.specs.Refusals.{first}
use Rattle.table.specs.Checks.{word_checks, words_checks}
use Rattle.lookup.specs.Index.{half_of, Indexed}
use Rattle.use_faults.specs.Marks.{Marked}

-- there is room for the words of t
pub record Room (t index : List ℕ) (marks : List Bool) : Type 0 where
  pub words : length t < half_of index
  pub numbers : length t ≤ length marks

-- the words of t are in the index, and their operands marked
pub record Kept (t index : List ℕ) (marks : List Bool) : Type 0 where
  pub indexed : Indexed t index
  pub marked : Marked t marks

-- what reading the word after the first i tells, and what reading all words does
pub record WordRead (plain_only : Bool) (t : List ℕ) (i : ℕ) (r : Outcome) (index : List ℕ) (marks : List Bool) : Type 0 where
  pub answer : r ≡ first (word_checks plain_only (take i t) (i + 1) (get_or t i 0))
  pub kept : r ≡ Ok tt → Kept (take (i + 1) t) index marks

pub record WordsRead (plain_only : Bool) (t : List ℕ) (r : Outcome) (marks : List Bool) : Type 0 where
  pub answer : r ≡ first (words_checks plain_only [] t)
  pub marked : r ≡ Ok tt → Marked t marks
