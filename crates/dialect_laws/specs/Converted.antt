-- What a conversion keeps (document 02, N4), of a table s and the table v that is made of it, each with its header; body gives the words after it.
use Rattle.std.specs.Prelude.{ℕ, ◌<◌, ◌≤◌, ◌≡◌, ◌↔◌, true, List, length, get_or}
use Rattle.logic.specs.Lasso.{Lasso, word}
use Rattle.logic.specs.Semantics.{Holds}
use Rattle.logic.specs.ClassByte.{class_byte}
use Rattle.transforms.specs.Dialect.{dialect}
use Rattle.std.specs.Prelude.{Ok}
use Rattle.table.specs.Node.{kind}
use Rattle.table.specs.Table.{formulas, formula_of, rule}
use Rattle.table.specs.Header.{headed, body, headed_checked}
use Rattle.table.specs.Steps.{dialect_table}

-- of words: none is W, kind 9, or M, kind 11
pub record Free (t : List ℕ) : Type 0 where
  pub no_weak : (i : ℕ) → i < length t → kind (get_or t i 0) ≡ 9 → ⊥
  pub no_strong : (i : ℕ) → i < length t → kind (get_or t i 0) ≡ 11 → ⊥

-- of words u that are made of words t: the one that is the conversion of word j; its class byte is that of word j
pub record Counterpart (t u : List ℕ) (j : ℕ) : Type 0 where
  pub number : ℕ
  pub positive : 0 < number
  pub inside : number ≤ length u
  pub formula : formula_of (formulas u) number ≡ dialect (formula_of (formulas t) j)
  pub byte : class_byte (formula_of (formulas u) number) ≡ class_byte (formula_of (formulas t) j)

pub record Converted (s v : List ℕ) : Type 0 where
  -- the defined words under their header, which are an accepted plain table without W and M
  pub words : v ≡ headed (dialect_table (body s))
  pub accepted : headed_checked true 16383 v ≡ Ok tt
  pub free : Free (body v)
  -- it holds at every position of every lasso exactly where its source does
  pub holds : (r : Lasso) (i : ℕ) → Holds (word r) (rule (body v)) i ↔ Holds (word r) (rule (body s)) i
  -- every word has its counterpart, so that no word's class byte loses a bit
  pub counterpart : (j : ℕ) → 0 < j → j ≤ length (body s) → Counterpart (body s) (body v) j
  -- a table without W and M keeps its formula
  pub kept : Free (body s) → rule (body v) ≡ rule (body s)
  -- converting once more makes the same table
  pub again : headed (dialect_table (body v)) ≡ v
