-- A draft and the same draft folded.
use Rattle.std.specs.Prelude.{ℕ, ◌^◌, ◌≤◌, ◌<◌, List, length, get_or}
use Rattle.logic.specs.Formula.{Formula}
use Rattle.transforms.specs.Folding.{pick, fold}
use Rattle.table.specs.Node.{shape}
use Rattle.slots.specs.Slot.{kind, left, right}
use Rattle.drafts.specs.Drafted.{Drafted}
use Rattle.fold_rules.specs.Rules.{rule_of}

-- the slot of a word, over the slots a and b of its folded operands
abbrev pub folded_over : ℕ → ℕ → ℕ → ℕ
folded_over s a b = pick (rule_of (shape (kind s)) (shape (kind a)) (shape (kind b))) a b s

-- over the slots of a draft that is folded so far
unfoldable pub folded_slot : ℕ → List ℕ → ℕ
folded_slot s e = folded_over s (get_or e (left s) 0) (get_or e (right s) 0)

-- so many slots of d are there, and as many to write to; they fit the fields of a slot
pub record Foldable (d : List ℕ) (n : ℕ) (e : List ℕ) : Type 0 where
  pub within : n ≤ length d
  pub room : n ≤ length e
  pub narrow : n ≤ 2 ^ 20

-- the first n slots: what stands for a formula in d stands for the folded formula in e
pub record Folded (d e : List ℕ) (n : ℕ) : Type 0 where
  pub long : n ≤ length e
  pub slots : (φ : Formula) (i : ℕ) → i < n → Drafted d φ i → Drafted e (fold φ) i
