-- The forms of words that stand in the draft of a choice.
use Rattle.std.specs.Prelude.{ℕ, ◌<◌, ◌≤◌, List}
use Rattle.logic.specs.Formula.{Formula}
use Rattle.transforms.specs.NormalForm.{member, least_of, greatest_of}
use Rattle.table.specs.Table.{formulas, formula_of}
use Rattle.table.specs.Steps.{fixpoints}
use Rattle.slots.specs.Slot.{pack}
use Rattle.drafts.specs.Drafted.{SlotIs, Drafted}
use Rattle.form_places.specs.declared.Rewriting.{Rewriting}
use Rattle.form_places.specs.Places.{place}
use Rattle.rewriting.specs.Slots.{by}

-- a formula rewritten by choice c of table t
abbrev pub rewritten : Rewriting → List ℕ → ℕ → Formula → Formula
rewritten m t c φ = by m (member (least_of (fixpoints t) c)) (member (greatest_of (fixpoints t) c)) φ

-- that of word j
abbrev pub form_of : Rewriting → List ℕ → ℕ → ℕ → Formula
form_of m t c j = rewritten m t c (formula_of (formulas t) j)

-- the forms of the first i words, after the two constants
pub record Filled (t : List ℕ) (c : ℕ) (d : List ℕ) (i : ℕ) : Type 0 where
  pub false_slot : SlotIs d 0 (pack 1 0 0)
  pub true_slot : SlotIs d 1 (pack 2 0 0)
  pub form : (m : Rewriting) (j : ℕ) → 0 < j → j ≤ i → Drafted d (form_of m t c j) (place m j)
