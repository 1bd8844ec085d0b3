-- Whether the opening form by a choice, and whether the part of one of the choices among k until-like words, folds to true.
use Rattle.std.specs.Prelude.{ℕ, ◌^◌, ◌<◌, ◌≡◌, Bool, true, false, List}
use Rattle.logic.specs.Formula.{Formula, const}
use Rattle.transforms.specs.Rewriting.{opening}
use Rattle.transforms.specs.NormalForm.{member, least_of}
use Rattle.transforms.specs.Folding.{fold}
use Rattle.table.specs.Table.{rule}
use Rattle.table.specs.Steps.{fixpoints}
use Rattle.parts.specs.Parts.{folded_part}

abbrev pub opened_fold : List ℕ → ℕ → Formula
opened_fold t c = fold (opening (member (least_of (fixpoints t) c)) (rule t))

pub record Opened (t : List ℕ) (c : ℕ) (r : Bool) : Type 0 where
  pub folds : r ≡ true → opened_fold t c ≡ const true
  pub stays : r ≡ false → opened_fold t c ≡ const true → ⊥

pub record Looked (t : List ℕ) (k : ℕ) (r : Bool) : Type 0 where
  pub some : r ≡ true → (c : ℕ) × (c < 2 ^ k) × (folded_part t c ≡ const true)
  pub none : r ≡ false → (c : ℕ) → c < 2 ^ k → folded_part t c ≡ const true → ⊥
