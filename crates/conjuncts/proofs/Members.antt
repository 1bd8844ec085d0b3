-- The members of a choice by their kind of fixpoint.
use Prim.Native.Nat.{ℕ, ◌<◌}
use mathlib.Core.Path.{◌≡◌, refl, sym, ◌∙◌}
use mathlib.Core.Bool.{Bool, true, false, ◌||◌, true≢false}
use mathlib.Core.List.{List}
use lib.ListN.{length, get_or}
use Rattle.logic.specs.Formula.{Formula, const}
use Rattle.transforms.specs.NormalForm.{is_least, is_fixpoint, keep, chosen, least_of, greatest_of}
use Rattle.table.specs.Table.{formulas}
use Rattle.table.specs.Steps.{fixpoints}
use Rattle.table.specs.StepChecks.{is_fixpoint_word}
use Rattle.table.proofs.Accepted.{WellFormed}
use Rattle.table.specs.Node.{kind}
use Rattle.fixpoints.proofs.UntilLike.{word-fixpoint, fixpoint-word}
use Rattle.rewriting.specs.Slots.{word_by}
use Rattle.fixpoint_kinds.specs.declared.Fixpoint.{Fixpoint}
use Rattle.fixpoint_kinds.specs.declared.Fixpoint.TheVariants.{Least, Greatest}
use Rattle.fixpoint_kinds.specs.Kinds.{picks}
use Rattle.conjuncts.specs.Conjunct.{members_of}

pub members_picked : (x : Fixpoint) (t : List ℕ) (c : ℕ) → members_of x t c ≡ keep (picks x) (chosen (fixpoints t) c)
unfolding least_of greatest_of
members_picked Least t c = refl
members_picked Greatest t c = refl

or_right : (a b : Bool) → b ≡ true → a || b ≡ true
or_right true b e = refl
or_right false b e = e

-- a least or a greatest fixpoint is a fixpoint
picked-fixpoint : (x : Fixpoint) (φ : Formula) → picks x φ ≡ true → is_fixpoint φ ≡ true
picked-fixpoint Least φ e = rw e
picked-fixpoint Greatest φ e = or_right (is_least φ) _ e

-- a word whose formula is one is until-like
pub picked-word : {limit : ℕ} {t : List ℕ} (f : WellFormed true limit t) (i : ℕ) (h : i < length t) (x : Fixpoint)
    → picks x (get_or (formulas t) i (const false)) ≡ true → is_fixpoint_word (get_or t i 0) ≡ true
picked-word f i h x e = sym (word-fixpoint f i h) ∙ picked-fixpoint x _ e

-- and one that is not until-like is neither, whatever its operands stand for
pub not_picked : (x : Fixpoint) (w : ℕ) → kind w < 16 → is_fixpoint_word w ≡ false → (a b : Formula) → picks x (word_by w a b) ≡ true → ⊥
not_picked x w k e a b p = true≢false (sym (picked-fixpoint x (word_by w a b) p) ∙ fixpoint-word w k _ a b ∙ e)
