-- Choices whose parts do not fold to true: none at first, and one more at each step.
use Prim.Native.Nat.{ℕ, ◌+◌, ◌-◌, ◌^◌, ◌%◌, ◌*◌, ◌≤◌, ◌<◌}
use native.Mathlib.Nat.{eq-or-lt_of_le}
use native.Mathlib.Omega.{arith}
use mathlib.Core.Path.{◌≡◌, sym, ap, subst, ◌∙◌}
use mathlib.Core.Bool.{Bool, true, false, true≢false, false≢true}
use mathlib.Core.Logic.{◌⊎◌, inl, inr}
use mathlib.Core.List.{List}
use lib.ListN.{length, get_or}
use lib.Pow.{shl_exact}
use lib.Dec.{eqb}
use borrow.Author.Tests.{eqb-true, eqb-false}
use Rattle.logic.specs.Formula.{Formula, const}
use Rattle.transforms.proofs.Normal.TrueParts.{true_part}
use Rattle.table.specs.Table.{rule}
use Rattle.table.specs.Steps.{fixpoints}
use Rattle.slots.specs.Slot.{kind}
use Rattle.drafts.specs.Drafted.{Drafted}
use Rattle.drafts.proofs.Drafts.{drafted_within}
use Rattle.folding.proofs.Roots.{kind-constant, constant-kind}
use Rattle.choosing.specs.Filled.{Laid}
use Rattle.parts.specs.Parts.{folded_part, Ready}
use Rattle.true_parts.specs.Looked.{opened_fold, Opened, Looked}

-- as many choices as 1 shifted by so many bits
pub shifted : (k : ℕ) → k < 32 → (1 * 2 ^ k) % 2 ^ 32 ≡ 2 ^ k
shifted k h = shl_exact 1 k 32 (omega arith) (omega arith) ∙ omega arith

abbrev pub Untrue : List ℕ → ℕ → Type 0
Untrue t n = (c : ℕ) → c < n → folded_part t c ≡ const true → ⊥

-- the next choice is asked with the same, but for what the drafts hold
pub ready_again : {t positions d folded : List ℕ} → Ready t positions d folded → {d' f' : List ℕ} → length d' ≡ length d → length f' ≡ length folded → Laid t d' (length t) → Ready t positions d' f'
ready_again q l f laid = record {
  fillable = record {
    room = let r = q.fillable.room in record { limit = r.limit; accepted = r.accepted; long = rw l r.long; narrow = rw l r.narrow };
    kept = q.fillable.kept;
    laid = laid;
  };
  long = f ∙ q.long ∙ sym l;
}

module _ (t folded : List ℕ) (c root : ℕ) (drafted : Drafted folded (folded_part t c) root) (few : length folded ≤ 2 ^ 20) where
  pub found : (k : ℕ) → c < 2 ^ k → kind (get_or folded root 0) ≡ 2 → Looked t k true
  found k h e = record {
    some = λ z. (c, h, kind-constant folded root (omega (arith, drafted_within folded (folded_part t c) root drafted)) true (folded_part t c) drafted e);
    none = λ z. absurd (true≢false z);
  }

  pub untrue_next : (kind (get_or folded root 0) ≡ 2 → ⊥) → Untrue t c → Untrue t (c + 1)
  untrue_next e u d h = go (eq-or-lt_of_le (omega arith))
    where
      go : (d ≡ c) ⊎ (d < c) → folded_part t d ≡ const true → ⊥
      go (inl q) z = e (constant-kind folded root true (subst (λ (φ : Formula). Drafted folded φ root) (subst (λ (b : ℕ). folded_part t b ≡ const true) q z) drafted))
      go (inr q) z = u d q z

pub none_found : (t : List ℕ) (k : ℕ) → Untrue t (2 ^ k) → Looked t k false
none_found t k u = record { some = λ z. absurd (false≢true z); none = λ z. u }

-- what the kind of its slot tells of the opening form
pub opened_told : (t folded : List ℕ) (c last : ℕ) {k : ℕ} → Drafted folded (opened_fold t c) last → last < 2 ^ 20 → k ≡ kind (get_or folded last 0) → Opened t c (eqb k 2)
opened_told t folded c last {k} drafted narrow e = record {
  folds = λ z. kind-constant folded last narrow true (opened_fold t c) drafted (sym e ∙ eqb-true k 2 z);
  stays = λ z q. eqb-false k 2 z (e ∙ constant-kind folded last true (subst (λ (φ : Formula). Drafted folded φ last) q drafted));
}

-- where the opening form by all words does not fold to true, no part does
pub none_opened : (t : List ℕ) (k : ℕ) {c : ℕ} {r : Bool} → k ≡ length (fixpoints t) → c ≡ 2 ^ k - 1 → Opened t c r → r ≡ false → Looked t k false
none_opened t k {c} e q o z = none_found t k (λ d h p.
    o.stays z (subst (λ (m : ℕ). opened_fold t m ≡ const true) (sym (q ∙ ap (λ (j : ℕ). 2 ^ j - 1) e)) (true_part (fixpoints t) (rule t) d p)))
