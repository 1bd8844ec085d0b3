-- The theorem over lassos, with no other hypothesis: a lasso decides every formula and is stable from its loop start on.
use Prim.Native.Nat.{ℕ, ◌^◌, ◌<◌}
use mathlib.Core.Logic.{◌↔◌}
use mathlib.Core.List.{List, Memᴰ}
use lib.ListN.{length}
use lib.Dec.{T}
use Rattle.logic.specs.Formula.{Formula}
use Rattle.logic.specs.Lasso.{Lasso, word}
use Rattle.logic.specs.Semantics.{Holds}
use Rattle.logic.specs.Hierarchy.{Δ₂}
use Rattle.logic.specs.NegationNormalForm.{is_plain}
use Rattle.transforms.specs.NormalForm.{least_of, greatest_of, part, normal_form}
use Rattle.logic.proofs.Lasso.Truth.{holds-decided}
use Rattle.logic.proofs.Lasso.Stability.{F_somewhere, G_everywhere}
use Rattle.transforms.specs.Subformula.{Numbers}
use Rattle.transforms.specs.Recurrence.{InfinitelyOften, AlmostAlways}
use Rattle.transforms.specs.Choice.{Exact}
use Rattle.transforms.proofs.Normal.PlainFormula.{plain-formula, plain-sub}
use Rattle.transforms.proofs.Normal.Stability.{Stable}
use Rattle.transforms.proofs.Normal.Choices.{choice_by, choice_below}
use Rattle.transforms.proofs.Normal.Parts as parts
use Rattle.transforms.proofs.Normal.ExactChoice as exact
use Rattle.transforms.proofs.Normal.NormalForm as forms
use Rattle.transforms.proofs.Normal.Class as classes

pub lasso_stable : (r : Lasso) → Stable (word r)
lasso_stable r =
    record {
      decided = holds-decided r;
      position = r.start;
      finally_stable = λ φ i j si sj x. (F_somewhere r φ j sj).1 ((F_somewhere r φ i si).0 x);
      globally_stable = λ φ i j si sj x. (G_everywhere r φ j sj).1 ((G_everywhere r φ i si).0 x);
    }

-- a lasso has its exact choice among the numbered fixpoints
pub exact_choice : (r : Lasso) (ψs : List Formula) → (c : ℕ) × (c < 2 ^ length ψs) × Exact (word r) ψs c
exact_choice r ψs =
    let p = exact.lasting (lasso_stable r) in
    (choice_by p ψs, choice_below p ψs, exact.exact_choice (lasso_stable r) ψs)

module _ (ψs : List Formula) (φ : Formula) (plain : T (is_plain φ)) (numbers : Numbers ψs φ) where
  -- Theorem 23: the normal form holds where the formula holds, and is in Δ₂
  pub normal_form-holds : (r : Lasso) (i : ℕ) → Holds (word r) (normal_form ψs φ) i ↔ Holds (word r) φ i
  normal_form-holds r i = forms.normal_form-holds (lasso_stable r) ψs (plain-formula φ plain) i numbers

  pub normal_form-Δ₂ : Δ₂ (normal_form ψs φ)
  normal_form-Δ₂ =
      let p = plain-formula φ plain in
      classes.normal_form-Δ₂ ψs p (λ ψ m. plain-sub (numbers.inside ψ m) p)

  -- a part that holds has chosen only fixpoints that hold infinitely often, or from some position on
  pub part_least : (r : Lasso) (c i : ℕ) → Holds (word r) (part ψs φ c) i → (ψ : Formula) → Memᴰ ψ (least_of ψs c)
      → InfinitelyOften (Holds (word r) ψ)
  part_least r c i = parts.part_least (lasso_stable r) ψs (plain-formula φ plain) c i numbers

  pub part_greatest : (r : Lasso) (c i : ℕ) → Holds (word r) (part ψs φ c) i → (ψ : Formula) → Memᴰ ψ (greatest_of ψs c)
      → AlmostAlways (Holds (word r) ψ)
  part_greatest r c i = parts.part_greatest (lasso_stable r) ψs (plain-formula φ plain) c i numbers

  -- a part that holds makes the formula hold, and where the formula holds so does the part of the exact choice
  pub part_sound : (r : Lasso) (c i : ℕ) → Holds (word r) (part ψs φ c) i → Holds (word r) φ i
  part_sound r c i = parts.part_sound (lasso_stable r) ψs (plain-formula φ plain) c i

  pub part_complete : (r : Lasso) (c i : ℕ) → Exact (word r) ψs c → Holds (word r) φ i → Holds (word r) (part ψs φ c) i
  part_complete r c i = parts.part_complete (lasso_stable r) ψs (plain-formula φ plain) c i numbers
