-- Conjunctions and disjunctions from the left: what they mean, and that a class closed under both contains them.
use Prim.Native.Nat.{ℕ}
use mathlib.Core.Bool.{false}
use mathlib.Core.Path.{refl, sym, subst}
use mathlib.Core.Logic.{◌⊎◌, inl, inr}
use mathlib.Core.List.Memᴰ
use mathlib.Core.List.{List, [], ◌∷◌, foldl, Memᴰ}
use Rattle.logic.specs.Formula.{Formula, const, bin, conj, disj}
use Rattle.logic.specs.Lasso.{Word}
use Rattle.logic.specs.Semantics.{Holds}
use Rattle.logic.specs.Hierarchy.{Closing, Closure, join}
use Rattle.transforms.specs.NormalForm.{disjoin}

module _ (σ : Word) (i : ℕ) where
  pub conjunction_intro : (l : List Formula) (χ : Formula) → Holds σ χ i → ((ψ : Formula) → Memᴰ ψ l → Holds σ ψ i)
      → Holds σ (foldl (bin conj) χ l) i
  conjunction_intro [] χ x h = x
  conjunction_intro (ψ ∷ l) χ x h = conjunction_intro l (bin conj χ ψ) (x, h ψ (Memᴰ.head refl)) (λ θ m. h θ (Memᴰ.tail m))

  pub conjunction_first : (l : List Formula) (χ : Formula) → Holds σ (foldl (bin conj) χ l) i → Holds σ χ i
  conjunction_first [] χ x = x
  conjunction_first (ψ ∷ l) χ x = (conjunction_first l (bin conj χ ψ) x).0

  pub conjunction_each : {ψ : Formula} (l : List Formula) (χ : Formula) → Holds σ (foldl (bin conj) χ l) i → Memᴰ ψ l → Holds σ ψ i
  conjunction_each [] χ x m = absurd (Memᴰ.not-nil m)
  conjunction_each (θ ∷ l) χ x (Memᴰ.head e) = subst (λ ψ. Holds σ ψ i) (sym e) (conjunction_first l (bin conj χ θ) x).1
  conjunction_each (θ ∷ l) χ x (Memᴰ.tail m) = conjunction_each l (bin conj χ θ) x m

  disjunction_first : (l : List Formula) (χ : Formula) → Holds σ χ i → Holds σ (foldl (bin disj) χ l) i
  disjunction_first [] χ x = x
  disjunction_first (ψ ∷ l) χ x = disjunction_first l (bin disj χ ψ) (inl x)

  disjunction_each : {ψ : Formula} (l : List Formula) (χ : Formula) → Memᴰ ψ l → Holds σ ψ i → Holds σ (foldl (bin disj) χ l) i
  disjunction_each [] χ m x = absurd (Memᴰ.not-nil m)
  disjunction_each (θ ∷ l) χ (Memᴰ.head e) x = disjunction_first l (bin disj χ θ) (inr (subst (λ ψ. Holds σ ψ i) e x))
  disjunction_each (θ ∷ l) χ (Memᴰ.tail m) x = disjunction_each l (bin disj χ θ) m x

  disjunction_cases : (l : List Formula) (χ : Formula) → Holds σ (foldl (bin disj) χ l) i
      → Holds σ χ i ⊎ ((ψ : Formula) × Memᴰ ψ l × Holds σ ψ i)
  disjunction_cases [] χ x = inl x
  disjunction_cases (ψ ∷ l) χ x = go (disjunction_cases l (bin disj χ ψ) x)
    where
      go : Holds σ (bin disj χ ψ) i ⊎ ((θ : Formula) × Memᴰ θ l × Holds σ θ i)
          → Holds σ χ i ⊎ ((θ : Formula) × Memᴰ θ (ψ ∷ l) × Holds σ θ i)
      go (inl (inl y)) = inl y
      go (inl (inr y)) = inr (ψ, Memᴰ.head refl, y)
      go (inr t) = inr (t.0, Memᴰ.tail t.1, t.2)

  pub disjoin_intro : {ψ : Formula} (l : List Formula) → Memᴰ ψ l → Holds σ ψ i → Holds σ (disjoin l) i
  disjoin_intro [] m x = absurd (Memᴰ.not-nil m)
  disjoin_intro (θ ∷ l) (Memᴰ.head e) x = disjunction_first l θ (subst (λ ψ. Holds σ ψ i) e x)
  disjoin_intro (θ ∷ l) (Memᴰ.tail m) x = disjunction_each l θ m x

  pub disjoin-elim : (l : List Formula) → Holds σ (disjoin l) i → (ψ : Formula) × Memᴰ ψ l × Holds σ ψ i
  disjoin-elim [] x = absurd x
  disjoin-elim (θ ∷ l) x = go (disjunction_cases l θ x)
    where
      go : Holds σ θ i ⊎ ((ψ : Formula) × Memᴰ ψ l × Holds σ ψ i) → (ψ : Formula) × Memᴰ ψ (θ ∷ l) × Holds σ ψ i
      go (inl y) = (θ, Memᴰ.head refl, y)
      go (inr t) = (t.0, Memᴰ.tail t.1, t.2)

module _ {Base : Formula → Type 0} {c : Closing} where
  pub conjunction_closed : {χ : Formula} (l : List Formula) → Closure Base c χ
      → ((ψ : Formula) → Memᴰ ψ l → Closure Base c ψ) → Closure Base c (foldl (bin conj) χ l)
  conjunction_closed [] p h = p
  conjunction_closed (ψ ∷ l) p h = conjunction_closed l (join tt p (h ψ (Memᴰ.head refl))) (λ θ m. h θ (Memᴰ.tail m))

  disjunction_closed : {χ : Formula} (l : List Formula) → Closure Base c χ → ((ψ : Formula) → Memᴰ ψ l → Closure Base c ψ)
      → Closure Base c (foldl (bin disj) χ l)
  disjunction_closed [] p h = p
  disjunction_closed (ψ ∷ l) p h = disjunction_closed l (join tt p (h ψ (Memᴰ.head refl))) (λ θ m. h θ (Memᴰ.tail m))

  pub disjoin_closed : (l : List Formula) → Closure Base c (const false) → ((ψ : Formula) → Memᴰ ψ l → Closure Base c ψ)
      → Closure Base c (disjoin l)
  disjoin_closed [] p h = p
  disjoin_closed (ψ ∷ l) p h = disjunction_closed l (h ψ (Memᴰ.head refl)) (λ θ m. h θ (Memᴰ.tail m))
