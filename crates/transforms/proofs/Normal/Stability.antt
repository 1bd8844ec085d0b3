-- What a word gives that has a stable suffix and decides every formula, as every lasso does: truth of F φ and of G φ no longer changes
-- from the stable position on. With it, what GF φ and FG φ say at any position.
use Prim.Native.Nat.{ℕ, ◌≤◌, max}
use native.Mathlib.Nat.{le_refl, le_trans, le-max_left, le-max_right}
use mathlib.Core.Logic.{◌⊎◌, inl, inr, ⊎_map}
use mathlib.Core.Bool.{true, false}
use Rattle.logic.specs.Formula.{Formula, F, G}
use Rattle.logic.specs.Lasso.{Word}
use Rattle.logic.specs.Semantics.{Predicate, Always, Until, Release, Constant, Holds}
use Rattle.transforms.specs.Recurrence.{Eventually, InfinitelyOften, AlmostAlways}

-- F and G of a predicate
pub of_eventually : {P : Predicate} {i : ℕ} → Eventually P i → Until (Constant true) P i
of_eventually u = (u.0, u.1, u.2, λ j ij jk. tt)

pub always_of : {P : Predicate} {i : ℕ} → Release (Constant false) P i → Always P i
always_of (inl p) = p
always_of (inr u) = absurd u.2

-- GF and FG of a predicate, at any position
pub infinitely_of : {P : Predicate} {i : ℕ} → Release (Constant false) (Until (Constant true) P) i → InfinitelyOften P
infinitely_of {P} {i} x j =
    let u : Until (Constant true) P (max i j) = always_of x (max i j) (le-max_left i j) in
    (u.0, le_trans (le-max_right i j) u.1, u.2)

pub of_infinitely : {P : Predicate} (i : ℕ) → InfinitelyOften P → Release (Constant false) (Until (Constant true) P) i
of_infinitely i io = inl (λ k ik. of_eventually (io k))

pub almost_of : {P : Predicate} {i : ℕ} → Until (Constant true) (Release (Constant false) P) i → AlmostAlways P
almost_of u = (u.0, always_of u.2)

pub of_almost : {P : Predicate} (i : ℕ) → AlmostAlways P → Until (Constant true) (Release (Constant false) P) i
of_almost i x = (max i x.0, le-max_left i x.0, inl (λ k mk. x.1 k (le_trans (le-max_right i x.0) mk)), λ j ij jk. tt)

pub record Stable (σ : Word) : Type 0 where
  pub decided : (φ : Formula) (i : ℕ) → Holds σ φ i ⊎ (Holds σ φ i → ⊥)
  pub position : ℕ
  pub finally_stable : (φ : Formula) (i j : ℕ) → position ≤ i → position ≤ j → Holds σ (F φ) i → Holds σ (F φ) j
  pub globally_stable : (φ : Formula) (i j : ℕ) → position ≤ i → position ≤ j → Holds σ (G φ) i → Holds σ (G φ) j

module _ {σ : Word} (w : Stable σ) where
  -- what holds somewhere after the stable position holds again and again
  pub infinitely-often : (φ : Formula) (i : ℕ) → w.position ≤ i → Eventually (Holds σ φ) i → InfinitelyOften (Holds σ φ)
  infinitely-often φ i si x j =
      let m = max w.position j in
      let u : Until (Constant true) (Holds σ φ) m = w.finally_stable φ i m si (le-max_left w.position j) (of_eventually x) in
      (u.0, le_trans (le-max_right w.position j) u.1, u.2)

  -- what holds from some position on holds from the stable position on
  pub from_stable : (φ : Formula) → AlmostAlways (Holds σ φ) → Always (Holds σ φ) w.position
  from_stable φ x =
      let m = max w.position x.0 in
      always_of
      (w.globally_stable φ m w.position (le-max_left w.position x.0) (le_refl w.position)
      (inl (λ k mk. x.1 k (le_trans (le-max_right w.position x.0) mk))))

  pub infinitely-often-decided : (φ : Formula) → InfinitelyOften (Holds σ φ) ⊎ (InfinitelyOften (Holds σ φ) → ⊥)
  infinitely-often-decided φ = ⊎_map infinitely_of (λ f x. f (of_infinitely 0 x)) (w.decided (G (F φ)) 0)

  pub almost-always-decided : (φ : Formula) → AlmostAlways (Holds σ φ) ⊎ (AlmostAlways (Holds σ φ) → ⊥)
  almost-always-decided φ = ⊎_map almost_of (λ f x. f (of_almost 0 x)) (w.decided (F (G φ)) 0)
