-- From the loop start on a lasso is stable for every formula at once: what holds again is what holds somewhere in the loop, and what
-- holds from now on for ever is what holds everywhere in it.
use Prim.Native.Nat.{ℕ, ◌+◌, ◌*◌, ◌≤◌, ◌<◌}
use mathlib.Core.Logic.Iff
use mathlib.Core.Logic.{◌↔◌, inl, inr}
use native.Mathlib.Nat.{mul-le-mul_left}
use native.Mathlib.Omega.{arith}
use Rattle.logic.specs.Formula.{Formula, F, G}
use Rattle.logic.specs.Lasso.{Lasso, Word, place, word}
use Rattle.logic.specs.Semantics.{Predicate, Always, Holds}
use Rattle.logic.specs.Truth.{truth}
use Rattle.logic.proofs.Lasso.Sequence.{periodic_times}
use Rattle.logic.proofs.Lasso.Period.{size, period, periodic, place_lt, place_ge}
use Rattle.logic.proofs.Lasso.Truth.{same_truth, holds-place}

abbrev pub Eventually : Predicate → Predicate
Eventually P i = (k : ℕ) × (i ≤ k) × P k

-- F and G without their constants
pub F_eventually : (σ : Word) (φ : Formula) (i : ℕ) → Holds σ (F φ) i ↔ Eventually (Holds σ φ) i
F_eventually σ φ i = (λ u. (u.0, u.1, u.2), λ u. (u.0, u.1, u.2, λ j a b. tt))

pub G-always : (σ : Word) (φ : Formula) (i : ℕ) → Holds σ (G φ) i ↔ Always (Holds σ φ) i
G-always σ φ i = (λ w. elim w [ inl t ↦ t | inr u ↦ absurd u.2 ], inl)

-- somewhere in the loop, and everywhere in the loop
abbrev pub Somewhere : Lasso → Formula → Type 0
Somewhere r φ = (k : ℕ) × (r.start ≤ k) × (k < size r) × Holds (word r) φ k

abbrev pub Everywhere : Lasso → Formula → Type 0
Everywhere r φ = (k : ℕ) → r.start ≤ k → k < size r → Holds (word r) φ k

module _ (r : Lasso) (φ : Formula) where
  -- what holds at k of the loop holds m rounds later, and the other way round
  rounds : (k m : ℕ) → r.start ≤ k → Holds (word r) φ (k + m * period r) ↔ Holds (word r) φ k
  rounds k m h = same_truth r φ φ (k + m * period r) k (periodic_times r.start (period r) (truth r φ) (periodic r φ) m k h)

  -- m rounds lead past position m
  past : (k m : ℕ) → m ≤ k + m * period r
  past k m = omega (arith, mul-le-mul_left {m = 1} {n = period r} m (omega (arith, r.inside)))

  -- the four steps between the loop and the whole future
  somewhere_later : Somewhere r φ → (m : ℕ) → Eventually (Holds (word r) φ) m
  somewhere_later u m = (u.0 + m * period r, past u.0 m, (rounds u.0 m u.1).1 u.3)

  later_somewhere : (i : ℕ) → r.start ≤ i → Eventually (Holds (word r) φ) i → Somewhere r φ
  later_somewhere i h u = (
    place (size r) r.start u.0,
    place_ge (size r) r.start u.0 r.inside (omega arith),
    place_lt (size r) r.start u.0 r.inside,
    (holds-place r φ u.0).0 u.2,
  )

  everywhere_always : Everywhere r φ → (i : ℕ) → r.start ≤ i → Always (Holds (word r) φ) i
  everywhere_always e i h k a =
      (holds-place r φ k).1
      (e (place (size r) r.start k) (place_ge (size r) r.start k r.inside (omega arith)) (place_lt (size r) r.start k r.inside))

  always_everywhere : (m : ℕ) → Always (Holds (word r) φ) m → Everywhere r φ
  always_everywhere m t k a b = (rounds k m a).0 (t (k + m * period r) (past k m))

  pub F_somewhere : (i : ℕ) → r.start ≤ i → Holds (word r) (F φ) i ↔ Somewhere r φ
  F_somewhere i h = Iff.trans (F_eventually (word r) φ i) (later_somewhere i h, λ u. somewhere_later u i)

  pub G_everywhere : (i : ℕ) → r.start ≤ i → Holds (word r) (G φ) i ↔ Everywhere r φ
  G_everywhere i h = Iff.trans (G-always (word r) φ i) (always_everywhere i, λ e. everywhere_always e i h)
