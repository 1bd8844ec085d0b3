-- Truth below the number of samples by two sweeps: one round the loop from its start, whose answer is what the second one,
-- from the position itself to the last sample, is closed with. Least fixpoints begin from false, greatest from true.
use Prim.Native.Nat.{ℕ, suc, ◌+◌, ◌-◌, ◌≤◌, ◌<◌}
use mathlib.Core.Path.{◌≡◌, refl, ap, ap₂, ◌∙◌}
use mathlib.Core.Bool.{Bool, true, false, cond}
use native.Mathlib.Omega.{arith}
use lib.Dec.{ltb}
use borrow.Author.Tests.{ltb-false}
use Rattle.logic.specs.Formula.{Formula}
use Rattle.logic.specs.Lasso.{Lasso}
use Rattle.logic.specs.Truth.{Sequence, Operation, each, shifted, fixpoint, across, sweep, applied, closed_sweep, looped, truth}
use Rattle.logic.proofs.Lasso.Sequence.{Periodic, sweep-shift, sweep-append, sweep-wide}
use Rattle.logic.proofs.Lasso.Period.{size, period, periodic}

sweep_closed : (r : Lasso) (g q : Sequence) (c : Bool) → Periodic r.start (period r) g → Periodic r.start (period r) q
    → (i : ℕ) → i < size r → sweep g q c i (size r) ≡ closed_sweep (size r) r.start g q c i
sweep_closed r g q c G Q i h =
    sweep-wide r.start (period r) g q c G Q i (size r) (size r - i + period r)
    (omega (arith, r.inside)) (omega arith) (omega (arith, r.inside)) (omega arith) (omega (arith, r.inside))
    ∙ sweep-append g q c i (size r - i) (period r)
    ∙ ap (λ k. sweep g q (sweep g q c k (period r)) i (size r - i)) (omega (arith, r.inside))
    ∙ ap (λ x. sweep g q x i (size r - i)) (sweep-shift r.start (period r) g q c G Q r.start (period r) (omega arith))

-- an operation over the endless positions, below the number of samples, is the looped one
pub applied-looped : (r : Lasso) (o : Operation) (a b : Formula) (i : ℕ) → i < size r
    → applied (size r) o (truth r a) (truth r b) i ≡ looped (size r) r.start o (truth r a) (truth r b) i
applied-looped r (each t) a b i h = refl
applied-looped r shifted a b i h = go (ltb (suc i) (size r)) refl
  where
    go : (t : Bool) → ltb (suc i) (size r) ≡ t → truth r b (suc i) ≡ cond t (truth r b (suc i)) (truth r b r.start)
    go true e = refl
    go false e =
        let l : size r ≤ suc i = ltb-false (suc i) (size r) e in
        ap (truth r b) (omega (arith, r.inside)) ∙ periodic r b r.start (omega arith)
applied-looped r (fixpoint goal keep c) a b i h =
    sweep_closed r (across goal (truth r a) (truth r b)) (across keep (truth r a) (truth r b)) c
    (λ k l. ap₂ goal (periodic r a k l) (periodic r b k l)) (λ k l. ap₂ keep (periodic r a k l) (periodic r b k l)) i h
