-- What a sum of all parts comes to.
use Prim.Native.Nat.{ℕ}
use mathlib.Core.Path.{◌≡◌, subst}
use mathlib.Core.Bool.{false}
use Rattle.std.specs.Prelude.{Option, Some, None}
use Rattle.logic.specs.Formula.{Formula}
use Rattle.table.specs.Answers.{OrNone}
use Rattle.table.specs.Numbering.{put, constant_word, build}
use Rattle.numbering.proofs.Building.{build-const}
use Rattle.placing.specs.State.{State, written, Placing, Putting}
use Rattle.sums.specs.Summed.{Summed}

placed : {s₀ s e : State} {w r : ℕ} (χ : Formula) → Summed s₀ s χ None → w ≡ constant_word false → Putting s e (put (written s) w) r → Placing s₀ e (build (written s₀) χ) r
placed {s₀} {s} {e} {w} {r} χ p z q =
    rw (p.0, build-const (written s₀) false) (subst (λ (x : State). Placing x e (put (written x) (constant_word false)) r) p.1 (rw z at q.placed))

pub close-nothing : (s₀ s e : State) (w : ℕ) (χ : Formula) → Summed s₀ s χ None → w ≡ constant_word false → (r : Option ℕ)
    → OrNone (λ n. Putting s e (put (written s) w) n) r → OrNone (λ n. Placing s₀ e (build (written s₀) χ) n) r
close-nothing s₀ s e w χ p z None q = placed χ p z q
close-nothing s₀ s e w χ p z (Some n) q = (q.0, placed χ p z q.1)
