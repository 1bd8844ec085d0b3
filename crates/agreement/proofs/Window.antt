-- Two sequences that repeat, with periods p and q from s and t on, and agree at the first max s t + (p + q) positions agree for ever: past those, both
-- go a period back, one after the other, and on the way from the one to the other are at three earlier positions.
use Prim.Native.Nat.{ℕ, zero, suc, ◌+◌, ◌-◌, ◌≤◌, ◌<◌, max}
use mathlib.Core.Path.{◌≡◌, sym, ap, ◌∙◌}
use native.Mathlib.Nat.{sub-add_cancel}
use native.Mathlib.Decide.{dec_lt}
use native.Mathlib.Omega.{arith}
use Rattle.logic.specs.Truth.{Sequence}
use Rattle.logic.proofs.Lasso.Sequence.{Periodic}

module _ (s p t q : ℕ) (some : 1 ≤ p) (some' : 1 ≤ q) (f g : Sequence) (F : Periodic s p f) (G : Periodic t q g)
    (near : (i : ℕ) → i < max s t + (p + q) → f i ≡ g i) where
  -- a period on, of each
  back : (i : ℕ) → s + p ≤ i → f i ≡ f (i - p)
  back i h = ap f (sym (sub-add_cancel {n = i} {m = p} (omega arith))) ∙ F (i - p) (omega arith)

  back' : (i : ℕ) → t + q ≤ i → g i ≡ g (i - q)
  back' i h = ap g (sym (sub-add_cancel {n = i} {m = q} (omega arith))) ∙ G (i - q) (omega arith)

  below : (m i : ℕ) → i < m → f i ≡ g i
  below zero i h = absurd (omega arith)
  below (suc m) i h =
      elim (dec_lt i (max s t + (p + q))) [
        | yes l ↦ near i l
        | no l ↦
            let far : max s t + (p + q) ≤ i = omega arith in
            let e : i - p - q ≡ i - q - p = omega arith in
            back i (omega arith) ∙ below m (i - p) (omega arith) ∙ back' (i - p) (omega arith) ∙ sym (below m (i - p - q) (omega arith))
            ∙ ap f e ∙ sym (back (i - q) (omega arith)) ∙ below m (i - q) (omega arith) ∙ sym (back' i (omega arith))
      ]

  pub for_ever : (i : ℕ) → f i ≡ g i
  for_ever i = below (suc i) i (omega arith)
