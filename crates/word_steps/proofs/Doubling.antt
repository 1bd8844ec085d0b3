-- The doubling that makes a sweep of d positions one of 2 d.
use mathlib.Core.Path.{◌≡◌, refl, sym, ap, ap₂, ◌∙◌}
use mathlib.Core.Bool.{Bool, true, false, ◌&&◌, ◌||◌, and-true, and-false, or-false}
use Prim.Native.Nat.{ℕ, ◌+◌, ◌/◌, ◌^◌}
use native.Mathlib.Nat.{add_comm}
use lib.Bits.{bit_and, bit_or}
use Rattle.logic.specs.Truth.{Sequence, sweep}
use Rattle.logic.proofs.Lasso.Sequence.{sweep-append}
use Rattle.logic.specs.Bit.{bit}
use Rattle.row_words.specs.Row.{nowhere}
use Rattle.row_words.proofs.Bits.{bit_and_lem, bit_or_lem, bit_shr}
use Rattle.row_words.proofs.Sweep.{sweep_carry, sweep_none}

-- the keep alone, cut in two
module _ (q : Sequence) where
  pub keep_append : (i m n : ℕ) → sweep nowhere q true i (m + n) ≡ sweep nowhere q true i m && sweep nowhere q true (i + m) n
  keep_append i m n =
      sweep-append nowhere q true i m n
      ∙ sweep_carry nowhere q (sweep nowhere q true (i + m) n) i m
      ∙ ap (λ (b : Bool). b || (sweep nowhere q true i m && sweep nowhere q true (i + m) n)) (sweep_none nowhere q i m (λ k l. refl))

-- What the words x and y hold of G and P after doublings up to width d: at bit k of x the sweep over the d positions from k on, with nothing
-- carried in, and at bit k of y whether P holds throughout them.
pub record Swept (G P : Sequence) (d x y : ℕ) : Type 0 where
  pub reached : (k : ℕ) → bit x k ≡ sweep G P false k d
  pub kept : (k : ℕ) → bit y k ≡ sweep nowhere P true k d

pub swept_one : (x y : ℕ) → Swept (bit x) (bit y) 1 x y
unfolding sweep
swept_one x y = record { reached = λ k. rw (and-false, or-false); kept = λ k. sym (and-true (bit y k)) }

-- one doubling
pub doubling : (G P : Sequence) (d x y : ℕ) → Swept G P d x y → Swept G P (d + d) (bit_or x (bit_and y (x / 2 ^ d))) (bit_and y (y / 2 ^ d))
doubling G P d x y s = record {
  reached = λ k. bit_or_lem x (bit_and y (x / 2 ^ d)) k
      ∙ ap₂ ◌||◌ (s.reached k) (bit_and_lem y (x / 2 ^ d) k ∙ ap₂ ◌&&◌ (s.kept k) (bit_shr x d k ∙ s.reached (d + k)))
      ∙ ap (λ (j : ℕ). sweep G P false k d || (sweep nowhere P true k d && sweep G P false j d)) (add_comm d k)
      ∙ sym (sweep_carry G P (sweep G P false (k + d) d) k d) ∙ sym (sweep-append G P false k d d);
  kept = λ k. bit_and_lem y (y / 2 ^ d) k ∙ ap₂ ◌&&◌ (s.kept k) (bit_shr y d k ∙ s.kept (d + k))
      ∙ ap (λ (j : ℕ). sweep nowhere P true k d && sweep nowhere P true j d) (add_comm d k) ∙ sym (keep_append P k d d);
}
