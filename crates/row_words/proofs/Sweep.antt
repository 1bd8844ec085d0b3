-- Backward sweeps: what they depend on, and what the carry does to one.
use mathlib.Core.Path.{◌≡◌, refl, sym, ap, ap₂, ◌∙◌}
use mathlib.Core.Bool.{Bool, true, false, ◌&&◌, ◌||◌, and-false}
use Prim.Native.Nat.{ℕ, zero, suc, ◌+◌, ◌<◌}
use native.Mathlib.Nat.{add-suc, suc-add, add-zero}
use native.Mathlib.Omega.{arith}
use Rattle.logic.specs.Truth.{Sequence, sweep}
use Rattle.row_words.specs.Row.{nowhere}

-- what holds k positions after i + 1 holds k + 1 positions after i
later : (a : Sequence) (i k : ℕ) → a (suc i + k) ≡ a (i + suc k)
later a i k = ap a (suc-add i k ∙ sym (add-suc i k))

-- a sweep depends on the swept positions alone
pub sweep_ext : (g q h r : Sequence) (c : Bool) (i j n : ℕ) → ((k : ℕ) → k < n → g (i + k) ≡ h (j + k)) → ((k : ℕ) → k < n → q (i + k) ≡ r (j + k))
    → sweep g q c i n ≡ sweep h r c j n
unfolding sweep
sweep_ext g q h r c i j zero eg eq = refl
sweep_ext g q h r c i j (suc n) eg eq =
    ap₂ ◌||◌ (first g h eg) (ap₂ ◌&&◌ (first q r eq) (sweep_ext g q h r c (suc i) (suc j) n (next g h eg) (next q r eq)))
  where
    first : (a b : Sequence) → ((k : ℕ) → k < suc n → a (i + k) ≡ b (j + k)) → a i ≡ b j
    first a b e = ap a (sym (add-zero i)) ∙ e 0 (omega arith) ∙ ap b (add-zero j)

    next : (a b : Sequence) → ((k : ℕ) → k < suc n → a (i + k) ≡ b (j + k)) → (k : ℕ) → k < n → a (suc i + k) ≡ b (suc j + k)
    next a b e k l = later a i k ∙ e (suc k) (omega arith) ∙ sym (later b j k)

module _ (g q : Sequence) where
  -- a sweep over no position
  pub sweep-done : (c : Bool) (i n : ℕ) → n ≡ 0 → sweep g q c i n ≡ c
  unfolding sweep
  sweep-done c i n e = ap (sweep g q c i) e

  -- the carry comes through where q holds all the way
  pub sweep_carry : (c : Bool) (i n : ℕ) → sweep g q c i n ≡ sweep g q false i n || (sweep nowhere q true i n && c)
  unfolding sweep
  sweep_carry c i zero = refl
  sweep_carry c i (suc n) =
      ap (λ (b : Bool). g i || (q i && b)) (sweep_carry c (suc i) n)
      ∙ spread (g i) (q i) (sweep g q false (suc i) n) (sweep nowhere q true (suc i) n) c
    where
      spread : (a b s t c : Bool) → a || (b && (s || (t && c))) ≡ (a || (b && s)) || ((b && t) && c)
      spread true b s t c = refl
      spread false true s t c = refl
      spread false false s t c = refl

  -- a sweep where nothing is a goal
  pub sweep_none : (i n : ℕ) → ((k : ℕ) → k < n → g (i + k) ≡ false) → sweep g q false i n ≡ false
  unfolding sweep
  sweep_none i zero e = refl
  sweep_none i (suc n) e =
      ap₂ (λ (a b : Bool). a || (q i && b)) (ap g (sym (add-zero i)) ∙ e 0 (omega arith))
      (sweep_none (suc i) n (λ k l. later g i k ∙ e (suc k) (omega arith)))
      ∙ and-false (q i)
