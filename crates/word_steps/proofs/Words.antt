-- The laws of one word made of others, an operation each.
use mathlib.Core.Path.{◌≡◌, sym, ap, ◌∙◌}
use mathlib.Core.Bool.{Bool, false, not, ◌||◌}
use Prim.Native.Nat.{ℕ, ◌+◌, ◌-◌, ◌^◌, ◌≤◌, ◌<◌}
use native.Mathlib.Nat.{add_assoc}
use native.Mathlib.Omega.{arith}
use lib.Bits.{bit_or, bit_xor}
use Rattle.logic.specs.Truth.{Sequence, sweep}
use Rattle.logic.proofs.Lasso.Sequence.{sweep-append}
use Rattle.logic.specs.Bit.{bit}
use Rattle.row_words.specs.Row.{pack_bits}
use Rattle.row_words.proofs.Bits.{bit-pack, bit_above, pack_lt, pack_or, pack_not, packed_all}
use Rattle.row_words.proofs.Sweep.{sweep_ext, sweep_none}

pub pack-implies : (A B : Sequence) (i n : ℕ) → bit_or (bit_xor (2 ^ n - 1) (pack_bits A i n)) (pack_bits B i n) ≡ pack_bits (λ k. not (A k) || B k) i n
pack-implies A B i n = ap (λ (x : ℕ). bit_or x (pack_bits B i n)) (pack_not A i n) ∙ pack_or (λ k. not (A k)) B i n

-- ---- the closing

module _ (G P : Sequence) (i n g p r : ℕ) (few : n ≤ 64) (eg : g ≡ pack_bits G i n) (ep : p ≡ pack_bits P i n)
    (swept : (k : ℕ) → bit r k ≡ sweep (bit g) (bit p) false k 64) where
  -- above the n positions there is nothing to sweep
  above : (k : ℕ) → n ≤ k → bit g k ≡ false
  above k l = ap (λ (x : ℕ). bit x k) eg ∙ bit_above (pack_bits G i n) n k (pack_lt G i n) l

  within : (m : ℕ) (k j : ℕ) → k + m ≡ n → j < m → bit g (k + j) ≡ G (i + k + j)
  within m k j e l = ap (λ (x : ℕ). bit x (k + j)) eg ∙ bit-pack G i n (k + j) (omega arith) ∙ ap G (sym (add_assoc i k j))

  within' : (m : ℕ) (k j : ℕ) → k + m ≡ n → j < m → bit p (k + j) ≡ P (i + k + j)
  within' m k j e l = ap (λ (x : ℕ). bit x (k + j)) ep ∙ bit-pack P i n (k + j) (omega arith) ∙ ap P (sym (add_assoc i k j))

  -- so 64 positions swept are the n positions swept
  pub pack-sweep : r ≡ pack_bits (λ k. sweep G P false k (i + n - k)) i n
  pack-sweep =
      packed_all (λ k. sweep G P false k (i + n - k)) i n r
      (λ k l. swept k ∙ ap (sweep (bit g) (bit p) false k) (split k l) ∙ sweep-append (bit g) (bit p) false k (n - k) (64 - (n - k))
      ∙ ap (λ (c : Bool). sweep (bit g) (bit p) c k (n - k)) (sweep_none (bit g) (bit p) (k + (n - k)) (64 - (n - k)) (λ j m. above (k + (n - k) + j) (omega arith)))
      ∙ sweep_ext (bit g) (bit p) G P false k (i + k) (n - k) (λ j m. within (n - k) k j (omega arith) m) (λ j m. within' (n - k) k j (omega arith) m)
      ∙ ap (sweep G P false (i + k)) (ends k l))
      (λ k l. swept k ∙ sweep_none (bit g) (bit p) k 64 (λ j m. above (k + j) (omega arith)))
    where
      split : (k : ℕ) → k < n → 64 ≡ (n - k) + (64 - (n - k))
      split k l = omega arith

      ends : (k : ℕ) → k < n → n - k ≡ i + n - (i + k)
      ends k l = omega arith
