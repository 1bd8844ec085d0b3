-- The laws of one word of a row, an operation each.
use mathlib.Core.Path.{◌≡◌, refl, sym, ap, ap₂, ◌∙◌}
use mathlib.Core.Bool.{Bool, true, false, cond, ◌&&◌, ◌||◌, and-true}
use Prim.Native.Nat.{ℕ, zero, suc, ◌+◌, ◌-◌, ◌*◌, ◌/◌, ◌%◌, ◌^◌, ◌≤◌, ◌<◌}
use native.Mathlib.Nat.{add-sub_of_le, one-mul, zero-mul}
use native.Mathlib.Omega.{arith}
use borrow.Author.Tests.{eq-eqb, ne_eqb, ltb-true, ltb-false}
use lib.Dec.{eqb, ltb}
use lib.Pow.{high, ones_split, ones_lt, shl_exact}
use lib.Bits.{bit_or, or_zero_r}
use Rattle.logic.specs.Truth.{Sequence}
use Rattle.row_words.specs.Row.{pack_bits}
use Rattle.row_words.proofs.Bits.{pack_ext, pack_or, pack-top, pack-shift}

-- n ones are 64 of them, shifted
pub shifted-ones : (n : ℕ) → n ≤ 64 → 18446744073709551615 / 2 ^ (64 - n) ≡ 2 ^ n - 1
shifted-ones n h =
    ap (λ (x : ℕ). (2 ^ x - 1) / 2 ^ (64 - n)) (sym (add-sub_of_le h)) ∙ ap (λ (x : ℕ). x / 2 ^ (64 - n)) (ones_split n (64 - n))
    ∙ high (2 ^ n - 1) (64 - n) (ones_lt (64 - n))

-- the bit that a shift puts at the last of n positions
pub last_bit : (n : ℕ) → suc n ≤ 64 → 1 * 2 ^ (suc n - 1) % 2 ^ 64 ≡ 2 ^ n
last_bit n h =
    ap (λ (k : ℕ). 1 * 2 ^ k % 2 ^ 64) (omega arith) ∙ shl_exact 1 n 64 (omega arith) (omega arith) ∙ one-mul (2 ^ n)

-- ---- the next position's value

shift-value : (a carry t : Bool) (k e : ℕ) → ltb k e ≡ t → k ≤ e → (t && a) || (eqb k e && carry) ≡ cond t a carry
shift-value true carry true k e h l = refl
shift-value false carry true k e h l =
    let m : k < e = ltb-true k e h in
    ap (λ (b : Bool). b && carry) (ne_eqb k e (λ q. omega arith))
shift-value a carry false k e h l =
    let m : e ≤ k = ltb-false k e h in
    ap (λ (b : Bool). b && carry) (eq-eqb k e (omega arith))

pack_next : (A : Sequence) (i n : ℕ) → pack_bits A i n / 2 ≡ pack_bits (λ k. cond (ltb (suc k) (i + n)) (A (suc k)) false) i n
pack_next A i n =
    pack-shift A i n
    ∙ pack_ext _ (λ k. cond (ltb (suc k) (i + n)) (A (suc k)) false) i i n (λ k l. go (ltb (suc (i + k)) (i + n)) (A (suc (i + k))))
  where
    go : (t a : Bool) → t && a ≡ cond t a false
    go true a = refl
    go false a = refl

pack_next_carry : (A : Sequence) (i n : ℕ) → bit_or (pack_bits A i (suc n) / 2) (2 ^ n) ≡ pack_bits (λ k. cond (ltb (suc k) (i + suc n)) (A (suc k)) true) i (suc n)
pack_next_carry A i n =
    ap₂ bit_or (pack-shift A i (suc n)) (pack-top i (i + suc n) n refl)
    ∙ pack_or (λ k. ltb (suc k) (i + suc n) && A (suc k)) (λ k. eqb (suc k) (i + suc n)) i (suc n)
    ∙ pack_ext _ (λ k. cond (ltb (suc k) (i + suc n)) (A (suc k)) true) i i (suc n)
    (λ k l. ap (λ (b : Bool). (ltb (suc (i + k)) (i + suc n) && A (suc (i + k))) || b) (sym (and-true (eqb (suc (i + k)) (i + suc n))))
    ∙ shift-value (A (suc (i + k))) true (ltb (suc (i + k)) (i + suc n)) (suc (i + k)) (i + suc n) refl (omega arith))

-- a shift to the right, and the digit d at the last position
pub next_law : (A : Sequence) (i n x d : ℕ) → d < 2 → 1 ≤ n → n ≤ 64 → x ≡ pack_bits A i n
    → bit_or (x / 2) (d * 2 ^ (n - 1) % 2 ^ 64) ≡ pack_bits (λ k. cond (ltb (suc k) (i + n)) (A (suc k)) (eqb d 1)) i n
next_law A i zero x d h l m e = absurd (omega arith)
next_law A i (suc n) x zero h l m e = rw e (ap (bit_or (pack_bits A i (suc n) / 2)) (ap (λ (y : ℕ). y % 2 ^ 64) (zero-mul (2 ^ (suc n - 1)))) ∙ or_zero_r _ ∙ pack_next A i (suc n))
next_law A i (suc n) x (suc zero) h l m e = rw (e, last_bit n m) (pack_next_carry A i n)
next_law A i (suc n) x (suc (suc d)) h l m e = absurd (omega arith)
