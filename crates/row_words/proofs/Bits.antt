-- The bits of a number: what the word operations do to each, and that they make up the number.
-- `packed` is the way from bits to numbers: a number below 2 ^ n whose bits are a sequence's values is those values packed.
use mathlib.Core.Path.{◌≡◌, refl, sym, ap, ap₂, subst, ◌∙◌}
use mathlib.Core.Bool.{Bool, true, false, not, ◌&&◌, ◌||◌, xor}
use Prim.Native.Nat.{ℕ, zero, suc, ◌+◌, ◌-◌, ◌*◌, ◌/◌, ◌%◌, ◌^◌, ◌≤◌, ◌<◌, min, max}
use native.Mathlib.Nat.{div-one, div-eq_of_lt, pow-suc, mod-lt, div-add-mod', zero-lt-suc, add-suc, suc-add, add-zero, zero-add, le_of_suc-le-suc, lt_of_lt_of_le, lt_of_le_of_lt}
use native.Mathlib.Numerals.{add-one}
use native.Mathlib.Omega.{arith}
use borrow.Author.Tests.{eq-eqb, ne_eqb, lt-ltb, le-ltb, ltb-true, ltb-false}
use lib.Dec.{eqb, ltb}
use lib.Arith.{lt-one, digits_div, digits_mod}
use lib.Pow.{pow_pos, pow_mono, shr-shr, shr_lt, low, ones_lt}
use lib.Bits.{bit_and, bit_or, bit_xor, differ, and_step, or_step, xor_step, and_shr, or_shr, xor_shr, and_lt, or_lt, xor_lt, and_le_l, and_le_r, or_add_and}
use Rattle.logic.specs.Truth.{Sequence}
use Rattle.logic.specs.Bit.{bit}
use Rattle.row_words.specs.Row.{digit, pack_bits}

two_pos : zero < 2
two_pos = zero-lt-suc 1

-- ---- a bit and a digit

pub digit_lt : (b : Bool) → digit b < 2
digit_lt true = omega arith
digit_lt false = omega arith

digit_one : (b : Bool) → eqb (digit b) 1 ≡ b
digit_one true = refl
digit_one false = refl

-- a digit below 2 is the digit of its test
pub one_digit : (d : ℕ) → d < 2 → d ≡ digit (eqb d 1)
one_digit zero h = refl
one_digit (suc zero) h = refl
one_digit (suc (suc d)) h = absurd (let z : ◌≡◌ {A = ℕ} 0 1 = omega arith in omega arith)

-- bit k of a number is bit 0 of what is left after a shift by k
pub bit_shr : (x d k : ℕ) → bit (x / 2 ^ d) k ≡ bit x (d + k)
unfolding bit
bit_shr x d k = rw shr-shr

pub bit-half : (x k : ℕ) → bit (x / 2) k ≡ bit x (suc k)
unfolding bit
bit-half x k = bit_shr x 1 k ∙ ap (bit x) (suc-add 0 k ∙ ap suc (zero-add k))

pub bit-zero : (x : ℕ) → bit x 0 ≡ eqb (x % 2) 1
unfolding bit
bit-zero x = ap (λ (y : ℕ). eqb (y % 2) 1) (div-one x)

-- ---- the bits of and, or, xor: one law over the operation

module _ (op f : ℕ → ℕ → ℕ) (t : Bool → Bool → Bool)
    (shr : (x y k : ℕ) → op x y / 2 ^ k ≡ op (x / 2 ^ k) (y / 2 ^ k))
    (step : (x y : ℕ) → op x y ≡ op (x / 2) (y / 2) * 2 + f (x % 2) (y % 2))
    (table : (p q : Bool) → f (digit p) (digit q) ≡ digit (t p q)) where
  lowest : (x y : ℕ) → op x y % 2 ≡ digit (t (eqb (x % 2) 1) (eqb (y % 2) 1))
  lowest x y =
      let p = eqb (x % 2) 1 in
      let q = eqb (y % 2) 1 in
      let e : f (x % 2) (y % 2) ≡ digit (t p q) = ap₂ f (one_digit (x % 2) (mod-lt x two_pos)) (one_digit (y % 2) (mod-lt y two_pos)) ∙ table p q in
      ap (λ (n : ℕ). n % 2) (step x y ∙ ap (λ (n : ℕ). op (x / 2) (y / 2) * 2 + n) e) ∙ digits_mod (op (x / 2) (y / 2)) (digit_lt (t p q))

  bit_op : (x y k : ℕ) → bit (op x y) k ≡ t (bit x k) (bit y k)
  unfolding bit
  bit_op x y k =
      ap (λ (n : ℕ). eqb (n % 2) 1) (shr x y k) ∙ ap (λ (n : ℕ). eqb n 1) (lowest (x / 2 ^ k) (y / 2 ^ k))
      ∙ digit_one (t (bit x k) (bit y k))

  -- a digit at the low end of each
  op_digits : (x y : ℕ) (a b : Bool) → op (x * 2 + digit a) (y * 2 + digit b) ≡ op x y * 2 + digit (t a b)
  op_digits x y a b =
      step (x * 2 + digit a) (y * 2 + digit b)
      ∙ ap₂ (λ (u v : ℕ). u * 2 + v) (ap₂ op (digits_div x (digit_lt a)) (digits_div y (digit_lt b)))
      (ap₂ f (digits_mod x (digit_lt a)) (digits_mod y (digit_lt b)) ∙ table a b)

and_table : (p q : Bool) → min (digit p) (digit q) ≡ digit (p && q)
and_table true true = refl
and_table true false = refl
and_table false true = refl
and_table false false = refl

or_table : (p q : Bool) → max (digit p) (digit q) ≡ digit (p || q)
or_table true true = refl
or_table true false = refl
or_table false true = refl
or_table false false = refl

xor-table : (p q : Bool) → differ (digit p) (digit q) ≡ digit (xor p q)
unfolding xor
xor-table true true = refl
xor-table true false = refl
xor-table false true = refl
xor-table false false = refl

pub bit_and_lem : (x y k : ℕ) → bit (bit_and x y) k ≡ bit x k && bit y k
bit_and_lem = bit_op bit_and min ◌&&◌ and_shr and_step and_table

pub bit_or_lem : (x y k : ℕ) → bit (bit_or x y) k ≡ bit x k || bit y k
bit_or_lem = bit_op bit_or max ◌||◌ or_shr or_step or_table

pub bit_xor_lem : (x y k : ℕ) → bit (bit_xor x y) k ≡ xor (bit x k) (bit y k)
bit_xor_lem = bit_op bit_xor differ xor xor_shr xor_step xor-table

pub and_digits : (x y : ℕ) (a b : Bool) → bit_and (x * 2 + digit a) (y * 2 + digit b) ≡ bit_and x y * 2 + digit (a && b)
and_digits = op_digits bit_and min ◌&&◌ and_shr and_step and_table

pub xor-digits : (x y : ℕ) (a b : Bool) → bit_xor (x * 2 + digit a) (y * 2 + digit b) ≡ bit_xor x y * 2 + digit (xor a b)
xor-digits = op_digits bit_xor differ xor xor_shr xor_step xor-table

-- ---- packed sequences

pub pack_lt : (f : Sequence) (i n : ℕ) → pack_bits f i n < 2 ^ n
unfolding pack_bits
pack_lt f i zero = omega arith
pack_lt f i (suc n) = rw pow-suc (omega (arith, pack_lt f (suc i) n, digit_lt (f i)))

pub pack-half : (f : Sequence) (i n : ℕ) → pack_bits f i (suc n) / 2 ≡ pack_bits f (suc i) n
unfolding pack_bits
pack-half f i n = digits_div (pack_bits f (suc i) n) (digit_lt (f i))

pub pack-odd : (f : Sequence) (i n : ℕ) → pack_bits f i (suc n) % 2 ≡ digit (f i)
unfolding pack_bits
pack-odd f i n = digits_mod (pack_bits f (suc i) n) (digit_lt (f i))

-- a sequence's values are the bits of what is packed of it
pub bit-pack : (f : Sequence) (i n k : ℕ) → k < n → bit (pack_bits f i n) k ≡ f (i + k)
bit-pack f i zero k h = absurd (omega arith)
bit-pack f i (suc n) zero h =
    bit-zero (pack_bits f i (suc n)) ∙ ap (λ (d : ℕ). eqb d 1) (pack-odd f i n) ∙ digit_one (f i) ∙ ap f (sym (add-zero i))
bit-pack f i (suc n) (suc k) h =
    sym (bit-half (pack_bits f i (suc n)) k) ∙ ap (λ (x : ℕ). bit x k) (pack-half f i n) ∙ bit-pack f (suc i) n k (le_of_suc-le-suc h)
    ∙ ap f (suc-add i k ∙ sym (add-suc i k))

-- no bit stands above the number
pub bit_above : (x n k : ℕ) → x < 2 ^ n → n ≤ k → bit x k ≡ false
unfolding bit
bit_above x n k h l = ap (λ (y : ℕ). eqb (y % 2) 1) (div-eq_of_lt (lt_of_lt_of_le h (pow_mono l)))

-- a number below 2 ^ n is given by its n bits
pub packed : (f : Sequence) (i n x : ℕ) → x < 2 ^ n → ((k : ℕ) → k < n → bit x k ≡ f (i + k)) → x ≡ pack_bits f i n
unfolding pack_bits
packed f i zero x h b = lt-one h
packed f i (suc n) x h b =
    sym (div-add-mod' x 2)
    ∙ ap₂ (λ (q d : ℕ). q * 2 + d)
    (packed f (suc i) n (x / 2) (shr_lt n 1 (rw add-one h))
    (λ k l. bit-half x k ∙ b (suc k) (omega arith) ∙ ap f (add-suc i k ∙ sym (suc-add i k))))
    (one_digit (x % 2) (mod-lt x two_pos) ∙ ap digit (sym (bit-zero x) ∙ b 0 (omega arith) ∙ ap f (add-zero i)))

-- what is packed depends on the packed positions alone
pub pack_ext : (f g : Sequence) (i j n : ℕ) → ((k : ℕ) → k < n → f (i + k) ≡ g (j + k)) → pack_bits f i n ≡ pack_bits g j n
pack_ext f g i j n e = packed g j n (pack_bits f i n) (pack_lt f i n) (λ k l. bit-pack f i n k l ∙ e k l)

-- the positions from the k-th on
pub pack-drop : (f : Sequence) (i n k : ℕ) → k ≤ n → pack_bits f i n / 2 ^ k ≡ pack_bits f (i + k) (n - k)
pack-drop f i n k h =
    let e : n ≡ (n - k) + k = omega arith in
    packed f (i + k) (n - k) (pack_bits f i n / 2 ^ k) (shr_lt (n - k) k (subst (λ (m : ℕ). pack_bits f i n < 2 ^ m) e (pack_lt f i n)))
    (λ j l. bit_shr (pack_bits f i n) k j ∙ bit-pack f i n (k + j) (omega arith) ∙ ap f (omega arith))

-- ---- the word operations on packed sequences

pub pack_and : (f g : Sequence) (i n : ℕ) → bit_and (pack_bits f i n) (pack_bits g i n) ≡ pack_bits (λ k. f k && g k) i n
pack_and f g i n =
    packed (λ k. f k && g k) i n (bit_and (pack_bits f i n) (pack_bits g i n)) (and_lt n _ _ (pack_lt f i n) (pack_lt g i n))
    (λ k l. bit_and_lem (pack_bits f i n) (pack_bits g i n) k ∙ ap₂ ◌&&◌ (bit-pack f i n k l) (bit-pack g i n k l))

pub pack_or : (f g : Sequence) (i n : ℕ) → bit_or (pack_bits f i n) (pack_bits g i n) ≡ pack_bits (λ k. f k || g k) i n
pack_or f g i n =
    packed (λ k. f k || g k) i n (bit_or (pack_bits f i n) (pack_bits g i n)) (or_lt n _ _ (pack_lt f i n) (pack_lt g i n))
    (λ k l. bit_or_lem (pack_bits f i n) (pack_bits g i n) k ∙ ap₂ ◌||◌ (bit-pack f i n k l) (bit-pack g i n k l))

-- n ones
pub pack-ones : (i n : ℕ) → 2 ^ n - 1 ≡ pack_bits (λ k. true) i n
unfolding pack_bits
pack-ones i zero = refl
pack-ones i (suc n) = rw (pow-suc, ← pack-ones (suc i) n) (omega (arith, pow_pos n))

pub pack-zeros : (i n : ℕ) → 0 ≡ pack_bits (λ k. false) i n
unfolding pack_bits
pack-zeros i zero = refl
pack-zeros i (suc n) = ap (λ (x : ℕ). x * 2 + 0) (pack-zeros (suc i) n)

xor-true : (b : Bool) → xor true b ≡ not b
unfolding xor
xor-true true = refl
xor-true false = refl

pub pack_not : (f : Sequence) (i n : ℕ) → bit_xor (2 ^ n - 1) (pack_bits f i n) ≡ pack_bits (λ k. not (f k)) i n
pack_not f i n =
    packed (λ k. not (f k)) i n (bit_xor (2 ^ n - 1) (pack_bits f i n)) (xor_lt n _ _ (ones_lt n) (pack_lt f i n))
    (λ k l. bit_xor_lem (2 ^ n - 1) (pack_bits f i n) k
    ∙ ap₂ xor (ap (λ (x : ℕ). bit x k) (pack-ones i n) ∙ bit-pack (λ j. true) i n k l) (bit-pack f i n k l) ∙ xor-true (f (i + k)))

-- ---- numbers by all their bits

lt_pow : (n : ℕ) → n < 2 ^ n
lt_pow zero = omega arith
lt_pow (suc n) = rw pow-suc (omega (arith, lt_pow n))

-- a number whose bits are n values of a sequence, and nothing above them
pub packed_all : (f : Sequence) (i n x : ℕ) → ((k : ℕ) → k < n → bit x k ≡ f (i + k)) → ((k : ℕ) → n ≤ k → bit x k ≡ false) → x ≡ pack_bits f i n
packed_all f i n x low above =
    packed (bit (pack_bits f i n)) 0 (x + n) x (lt_of_lt_of_le (lt_pow x) (pow_mono (omega arith))) (λ k l. same k ∙ ap (bit (pack_bits f i n)) (sym (zero-add k)))
    ∙ sym (packed (bit (pack_bits f i n)) 0 (x + n) (pack_bits f i n) (lt_of_lt_of_le (pack_lt f i n) (pow_mono (omega arith))) (λ k l. ap (bit (pack_bits f i n)) (sym (zero-add k))))
  where
    go : (k : ℕ) (t : Bool) → ltb k n ≡ t → bit x k ≡ bit (pack_bits f i n) k
    go k true e = let l = ltb-true k n e in low k l ∙ sym (bit-pack f i n k l)
    go k false e = let l = ltb-false k n e in above k l ∙ sym (bit_above (pack_bits f i n) n k (pack_lt f i n) l)

    same : (k : ℕ) → bit x k ≡ bit (pack_bits f i n) k
    same k = go k (ltb k n) refl

-- the highest of n bits alone
pub pack-top : (i e n : ℕ) → e ≡ i + suc n → 2 ^ n ≡ pack_bits (λ k. eqb (suc k) e) i (suc n)
unfolding pack_bits
pack-top i e zero h = ap (λ (b : Bool). 0 + digit b) (sym (eq-eqb (suc i) e (omega arith)))
pack-top i e (suc n) h =
    pow-suc 2 n ∙ ap (λ (x : ℕ). x * 2) (pack-top (suc i) e n (omega arith)) ∙ sym (add-zero _)
    ∙ ap (λ (b : Bool). pack_bits (λ k. eqb (suc k) e) (suc i) (suc n) * 2 + digit b) (sym (ne_eqb (suc i) e (λ q. omega arith)))

-- one position on: the last has nothing
pub pack-shift : (f : Sequence) (i n : ℕ) → pack_bits f i n / 2 ≡ pack_bits (λ k. ltb (suc k) (i + n) && f (suc k)) i n
pack-shift f i n =
    packed (λ k. ltb (suc k) (i + n) && f (suc k)) i n (pack_bits f i n / 2) (lt_of_le_of_lt (half_le' (pack_bits f i n)) (pack_lt f i n))
    (λ k l. bit-half (pack_bits f i n) k ∙ go k (ltb (suc k) n) refl)
  where
    half_le' : (x : ℕ) → x / 2 ≤ x
    half_le' x = omega arith

    go : (k : ℕ) (t : Bool) → ltb (suc k) n ≡ t → bit (pack_bits f i n) (suc k) ≡ ltb (suc (i + k)) (i + n) && f (suc (i + k))
    go k true e =
        let l : suc k < n = ltb-true (suc k) n e in
        bit-pack f i n (suc k) l ∙ ap f (add-suc i k) ∙ ap (λ (b : Bool). b && f (suc (i + k))) (sym (lt-ltb (suc (i + k)) (i + n) (omega arith)))
    go k false e =
        let l : n ≤ suc k = ltb-false (suc k) n e in
        bit_above (pack_bits f i n) n (suc k) (pack_lt f i n) l ∙ ap (λ (b : Bool). b && f (suc (i + k))) (sym (le-ltb (suc (i + k)) (i + n) (omega arith)))

-- ---- tests over words joined by or

pub or_none : (x y : ℕ) → bit_or x y ≡ 0 → (x ≡ 0) × (y ≡ 0)
or_none x y e = let s = or_add_and x y in (omega (arith, and_le_r x y), omega (arith, and_le_l x y))

-- words that differ nowhere are the same
pub xor_none : (x y : ℕ) → bit_xor x y ≡ 0 → x ≡ y
unfolding xor
xor_none x y e =
    packed_all (bit y) 0 (x + y) x (λ k l. same k ∙ ap (bit y) (sym (zero-add k))) (λ k l. bit_above x (x + y) k (lt_of_lt_of_le (lt_pow x) (pow_mono (omega arith))) l)
    ∙ sym (packed_all (bit y) 0 (x + y) y (λ k l. ap (bit y) (sym (zero-add k))) (λ k l. bit_above y (x + y) k (lt_of_lt_of_le (lt_pow y) (pow_mono (omega arith))) l))
  where
    agree : (a b : Bool) → xor a b ≡ false → a ≡ b
    agree true true h = refl
    agree true false h = h
    agree false true h = sym h
    agree false false h = refl

    same : (k : ℕ) → bit x k ≡ bit y k
    same k = agree (bit x k) (bit y k) (sym (bit_xor_lem x y k) ∙ ap (λ (z : ℕ). bit z k) e ∙ bit_above 0 0 k (omega arith) (omega arith))
