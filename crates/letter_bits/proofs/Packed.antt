-- Positions packed into a word: some more at the low end.
use mathlib.Core.Path.{◌≡◌, ap, ◌∙◌}
use Prim.Native.Nat.{ℕ, zero, suc, ◌+◌, ◌*◌, ◌^◌, ◌≤◌, ◌<◌}
use native.Mathlib.Nat.{lt_of_lt_of_le, add-zero, zero-add, suc-add, mul_assoc, pow-suc}
use native.Mathlib.Omega.{arith}
use lib.Pow.{pow_mono}
use Rattle.logic.specs.Truth.{Sequence}
use Rattle.row_words.specs.Row.{digit, pack_bits}
use Rattle.row_words.proofs.Bits.{pack_lt}

pub pack_none : (f : Sequence) (i n : ℕ) → n ≡ 0 → 0 ≡ pack_bits f i n
unfolding pack_bits
pack_none f i n e = rw e

-- one more position at the low end
pub pack_more : (f : Sequence) (i j m n x d : ℕ) → j ≡ suc i → n ≡ suc m → x ≡ pack_bits f j m → d ≡ digit (f i) → x * 2 + d ≡ pack_bits f i n
unfolding pack_bits
pack_more f i j m n x d ej en ex ed = rw (en, ex, ed, ej)

-- four positions by their digits
pub pack-digits : (f : Sequence) (i a b c d : ℕ) → a ≡ digit (f i) → b ≡ digit (f (i + 1)) → c ≡ digit (f (i + 2)) → d ≡ digit (f (i + 3))
    → a + b * 2 + c * 4 + d * 8 ≡ pack_bits f i 4
unfolding pack_bits
pack-digits f i a b c d ea eb ec ed =
    let b' : b ≡ digit (f (suc i)) = eb ∙ ap (λ (j : ℕ). digit (f j)) (omega arith) in
    let c' : c ≡ digit (f (suc (suc i))) = ec ∙ ap (λ (j : ℕ). digit (f j)) (omega arith) in
    let d' : d ≡ digit (f (suc (suc (suc i)))) = ed ∙ ap (λ (j : ℕ). digit (f j)) (omega arith) in
    omega arith

-- k positions more at the low end
append : (f : Sequence) (i k m : ℕ) → pack_bits f (i + k) m * 2 ^ k + pack_bits f i k ≡ pack_bits f i (k + m)
unfolding pack_bits
append f i zero m = rw (add-zero i, zero-add m) (omega arith)
append f i (suc k) m =
    let e : i + suc k ≡ suc i + k = omega arith in
    rw (suc-add k m, e, pow-suc 2 k, ← mul_assoc) (omega (arith, append f (suc i) k m))

pub pack-append : (f : Sequence) (i j k m n x y : ℕ) → j ≡ i + k → n ≡ k + m → x ≡ pack_bits f j m → y ≡ pack_bits f i k → x * 2 ^ k + y ≡ pack_bits f i n
pack-append f i j k m n x y ej en ex ey = rw (en, ex, ey, ej) (append f i k m)

-- so few positions leave room for so many more
pub pack_room : (f : Sequence) (i n k : ℕ) → n ≤ k → pack_bits f i n < 2 ^ k
pack_room f i n k h = lt_of_lt_of_le (pack_lt f i n) (pow_mono h)
