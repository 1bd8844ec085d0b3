-- What is read off a row: the positions that hold, counted word by word, and the first one that fails.
use mathlib.Core.Path.{◌≡◌, refl, sym, ap, ap₂, ◌∙◌, subst}
use mathlib.Core.Bool.{Bool, true, false, not, cond}
use mathlib.Core.List.{List}
use Prim.Native.Nat.{ℕ, zero, suc, ◌+◌, ◌-◌, ◌*◌, ◌/◌, ◌%◌, ◌^◌, ◌≤◌, ◌<◌, min}
use native.Mathlib.Nat.{add-suc, suc-add, add-zero, zero-add, add_assoc}
use native.Mathlib.Omega.{arith}
use lib.ListN.{length, get_or}
use lib.Bits.{bit_xor}
use lib.Count.{ones, ones_step, ones-ones, count_trailing_zeros, under}
use Rattle.logic.specs.Truth.{Sequence}
use Rattle.row_words.specs.Row.{digit, pack_bits, row_words, filled, word_of, row, count_true, first_false}
use Rattle.row_words.proofs.Bits.{pack-half, pack-odd, pack_not}
use Rattle.row_words.proofs.Rows.{row_length, row_word}

-- ---- the positions that hold

-- the set bits of n packed positions
count-pack : (f : Sequence) (i n : ℕ) → count_true f (i + n) ≡ count_true f i + ones (pack_bits f i n)
unfolding count_true pack_bits
count-pack f i zero = ap (count_true f) (add-zero i) ∙ sym (ap (λ (x : ℕ). count_true f i + x) (ones-ones 0) ∙ add-zero (count_true f i))
count-pack f i (suc n) =
    ap (count_true f) (add-suc i n ∙ sym (suc-add i n)) ∙ count-pack f (suc i) n ∙ add_assoc (count_true f i) (digit (f i)) (ones (pack_bits f (suc i) n))
    ∙ ap (λ (x : ℕ). count_true f i + x) (sym (ones_step (pack_bits f i (suc n)) ∙ ap₂ (λ (d x : ℕ). d + ones x) (pack-odd f i n) (pack-half f i n)))

-- one more word counted
pub count_word : (L : ℕ) (f : Sequence) (r : List ℕ) (w held : ℕ) → r ≡ row L f → w < length r → held ≡ count_true f (min (w * 64) L)
    → held + ones (get_or r w 0) ≡ count_true f (min ((w + 1) * 64) L)
unfolding word_of
count_word L f r w held e h eh =
    let l : w < row_words L = subst (λ (n : ℕ). w < n) (ap length e ∙ row_length L f) h in
    ap₂ (λ (a x : ℕ). a + ones x) (eh ∙ ap (count_true f) (omega arith)) (ap (λ (xs : List ℕ). get_or xs w 0) e ∙ row_word L f w l)
    ∙ sym (count-pack f (w * 64) (filled L w)) ∙ ap (count_true f) (omega arith)

pub count_none : (L : ℕ) (f : Sequence) → 0 ≡ count_true f (min (0 * 64) L)
unfolding count_true
count_none L f = let e : 0 ≡ min (0 * 64) L = omega arith in ap (count_true f) e

pub count_all : (L : ℕ) (f : Sequence) (r : List ℕ) (w : ℕ) → r ≡ row L f → length r ≤ w → count_true f (min (w * 64) L) ≡ count_true f L
count_all L f r w e h = ap (count_true f) (omega (arith, ap length e ∙ row_length L f))

-- ---- the first position that fails

-- no bit is set in the denial: all n positions hold
none_fails : (f : Sequence) (i n m : ℕ) → pack_bits (λ k. not (f k)) i n ≡ 0 → first_false f i (n + m) ≡ first_false f (i + n) m
unfolding pack_bits first_false
none_fails f i zero m e = ap₂ (first_false f) (sym (add-zero i)) (zero-add m)
none_fails f i (suc n) m e = go (f i) refl (none_fails f (suc i) n m)
  where
    D : ℕ
    D = pack_bits (λ k. not (f k)) (suc i) n

    go : (b : Bool) → f i ≡ b → (D ≡ 0 → first_false f (suc i) (n + m) ≡ first_false f (suc i + n) m) → first_false f i (suc n + m) ≡ first_false f (i + suc n) m
    go true q ih =
        let z : D * 2 + 0 ≡ 0 = sym (ap (λ (b : Bool). D * 2 + digit (not b)) q) ∙ e in
        ap (first_false f i) (suc-add n m) ∙ ap (λ (b : Bool). cond b (first_false f (suc i) (n + m)) i) q ∙ ih (omega arith)
        ∙ ap (λ (j : ℕ). first_false f j m) (suc-add i n ∙ sym (add-suc i n))
    go false q ih = absurd (let z : D * 2 + 1 ≡ 0 = sym (ap (λ (b : Bool). D * 2 + digit (not b)) q) ∙ e in omega arith)

-- else the lowest set bit is the first position that fails
first_fails : (f : Sequence) (i n m k : ℕ) → n ≤ k → (pack_bits (λ k. not (f k)) i n ≡ 0 → ⊥)
    → first_false f i (n + m) ≡ i + count_trailing_zeros k (pack_bits (λ k. not (f k)) i n)
unfolding pack_bits first_false count_trailing_zeros
first_fails f i zero m k l h = absurd (h refl)
first_fails f i (suc n) m zero l h = absurd (omega arith)
first_fails f i (suc n) m (suc k) l h = go (f i) refl (first_fails f (suc i) n m k (omega arith))
  where
    D : ℕ
    D = pack_bits (λ k. not (f k)) (suc i) n

    go : (b : Bool) → f i ≡ b → ((D ≡ 0 → ⊥) → first_false f (suc i) (n + m) ≡ suc i + count_trailing_zeros k D)
        → first_false f i (suc n + m) ≡ i + under (pack_bits (λ k. not (f k)) i (suc n) % 2) (count_trailing_zeros k (pack_bits (λ k. not (f k)) i (suc n) / 2))
    go b q ih =
        ap (first_false f i) (suc-add n m) ∙ ap (λ (b : Bool). cond b (first_false f (suc i) (n + m)) i) q ∙ by b q ih
        ∙ sym (ap₂ (λ (d x : ℕ). i + under d (count_trailing_zeros k x)) (pack-odd (λ k. not (f k)) i n ∙ ap (λ (b : Bool). digit (not b)) q) (pack-half (λ k. not (f k)) i n))
      where
        by : (b : Bool) → f i ≡ b → ((D ≡ 0 → ⊥) → first_false f (suc i) (n + m) ≡ suc i + count_trailing_zeros k D)
            → cond b (first_false f (suc i) (n + m)) i ≡ i + under (digit (not b)) (count_trailing_zeros k D)
        by true q ih =
            ih (λ z. h (ap₂ (λ (x : ℕ) (b : Bool). x * 2 + digit (not b)) z q))
            ∙ suc-add i (count_trailing_zeros k D) ∙ sym (add-suc i (count_trailing_zeros k D))
        by false q ih = sym (add-zero i)

-- ---- word by word

module _ (L : ℕ) (f : Sequence) (r : List ℕ) (w n all : ℕ) (e : r ≡ row L f) (inside : w * 64 < L) (en : n ≡ filled L w) (ea : all ≡ 2 ^ n - 1) where
  -- the denial of word w
  failing : bit_xor all (get_or r w 0) ≡ pack_bits (λ k. not (f k)) (w * 64) n
  unfolding word_of
  failing =
      ap₂ bit_xor ea (ap (λ (xs : List ℕ). get_or xs w 0) e ∙ row_word L f w (omega arith) ∙ ap (pack_bits f (w * 64)) (sym en)) ∙ pack_not f (w * 64) n

  split : L - w * 64 ≡ n + (L - (w * 64 + n))
  split = omega arith

  pub word_holds : bit_xor all (get_or r w 0) ≡ 0 → first_false f (min (w * 64) L) (L - w * 64) ≡ first_false f (min ((w + 1) * 64) L) (L - (w + 1) * 64)
  word_holds z =
      let a : min (w * 64) L ≡ w * 64 = omega arith in
      let b : w * 64 + n ≡ min ((w + 1) * 64) L = omega arith in
      let d : L - (w * 64 + n) ≡ L - (w + 1) * 64 = omega arith in
      ap₂ (first_false f) a split ∙ none_fails f (w * 64) n (L - (w * 64 + n)) (sym failing ∙ z) ∙ ap₂ (first_false f) b d

  pub word-fails : (bit_xor all (get_or r w 0) ≡ 0 → ⊥)
      → first_false f (min (w * 64) L) (L - w * 64) ≡ w * 64 + count_trailing_zeros 64 (bit_xor all (get_or r w 0))
  word-fails z =
      let a : min (w * 64) L ≡ w * 64 = omega arith in
      ap₂ (first_false f) a split ∙ first_fails f (w * 64) n (L - (w * 64 + n)) 64 (omega arith) (λ q. z (failing ∙ q))
      ∙ ap (λ (x : ℕ). w * 64 + count_trailing_zeros 64 x) (sym failing)

pub first_none : (f : Sequence) (i n : ℕ) → n ≡ 0 → first_false f i n ≡ i
unfolding first_false
first_none f i n e = ap (first_false f i) e
