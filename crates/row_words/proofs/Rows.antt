-- Rows as lists of words: a row is given by its words, and its bits are the sequence.
use mathlib.Core.Path.{◌≡◌, refl, sym, ap, ap₂, ◌∙◌}
use mathlib.Core.Bool.{Bool, true, false, cond, ◌&&◌, ◌||◌, and-true}
use mathlib.Core.List.{List}
use Prim.Native.Nat.{ℕ, zero, suc, ◌+◌, ◌-◌, ◌*◌, ◌/◌, ◌%◌, ◌≤◌, ◌<◌, min}
use native.Mathlib.Nat.{add-suc, suc-add, add-zero, zero-add, le_of_suc-le-suc}
use native.Mathlib.Numerals.{add-one}
use native.Mathlib.Decide.{dec_le}
use native.Mathlib.Omega.{arith}
use borrow.Author.Tests.{lt-ltb, le-ltb, ltb-true, ltb-false, eqb-true, eqb-false}
use lib.Dec.{eqb, ltb}
use lib.ListN.{length, length-set, get_or, set}
use lib.Seq.{get_or-set_same, get_or-set_other, ext_get_or}
use mir.Val.{bool_byte}
use Rattle.logic.specs.Truth.{Sequence, sweep}
use Rattle.logic.proofs.Lasso.Sequence.{sweep-append}
use Rattle.logic.specs.Bit.{bit}
use Rattle.row_words.specs.Row.{pack_bits, row_words, filled, word_of, words_from, row, Written, next, word_sweep, nowhere}
use Rattle.row_words.proofs.Bits.{bit-pack, bit-zero, pack_ext}
use Rattle.row_words.proofs.Sweep.{sweep-done, sweep_carry}

-- ---- a row's words

length_from : (L : ℕ) (f : Sequence) (w n : ℕ) → length (words_from L f w n) ≡ n
unfolding words_from
length_from L f w zero = refl
length_from L f w (suc n) = ap suc (length_from L f (suc w) n)

get_or_from : (L : ℕ) (f : Sequence) (w n k : ℕ) → k < n → get_or (words_from L f w n) k 0 ≡ word_of L f (w + k)
unfolding words_from
get_or_from L f w zero k h = absurd (omega arith)
get_or_from L f w (suc n) zero h = ap (word_of L f) (sym (add-zero w))
get_or_from L f w (suc n) (suc k) h = get_or_from L f (suc w) n k (le_of_suc-le-suc h) ∙ ap (word_of L f) (suc-add w k ∙ sym (add-suc w k))

pub row_length : (L : ℕ) (f : Sequence) → length (row L f) ≡ row_words L
unfolding row
row_length L f = length_from L f 0 (row_words L)

pub row_word : (L : ℕ) (f : Sequence) (w : ℕ) → w < row_words L → get_or (row L f) w 0 ≡ word_of L f w
unfolding row
row_word L f w h = get_or_from L f 0 (row_words L) w h ∙ ap (word_of L f) (zero-add w)

-- ---- a row written word by word

pub written_none : {L : ℕ} {f : Sequence} {r : List ℕ} {lo hi : ℕ} → hi ≤ lo → Written L f lo hi r
written_none h = record { word = λ w a b. absurd (omega arith) }

pub written_row : {L : ℕ} {f : Sequence} {r : List ℕ} {hi : ℕ} → length r ≡ row_words L → hi ≡ row_words L → Written L f 0 hi r → r ≡ row L f
written_row {L} {f} {r} e q h =
    ext_get_or 0 r (row L f) (e ∙ sym (row_length L f)) (λ w l. let m : w < row_words L = omega arith in h.word w (omega arith) (omega arith) ∙ sym (row_word L f w m))

written_one : (L : ℕ) (f : Sequence) (r : List ℕ) (v x w : ℕ) → v < length r → x ≡ word_of L f v → ((w ≡ v → ⊥) → get_or r w 0 ≡ word_of L f w)
    → get_or (set r v x) w 0 ≡ word_of L f w
written_one L f r v x w inside here other = go (eqb w v) refl
  where
    go : (t : Bool) → eqb w v ≡ t → get_or (set r v x) w 0 ≡ word_of L f w
    go true e = let q : w ≡ v = eqb-true w v e in rw q (get_or-set_same r v x 0 inside ∙ here)
    go false e = let n = eqb-false w v e in get_or-set_other r v w x 0 n ∙ other n

-- one more word above
pub written-up : {L : ℕ} {f : Sequence} {r : List ℕ} {v x : ℕ} → Written L f 0 v r → v < length r → x ≡ word_of L f v → Written L f 0 (v + 1) (set r v x)
written-up {L} {f} {r} {v} {x} h inside here =
    record { word = λ w a b. written_one L f r v x w inside here (λ n. h.word w a (omega arith)) }

-- the last word, and with it the row
pub written_last : {L : ℕ} {f : Sequence} {r : List ℕ} {u v x : ℕ} → Written L f 0 u r → u ≡ v → v + 1 ≡ row_words L → length r ≡ row_words L → x ≡ word_of L f v
    → set r v x ≡ row L f
written_last {L} {f} {r} {u} {v} {x} h q s e here =
    let below : Written L f 0 v r = record { word = λ w a b. h.word w a (omega arith) } in
    written_row (length-set r v x ∙ e) s (written-up below (omega arith) here)

-- one more word below
pub written-down : {L : ℕ} {f : Sequence} {r : List ℕ} {u hi : ℕ} → Written L f u hi r → (v : ℕ) {x : ℕ} → u ≡ suc v → v < length r → x ≡ word_of L f v
    → Written L f v hi (set r v x)
written-down {L} {f} {r} {u} {hi} h v {x} q inside here =
    record { word = λ w a b. written_one L f r v x w inside here (λ n. h.word w (omega arith) b) }

-- ---- positions

-- the bit of a position
pub word-bit : (L : ℕ) (f : Sequence) (i : ℕ) → i < L → bit (word_of L f (i / 64)) (i % 64) ≡ f i
unfolding word_of
word-bit L f i h = bit-pack f (i / 64 * 64) (filled L (i / 64)) (i % 64) (omega arith) ∙ ap f (omega arith)

-- the lowest bit of a word is its first position's
pub word_low : (L : ℕ) (f : Sequence) (w : ℕ) → w * 64 < L → eqb (word_of L f w % 2) 1 ≡ f (w * 64)
unfolding word_of
word_low L f w h = sym (bit-zero (word_of L f w)) ∙ bit-pack f (w * 64) (filled L w) 0 (omega arith) ∙ ap f (add-zero (w * 64))

-- the same of a list that is the row
module _ (L : ℕ) (f : Sequence) (r : List ℕ) (e : r ≡ row L f) where
  pub in_row : (w : ℕ) → w < row_words L → get_or r w 0 ≡ word_of L f w
  in_row w h = ap (λ (l : List ℕ). get_or l w 0) e ∙ row_word L f w h

  pub row-bit : (i : ℕ) → i < L → bit (get_or r (i / 64) 0) (i % 64) ≡ f i
  row-bit i h = ap (λ (x : ℕ). bit x (i % 64)) (in_row (i / 64) (omega arith)) ∙ word-bit L f i h

  pub row_low : (w : ℕ) → w * 64 < L → eqb (get_or r w 0 % 2) 1 ≡ f (w * 64)
  row_low w h = ap (λ (x : ℕ). eqb (x % 2) 1) (in_row w (omega arith)) ∙ word_low L f w h

  -- a word of it is what is packed of the word's positions
  pub row-pack : (w n : ℕ) → w < row_words L → n ≡ filled L w → get_or r w 0 ≡ pack_bits f (w * 64) n
  unfolding word_of
  row-pack w n h en = in_row w h ∙ ap (pack_bits f (w * 64)) (sym en)

word_ext : (L : ℕ) (f g : Sequence) (w : ℕ) → ((i : ℕ) → i < L → f i ≡ g i) → word_of L f w ≡ word_of L g w
unfolding word_of
word_ext L f g w e = pack_ext f g (w * 64) (w * 64) (filled L w) (λ k l. e (w * 64 + k) (omega arith))

-- a row depends on the positions below L alone
pub row_ext : (L : ℕ) (f g : Sequence) → ((i : ℕ) → i < L → f i ≡ g i) → row L f ≡ row L g
row_ext L f g e = written_row (row_length L f) refl (record { word = λ w l m. row_word L f w m ∙ word_ext L f g w e })

-- what is packed of a word's positions is the word
pub pack-word : (L : ℕ) (f : Sequence) (w n x : ℕ) → n ≡ filled L w → x ≡ pack_bits f (w * 64) n → x ≡ word_of L f w
unfolding word_of
pack-word L f w n x en ex = ex ∙ ap (pack_bits f (w * 64)) en

-- ---- words from the last one down

-- the sweep from word w on, from what it comes to at the first position of the word after
module _ (L : ℕ) (G P : Sequence) (c carry : Bool) (w u n : ℕ) (h : w * 64 < L) (eu : u ≡ suc w) (en : n ≡ filled L w)
    (ec : carry ≡ sweep G P c (u * 64) (L - u * 64)) where
  -- after the word's n positions either the next word starts, or no position is left
  word_end : (t : Bool) → ltb (u * 64) L ≡ t → carry ≡ sweep G P c (w * 64 + n) (L - (w * 64 + n))
  word_end true e = let l = ltb-true (u * 64) L e in ec ∙ ap₂ (sweep G P c) (omega arith) (omega arith)
  word_end false e =
      let l = ltb-false (u * 64) L e in
      let z : L - u * 64 ≡ 0 = omega arith in
      let y : L - (w * 64 + n) ≡ 0 = omega arith in
      ec ∙ sweep-done G P c (u * 64) (L - u * 64) z ∙ sym (sweep-done G P c (w * 64 + n) (L - (w * 64 + n)) y)

  pub sweep_from : (i m : ℕ) → i + m ≡ w * 64 + n → sweep G P carry i m ≡ sweep G P c i (L - i)
  sweep_from i m e =
      ap (λ (b : Bool). sweep G P b i m) (word_end (ltb (u * 64) L) refl)
      ∙ ap (λ (j : ℕ). sweep G P (sweep G P c j (L - (w * 64 + n))) i m) (sym e)
      ∙ sym (sweep-append G P c i m (L - (w * 64 + n)))
      ∙ ap (sweep G P c i) (omega arith)

-- word w one position on, from the value at the first position of the word after, or from what comes in at the end if there is none
pub next_word : (L : ℕ) (A : Sequence) (c carry : Bool) (w n : ℕ) → w * 64 < L → n ≡ filled L w
    → carry ≡ cond (ltb (suc w * 64) L) (A (suc w * 64)) c
    → pack_bits (λ k. cond (ltb (suc k) (w * 64 + n)) (A (suc k)) carry) (w * 64) n ≡ word_of L (next L A c) w
unfolding word_of
next_word L A c carry w n h en ec =
    pack_ext _ (next L A c) (w * 64) (w * 64) n (λ k l. here k l (ltb (suc (w * 64 + k)) (w * 64 + n)) refl)
    ∙ ap (pack_bits (next L A c) (w * 64)) en
  where
    last : (k : ℕ) → k < n → w * 64 + n ≤ suc (w * 64 + k) → (t : Bool) → ltb (suc w * 64) L ≡ t
        → cond t (A (suc w * 64)) c ≡ next L A c (w * 64 + k)
    last k l m true e =
        let o = ltb-true (suc w * 64) L e in
        let q : suc w * 64 ≡ suc (w * 64 + k) = omega arith in
        rw (← q, e)
    last k l m false e =
        let o = ltb-false (suc w * 64) L e in
        rw (le-ltb (suc (w * 64 + k)) L (omega arith))

    here : (k : ℕ) → k < n → (t : Bool) → ltb (suc (w * 64 + k)) (w * 64 + n) ≡ t
        → cond t (A (suc (w * 64 + k))) carry ≡ next L A c (w * 64 + k)
    here k l true e =
        let m = ltb-true (suc (w * 64 + k)) (w * 64 + n) e in
        rw (lt-ltb (suc (w * 64 + k)) L (omega arith))
    here k l false e =
        let m = ltb-false (suc (w * 64 + k)) (w * 64 + n) e in
        ec ∙ last k l m (ltb (suc w * 64) L) refl

bool_low : (b : Bool) → eqb (bool_byte b % 2) 1 ≡ b
bool_low true = refl
bool_low false = refl

-- the same of the words of a row: the word after is there, or word w is the last
module _ (L : ℕ) (A : Sequence) (a : List ℕ) (c : Bool) (e : a ≡ row L A) where
  pub inner_next : (w x : ℕ) → suc w < row_words L
      → ((B : Sequence) (i : ℕ) → get_or a w 0 ≡ pack_bits B i 64 → x ≡ pack_bits (λ k. cond (ltb (suc k) (i + 64)) (B (suc k)) (eqb (get_or a (w + 1) 0 % 2) 1)) i 64)
      → x ≡ word_of L (next L A c) w
  inner_next w x h law =
      let n : 64 ≡ filled L w = omega arith in
      let o : suc w * 64 < L = omega arith in
      law A (w * 64) (row-pack L A a e w 64 (omega arith) n)
      ∙ next_word L A c _ w 64 (omega arith) n
      (ap (λ (v : ℕ). eqb (get_or a v 0 % 2) 1) (add-one w) ∙ row_low L A a e (suc w) o ∙ sym (ap (λ (t : Bool). cond t (A (suc w * 64)) c) (lt-ltb (suc w * 64) L o)))

  pub last_next : (w n x : ℕ) → suc w ≡ row_words L → 1 ≤ L → n ≡ filled L w
      → ((B : Sequence) (i : ℕ) → get_or a w 0 ≡ pack_bits B i n → x ≡ pack_bits (λ k. cond (ltb (suc k) (i + n)) (B (suc k)) (eqb (bool_byte c % 2) 1)) i n)
      → x ≡ word_of L (next L A c) w
  last_next w n x h some en law =
      law A (w * 64) (row-pack L A a e w n (omega arith) en)
      ∙ next_word L A c _ w n (omega arith) en (bool_low c ∙ sym (ap (λ (t : Bool). cond t (A (suc w * 64)) c) (le-ltb (suc w * 64) L (omega arith))))

-- ---- rows that need no sweep

-- word by word: what holds at the positions of each word holds at all
pub by_words : (L : ℕ) (f g : Sequence) → ((w : ℕ) → w < row_words L → word_of L f w ≡ word_of L g w) → (i : ℕ) → i < L → f i ≡ g i
by_words L f g e i h = sym (word-bit L f i h) ∙ ap (λ (x : ℕ). bit x (i % 64)) (e (i / 64) (omega arith)) ∙ word-bit L g i h

-- a sweep with the carry where the goal or the keep holds at every position
pub sweep_everywhere : (L : ℕ) (G P : Sequence) → ((i : ℕ) → i < L → G i || P i ≡ true) → (i n : ℕ) → i + n ≤ L → sweep G P true i n ≡ true
unfolding sweep
sweep_everywhere L G P e i zero h = refl
sweep_everywhere L G P e i (suc n) h =
    ap (λ (b : Bool). G i || (P i && b)) (sweep_everywhere L G P e (suc i) n (omega arith)) ∙ ap (λ (b : Bool). G i || b) (and-true (P i)) ∙ e i (omega arith)

-- a sweep where one step adds nothing to the goal
pub sweep-settled : (L : ℕ) (G P : Sequence) (c : Bool) → ((i : ℕ) → i < L → G i || (P i && next L G c i) ≡ G i) → (i n : ℕ) → i + suc n ≡ L → sweep G P c i (suc n) ≡ G i
unfolding sweep
sweep-settled L G P c e i zero h =
    ap (λ (b : Bool). G i || (P i && b)) (sym (ap (λ (t : Bool). cond t (G (suc i)) c) (le-ltb (suc i) L (omega arith)))) ∙ e i (omega arith)
sweep-settled L G P c e i (suc n) h =
    ap (λ (b : Bool). G i || (P i && b))
    (sweep-settled L G P c e (suc i) n (omega arith) ∙ sym (ap (λ (t : Bool). cond t (G (suc i)) c) (lt-ltb (suc i) L (omega arith)))) ∙ e i (omega arith)

-- ---- a sweep word by word upward

-- the sweep from a position on by what it comes to within the word: a goal is reached; the keep fails; or it is that from the next word on
module _ (L : ℕ) (G P : Sequence) (c : Bool) (i : ℕ) (h : i < L) where
  end : ℕ
  end = min (i / 64 * 64 + 64) L

  cut : sweep G P c i (L - i) ≡ word_sweep L G P false i || (word_sweep L nowhere P true i && sweep G P c end (L - end))
  unfolding end
  cut =
      ap (sweep G P c i) (omega arith)
      ∙ sweep-append G P c i (end - i) (L - end)
      ∙ ap (λ (j : ℕ). sweep G P (sweep G P c j (L - end)) i (end - i)) (omega arith)
      ∙ sweep_carry G P (sweep G P c end (L - end)) i (end - i)

  pub goal_reached : word_sweep L G P false i ≡ true → true ≡ sweep G P c i (L - i)
  goal_reached e = sym (cut ∙ ap (λ (b : Bool). b || (word_sweep L nowhere P true i && sweep G P c end (L - end))) e)

  pub keep_failed : word_sweep L G P false i ≡ false → word_sweep L nowhere P true i ≡ false → false ≡ sweep G P c i (L - i)
  keep_failed e d = sym (cut ∙ ap₂ (λ (a b : Bool). a || (b && sweep G P c end (L - end))) e d)

  pub word_passed : word_sweep L G P false i ≡ false → word_sweep L nowhere P true i ≡ true
      → sweep G P c i (L - i) ≡ sweep G P c (i / 64 * 64 + 64) (L - (i / 64 * 64 + 64))
  unfolding end
  word_passed e d =
      cut ∙ ap₂ (λ (a b : Bool). a || (b && sweep G P c end (L - end))) e d ∙ go (dec_le (i / 64 * 64 + 64) L)
    where
      go : Dec (i / 64 * 64 + 64 ≤ L) → sweep G P c end (L - end) ≡ sweep G P c (i / 64 * 64 + 64) (L - (i / 64 * 64 + 64))
      go (yes l) = ap₂ (sweep G P c) (omega arith) (omega arith)
      go (no l) =
          sweep-done G P c end (L - end) (omega arith)
          ∙ sym (sweep-done G P c (i / 64 * 64 + 64) (L - (i / 64 * 64 + 64)) (omega arith))
