-- Rows: the truth of a formula at each of L positions, as 64-bit words.
-- Position i stands at bit i % 64, bit 0 the lowest, of word i / 64, counted from 0; the unused high bits are 0.
-- A truth sequence is a function from positions; of it only what stands below L counts.
use Rattle.std.specs.Prelude.{◌≡◌, ℕ, zero, suc, ◌+◌, ◌-◌, ◌*◌, ◌/◌, ◌≤◌, ◌<◌, min, Bool, true, false, cond, List, [], ◌∷◌, get_or, ltb}
use Rattle.logic.specs.Truth.{Sequence, sweep}

abbrev pub digit : Bool → ℕ
digit true = 1
digit false = 0

-- the n values of a sequence from position i on as a number, the value at i lowest
unfoldable pub pack_bits : Sequence → ℕ → ℕ → ℕ
pack_bits f i zero = 0
pack_bits f i (suc n) = pack_bits f (suc i) n * 2 + digit (f i)

-- how many words L positions take, and how many of the positions stand in word w
abbrev pub row_words : ℕ → ℕ
row_words L = (L + 63) / 64

abbrev pub filled : ℕ → ℕ → ℕ
filled L w = min 64 (L - w * 64)

-- word w of the row of a sequence
unfoldable pub word_of : ℕ → Sequence → ℕ → ℕ
word_of L f w = pack_bits f (w * 64) (filled L w)

-- words w, w + 1, .., n of them
unfoldable pub words_from : ℕ → Sequence → ℕ → ℕ → List ℕ
words_from L f w zero = []
words_from L f w (suc n) = word_of L f w ∷ words_from L f (suc w) n

unfoldable pub row : ℕ → Sequence → List ℕ
row L f = words_from L f 0 (row_words L)

-- words lo to hi - 1 of a list are those of the row of a sequence
pub record Written (L : ℕ) (f : Sequence) (lo hi : ℕ) (r : List ℕ) : Type 0 where
  pub word : (w : ℕ) → lo ≤ w → w < hi → get_or r w 0 ≡ word_of L f w

-- each position's next value; after the last one comes c
abbrev pub next : ℕ → Sequence → Bool → Sequence
next L f c i = cond (ltb (suc i) L) (f (suc i)) c

-- a sweep that ends with the word of its position
abbrev pub word_sweep : ℕ → Sequence → Sequence → Bool → Sequence
word_sweep L g q c i = sweep g q c i (min (i / 64 * 64 + 64) L - i)

-- a goal that is nowhere: a sweep for it asks that the keep holds all the way
abbrev pub nowhere : Sequence
nowhere i = false

-- how many of the n first positions hold
unfoldable pub count_true : Sequence → ℕ → ℕ
count_true f zero = 0
count_true f (suc n) = count_true f n + digit (f n)

-- the first of the n positions from i on that fails, or the position after them
unfoldable pub first_false : Sequence → ℕ → ℕ → ℕ
first_false f i zero = i
first_false f i (suc n) = cond (f i) (first_false f (suc i) n) i
