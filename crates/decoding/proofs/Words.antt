-- The words of some bytes, one more at the end.
use Prim.Native.Nat.{ℕ, zero, suc, ◌+◌, ◌<◌}
use mathlib.Core.Path.{◌≡◌, refl, ap}
use mathlib.Core.List.{List, [], ◌∷◌, ◌++◌}
use native.Mathlib.Nat.{add-zero}
use native.Mathlib.Numerals.{add-one}
use native.Mathlib.Omega.{arith}
use lib.ListN.{length, drop, set}
use lib.Seq.{drop-cons, set_at, append_snoc}
use Rattle.decoding.specs.Words.{word_at, decoded}

pub length-words : (bs : List ℕ) (i n : ℕ) → length (decoded bs i n) ≡ n
unfolding decoded
length-words bs i zero = refl
length-words bs i (suc n) = ap suc (length-words bs (suc i) n)

words_snoc : (bs : List ℕ) (i n : ℕ) → decoded bs i (suc n) ≡ decoded bs i n ++ (word_at bs (i + n) ∷ [])
unfolding decoded
words_snoc bs i zero = rw add-zero
words_snoc bs i (suc n) = let e : i + suc n ≡ suc i + n = omega arith in rw e (ap (word_at bs i ∷◌) (words_snoc bs (suc i) n))

-- the word at i put where the words before it end
pub word_more : (bs out : List ℕ) (i w : ℕ) → i < length out → w ≡ word_at bs i
    → set (decoded bs 0 i ++ drop i out) i w ≡ decoded bs 0 (i + 1) ++ drop (i + 1) out
word_more bs out i w l e =
    let z : 0 + i ≡ i = omega arith in
    rw (add-one, drop-cons out i 0, words_snoc, z, append_snoc, e)
    (set_at (decoded bs 0 i) _ (drop (suc i) out) (word_at bs i) i (length-words bs 0 i))
