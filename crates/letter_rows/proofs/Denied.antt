-- A letter's word, or its denial's.
use mathlib.Core.Path.{◌≡◌, refl, ◌∙◌}
use mathlib.Core.Bool.{Bool, true, false, not, beq}
use mathlib.Core.List.{List}
use Prim.Native.Nat.{ℕ, ◌+◌, ◌-◌, ◌^◌}
use lib.ListN.{get_or}
use lib.Bits.{bit_xor}
use Rattle.logic.specs.Lasso.{letter_in}
use Rattle.row_words.specs.Row.{pack_bits}
use Rattle.row_words.specs.Writing.{literal}
use Rattle.row_words.proofs.Bits.{pack_ext, pack_not}

-- a letter's bits, or all of them denied
module _ (samples : List ℕ) (letter : ℕ) (positive : Bool) (i n x : ℕ) (e : x ≡ pack_bits (λ j. letter_in (get_or samples j 0) letter) i n) where
  pub held : positive ≡ true → x ≡ pack_bits (λ j. literal letter positive (get_or samples j 0)) i n
  held p = rw p (e ∙ pack_ext _ _ i i n (λ k l. same (letter_in (get_or samples (i + k) 0) letter)))
    where
      same : (b : Bool) → b ≡ beq true b
      same true = refl
      same false = refl

  pub denied : (all : ℕ) → all ≡ 2 ^ n - 1 → positive ≡ false → bit_xor all x ≡ pack_bits (λ j. literal letter positive (get_or samples j 0)) i n
  denied all a p = rw (p, a, e) (pack_not _ i n ∙ pack_ext _ _ i i n (λ k l. other (letter_in (get_or samples (i + k) 0) letter)))
    where
      other : (b : Bool) → not b ≡ beq false b
      other true = refl
      other false = refl
