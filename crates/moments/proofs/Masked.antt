-- What differs of two samples, under a mask of k ones, is 0 exactly where they have the same bits of the letters 1 to k.
use Prim.Native.Nat.{ℕ, suc, ◌-◌, ◌^◌, ◌<◌}
use mathlib.Core.Path.{◌≡◌, refl, sym, ap, ap₂, ◌∙◌}
use mathlib.Core.Bool.{Bool, true, false, ◌&&◌, xor}
use native.Mathlib.Omega.{arith}
use lib.Dec.{eqb}
use lib.Bits.{bit_and, bit_xor, mask_lt}
use borrow.Author.Tests.{eq-eqb, ne_eqb}
use Rattle.logic.specs.Bit.{bit}
use Rattle.logic.specs.Lasso.{letter_in}
use Rattle.logic.specs.Driven.{Driven}
use Rattle.row_words.proofs.Bits.{bit_and_lem, bit_xor_lem, bit-pack, bit_above, pack-ones, pack-zeros, packed}
use Rattle.agreement.specs.Comparing.{alike}
use Rattle.agreement.proofs.Bits.{alike-bits, unlike_bit}

-- a difference that is not masked
unmasked : (a b : Bool) → xor a b && true ≡ false → a ≡ b
unfolding xor
unmasked true true h = refl
unmasked true false h = h
unmasked false true h = sym h
unmasked false false h = refl

same_masked : (a b m : Bool) → a ≡ b → xor a b && m ≡ false
unfolding xor
same_masked true true m h = refl
same_masked true false m h = absurd (let z : ◌≡◌ {A = ℕ} 0 1 = cc in omega arith)
same_masked false true m h = absurd (let z : ◌≡◌ {A = ℕ} 0 1 = cc in omega arith)
same_masked false false m h = refl

module _ (v w k : ℕ) where
  abbrev masked : ℕ
  masked = bit_and (bit_xor v w) (2 ^ k - 1)

  mask-bit : (j : ℕ) → j < k → bit (2 ^ k - 1) j ≡ true
  mask-bit j l = ap (λ (x : ℕ). bit x j) (pack-ones 0 k) ∙ bit-pack (λ i. true) 0 k j l

  masked-bit : (j : ℕ) → j < k → bit masked j ≡ xor (bit v j) (bit w j) && true
  masked-bit j l = bit_and_lem (bit_xor v w) (2 ^ k - 1) j ∙ ap₂ ◌&&◌ (bit_xor_lem v w j) (mask-bit j l)

  none_same : masked ≡ 0 → (n : ℕ) → Driven k n → letter_in v n ≡ letter_in w n
  unfolding letter_in
  none_same e n d =
      unmasked (bit v (n - 1)) (bit w (n - 1))
      (sym (masked-bit (n - 1) (omega (arith, d.0, d.1))) ∙ ap (λ (x : ℕ). bit x (n - 1)) e ∙ bit_above 0 0 (n - 1) (omega arith) (omega arith))

  same_none : ((n : ℕ) → Driven k n → letter_in v n ≡ letter_in w n) → masked ≡ 0
  unfolding letter_in
  same_none h =
      packed (λ i. false) 0 k masked (mask_lt (bit_xor v w) k)
      (λ j l.
      let d : suc j - 1 ≡ j = omega arith in
      masked-bit j l ∙ same_masked (bit v j) (bit w j) true (rw d at (h (suc j) (omega arith, omega arith))))
      ∙ sym (pack-zeros 0 k)

  pub masked-alike : eqb masked 0 ≡ alike k v w
  masked-alike = go (alike k v w) refl
    where
      go : (b : Bool) → alike k v w ≡ b → eqb masked 0 ≡ b
      go true e = eq-eqb masked 0 (same_none (alike-bits v w k e))
      go false e = let u = unlike_bit v w k e in ne_eqb masked 0 (λ z. u.2 (none_same z u.0 u.1))
