-- Numbers by their bits: the bits of such a number, its bound, and the bit operations on them.
use Prim.Native.Nat.{ℕ, zero, suc, ◌+◌, ◌*◌, ◌/◌, ◌%◌, ◌^◌, ◌<◌, min, max}
use mathlib.Core.Path.{◌≡◌, refl, ap, ap₂, sym, ◌∙◌}
use mathlib.Core.Bool.{Bool, true, false, ◌&&◌, ◌||◌, cond}
use mathlib.Core.List.{List, [], ◌∷◌}
use native.Mathlib.Nat.{div-div-eq-div-mul, div-one, zero-div, pow-suc}
use native.Mathlib.Omega.{arith}
use lib.ListN.{length, get_or}
use lib.Bits.{bit_and, bit_or, and_step, or_step, and_zero_l, and_zero_r, or_zero_l, or_zero_r}
use Rattle.logic.specs.ClassByte.{of_bits}

pub of_bits_lt : (bs : List Bool) → of_bits bs < 2 ^ length bs
of_bits_lt [] = omega arith
of_bits_lt (true ∷ bs) = omega (arith, of_bits_lt bs, pow-suc 2 (length bs))
of_bits_lt (false ∷ bs) = omega (arith, of_bits_lt bs, pow-suc 2 (length bs))

pub of_bits-half : (b : Bool) (bs : List Bool) → of_bits (b ∷ bs) / 2 ≡ of_bits bs
of_bits-half true bs = omega arith
of_bits-half false bs = omega arith

pub of_bits-odd : (b : Bool) (bs : List Bool) → of_bits (b ∷ bs) % 2 ≡ cond b 1 0
of_bits-odd true bs = omega arith
of_bits-odd false bs = omega arith

-- bit i of a number by its bits, none past the end
pub of_bits-bit : (bs : List Bool) (i : ℕ) → of_bits bs / 2 ^ i % 2 ≡ cond (get_or bs i false) 1 0
of_bits-bit [] i = rw (zero-div (2 ^ i))
of_bits-bit (b ∷ bs) zero = ap (λ (n : ℕ). n % 2) (div-one (of_bits (b ∷ bs))) ∙ of_bits-odd b bs
of_bits-bit (b ∷ bs) (suc i) =
    let n : ℕ = of_bits (b ∷ bs) in
    let double : 2 ^ suc i ≡ 2 * 2 ^ i = omega arith in
    ap (λ (m : ℕ). n / m % 2) double
    ∙ ap (λ (m : ℕ). m % 2) (sym (div-div-eq-div-mul n 2 (2 ^ i)))
    ∙ ap (λ (m : ℕ). m / 2 ^ i % 2) (of_bits-half b bs)
    ∙ of_bits-bit bs i

-- both, and either, of the bits at each place
abbrev pub and_bits : List Bool → List Bool → List Bool
and_bits [] bs = []
and_bits (a ∷ as') [] = []
and_bits (a ∷ as') (b ∷ bs) = (a && b) ∷ and_bits as' bs

abbrev pub or_bits : List Bool → List Bool → List Bool
or_bits [] bs = bs
or_bits (a ∷ as') [] = a ∷ as'
or_bits (a ∷ as') (b ∷ bs) = (a || b) ∷ or_bits as' bs

min-digits : (a b : Bool) → min (cond a 1 0) (cond b 1 0) ≡ cond (a && b) 1 0
min-digits true true = refl
min-digits true false = refl
min-digits false true = refl
min-digits false false = refl

max-digits : (a b : Bool) → max (cond a 1 0) (cond b 1 0) ≡ cond (a || b) 1 0
max-digits true true = refl
max-digits true false = refl
max-digits false true = refl
max-digits false false = refl

digits : (b : Bool) (n : ℕ) → n * 2 + cond b 1 0 ≡ cond b 1 0 + 2 * n
digits b n = omega arith

pub and_of_bits : (as' bs : List Bool) → bit_and (of_bits as') (of_bits bs) ≡ of_bits (and_bits as' bs)
and_of_bits [] bs = and_zero_l (of_bits bs)
and_of_bits (a ∷ as') [] = and_zero_r (of_bits (a ∷ as'))
and_of_bits (a ∷ as') (b ∷ bs) =
    and_step (of_bits (a ∷ as')) (of_bits (b ∷ bs))
    ∙ ap₂ (λ (h l : ℕ). h * 2 + l)
    (ap₂ bit_and (of_bits-half a as') (of_bits-half b bs) ∙ and_of_bits as' bs)
    (ap₂ min (of_bits-odd a as') (of_bits-odd b bs) ∙ min-digits a b)
    ∙ digits (a && b) (of_bits (and_bits as' bs))

pub or_of_bits : (as' bs : List Bool) → bit_or (of_bits as') (of_bits bs) ≡ of_bits (or_bits as' bs)
or_of_bits [] bs = or_zero_l (of_bits bs)
or_of_bits (a ∷ as') [] = or_zero_r (of_bits (a ∷ as'))
or_of_bits (a ∷ as') (b ∷ bs) =
    or_step (of_bits (a ∷ as')) (of_bits (b ∷ bs))
    ∙ ap₂ (λ (h l : ℕ). h * 2 + l)
    (ap₂ bit_or (of_bits-half a as') (of_bits-half b bs) ∙ or_of_bits as' bs)
    (ap₂ max (of_bits-odd a as') (of_bits-odd b bs) ∙ max-digits a b)
    ∙ digits (a || b) (of_bits (or_bits as' bs))
