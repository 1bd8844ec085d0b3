-- How many entries of a list are 0: one fewer where one of them is set to a number.
use Prim.Native.Nat.{ℕ, zero, suc, ◌<◌}
use native.Mathlib.Nat.{le_of_suc-le-suc, not-suc-le-zero}
use native.Mathlib.Omega.{arith}
use mathlib.Core.Path.{◌≡◌, refl}
use mathlib.Core.List.{List, [], ◌∷◌}
use lib.ListN.{length, get_or, set}

abbrev pub zeros : List ℕ → ℕ
zeros [] = 0
zeros (zero ∷ l) = suc (zeros l)
zeros (suc n ∷ l) = zeros l

pub zeros-set : (l : List ℕ) (i n : ℕ) → i < length l → get_or l i 0 ≡ 0 → 0 < n → suc (zeros (set l i n)) ≡ zeros l
zeros-set [] i n h e p = absurd (not-suc-le-zero h)
zeros-set (m ∷ l) i zero h e p = absurd (not-suc-le-zero p)
zeros-set (zero ∷ l) zero (suc n) h e p = refl
zeros-set (suc m ∷ l) zero (suc n) h e p = absurd (omega (arith, e))
zeros-set (zero ∷ l) (suc i) (suc n) h e p = omega (arith, zeros-set l i (suc n) (le_of_suc-le-suc h) e p)
zeros-set (suc m ∷ l) (suc i) (suc n) h e p = zeros-set l i (suc n) (le_of_suc-le-suc h) e p
