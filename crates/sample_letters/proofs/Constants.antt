-- A letter's bit in a sample, as the kind of a constant.
use Prim.Native.Nat.{ℕ, zero, suc, ◌+◌, ◌-◌, ◌/◌, ◌%◌, ◌^◌, ◌<◌}
use native.Mathlib.Nat.{mod-lt}
use native.Mathlib.Omega.{arith}
use mathlib.Core.Path.{◌≡◌, refl}
use mathlib.Core.Bool.{Bool, true, false, beq, cond}
use lib.Dec.{eqb, lit<}
use borrow.Author.Tests.{eq-eqb, ne_eqb}
use Rattle.logic.specs.Bit.{bit}
use Rattle.logic.specs.Lasso.{letter_in}
use Rattle.sample_letters.specs.Constant.{constant_at}

-- kind 3: the letter itself
pub held : (v k n : ℕ) → k ≡ 3 → 1 + v / 2 ^ (n - 1) % 2 ≡ constant_at v k n
unfolding letter_in bit
held v k n e = rw (eq-eqb k 3 e) (go (v / 2 ^ (n - 1) % 2) (mod-lt (v / 2 ^ (n - 1)) (omega arith)))
  where
    go : (d : ℕ) → d < 2 → 1 + d ≡ cond (beq true (eqb d 1)) 2 1
    go zero h = refl
    go (suc zero) h = refl
    go (suc (suc d)) h = absurd (omega arith)

-- and its negation
pub denied : (v k n : ℕ) → (k ≡ 3 → ⊥) → 2 - v / 2 ^ (n - 1) % 2 ≡ constant_at v k n
unfolding letter_in bit
denied v k n e = rw (ne_eqb k 3 e) (go (v / 2 ^ (n - 1) % 2) (mod-lt (v / 2 ^ (n - 1)) (omega arith)))
  where
    go : (d : ℕ) → d < 2 → 2 - d ≡ cond (beq false (eqb d 1)) 2 1
    go zero h = refl
    go (suc zero) h = refl
    go (suc (suc d)) h = absurd (omega arith)

pub constant_lt : (v k n : ℕ) → constant_at v k n < 16
constant_lt v k n = go (beq (eqb k 3) (letter_in v n))
  where
    go : (b : Bool) → cond b 2 1 < 16
    go true = lit< tt
    go false = lit< tt
