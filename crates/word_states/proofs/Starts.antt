-- The states of a formula at the start: both classes of the level at which it has them.
use Prim.Native.Nat.{◌+◌}
use mathlib.Core.Path.{◌≡◌, refl}
use mathlib.Core.Bool.{Bool, true, false, ◌||◌, cond}
use lib.Dec.{T}
use Rattle.logic.specs.Bit.{bit}
use Rattle.logic.specs.Formula.{Formula}
use Rattle.logic.specs.ClassByte.{class_byte, in_Σ₁, in_Π₁, in_Σ₂, in_Π₂}
use Rattle.automata_laws.specs.StateClass.{sigma₁, pi₁, sigma₂, pi₂, is_smallest}
use Rattle.state_classes.specs.Kept.{offset}
use Rattle.class_bits.specs.Levels.{level}
use Rattle.word_states.proofs.Smallest.{bit-class, low, sigma_class, pi_class, has_sigma, has_pi}

module _ (φ : Formula) where
  level_is : level (class_byte φ) ≡ cond (low φ) 1 4
  level_is = rw (bit-class φ 1, bit-class φ 2)

  pub sigma-bit : bit (class_byte φ) (level (class_byte φ)) ≡ has_sigma φ
  sigma-bit = rw level_is (go (low φ))
    where
      go : (b : Bool) → bit (class_byte φ) (cond b 1 4) ≡ cond b (in_Σ₁ φ) (in_Σ₂ φ)
      go true = bit-class φ 1
      go false = bit-class φ 4

  pub pi-bit : bit (class_byte φ) (level (class_byte φ) + 1) ≡ has_pi φ
  pi-bit = rw level_is (go (low φ))
    where
      go : (b : Bool) → bit (class_byte φ) (cond b 1 4 + 1) ≡ cond b (in_Π₁ φ) (in_Π₂ φ)
      go true = bit-class φ 2
      go false = bit-class φ 5

  -- the numbers
  pub sigma-offset : offset (sigma_class φ) (class_byte φ) ≡ 1
  sigma-offset = go (low φ)
    where
      go : (b : Bool) → offset (cond b sigma₁ sigma₂) (class_byte φ) ≡ 1
      go true = refl
      go false = refl

  pub pi-offset : offset (pi_class φ) (class_byte φ) ≡ cond (bit (class_byte φ) (level (class_byte φ))) 2 1
  pi-offset = rw level_is (go (low φ))
    where
      go : (b : Bool) → offset (cond b pi₁ pi₂) (class_byte φ) ≡ cond (bit (class_byte φ) (cond b 1 4)) 2 1
      go true = refl
      go false = refl

  -- each is smallest
  pub sigma-least : has_sigma φ ≡ true → T (is_smallest φ (sigma_class φ))
  sigma-least = go (in_Σ₁ φ) (in_Π₁ φ) refl refl
    where
      go : (a b : Bool) → in_Σ₁ φ ≡ a → in_Π₁ φ ≡ b → cond (a || b) (in_Σ₁ φ) (in_Σ₂ φ) ≡ true → T (is_smallest φ (cond (a || b) sigma₁ sigma₂))
      go true b p q e = rw e tt
      go false true p q e = rw e tt
      go false false p q e = rw (e, p, q) tt

  pub pi-least : has_pi φ ≡ true → T (is_smallest φ (pi_class φ))
  pi-least = go (in_Σ₁ φ) (in_Π₁ φ) refl refl
    where
      go : (a b : Bool) → in_Σ₁ φ ≡ a → in_Π₁ φ ≡ b → cond (a || b) (in_Π₁ φ) (in_Π₂ φ) ≡ true → T (is_smallest φ (cond (a || b) pi₁ pi₂))
      go true b p q e = rw e tt
      go false true p q e = rw e tt
      go false false p q e = rw (e, p, q) tt
