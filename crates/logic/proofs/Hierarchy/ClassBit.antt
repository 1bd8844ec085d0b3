-- The class byte says the classes: bit b is 1 just where the formula is in the class of bit b.
use Prim.Native.Nat.{ℕ, zero, suc, ◌/◌, ◌%◌, ◌^◌, ◌<◌}
use mathlib.Core.Path.{◌≡◌, refl}
use mathlib.Core.Logic.{◌↔◌}
use mathlib.Core.Bool.{Bool, true, false, cond}
use mathlib.Core.List.{List, [], ◌∷◌}
use native.Mathlib.Omega.{arith}
use lib.ListN.{get_or}
use lib.Dec.{T}
use Rattle.logic.specs.Formula.{Formula}
use Rattle.logic.specs.Hierarchy.{boolean, least, greatest, Atomic, Δ₀, Σ₁, Π₁, Δ₁, Σ₂, Π₂, Δ₂, classes, Class}
use Rattle.logic.specs.ClassByte.{is_atomic, in_Δ₀, in_Σ₁, in_Π₁, in_Δ₁, in_Σ₂, in_Π₂, in_Δ₂, tests, test_all, of_bits, class_byte}
use Rattle.logic.proofs.Hierarchy.Closure.{Decides, closure_decided, atomic_decided, union_decided}
use Rattle.logic.proofs.Hierarchy.Bits.{of_bits_lt, of_bits-bit}

pub Δ₀-decided : Decides in_Δ₀ Δ₀
Δ₀-decided = closure_decided is_atomic Atomic atomic_decided boolean

pub Σ₁-decided : Decides in_Σ₁ Σ₁
Σ₁-decided = closure_decided in_Δ₀ Δ₀ Δ₀-decided least

pub Π₁-decided : Decides in_Π₁ Π₁
Π₁-decided = closure_decided in_Δ₀ Δ₀ Δ₀-decided greatest

pub Δ₁-decided : Decides in_Δ₁ Δ₁
Δ₁-decided = closure_decided _ _ (union_decided in_Σ₁ in_Π₁ Σ₁ Π₁ Σ₁-decided Π₁-decided) boolean

pub Σ₂-decided : Decides in_Σ₂ Σ₂
Σ₂-decided = closure_decided in_Π₁ Π₁ Π₁-decided least

pub Π₂-decided : Decides in_Π₂ Π₂
Π₂-decided = closure_decided in_Σ₁ Σ₁ Σ₁-decided greatest

pub Δ₂-decided : Decides in_Δ₂ Δ₂
Δ₂-decided = closure_decided _ _ (union_decided in_Σ₂ in_Π₂ Σ₂ Π₂ Σ₂-decided Π₂-decided) boolean

-- tests and classes, one for one
data Decided : List (Formula → Bool) → List (Formula → Type 0) → Type 1 where
  none : Decided [] []
  more : {β : Formula → Bool} {P : Formula → Type 0} {βs : List (Formula → Bool)} {Ps : List (Formula → Type 0)}
      → Decides β P → Decided βs Ps → Decided (β ∷ βs) (P ∷ Ps)

all_decided : Decided tests classes
all_decided =
    more Δ₀-decided (more Σ₁-decided (more Π₁-decided (more Δ₁-decided (more Σ₂-decided (more Π₂-decided (more Δ₂-decided none))))))

-- the test of a bit, false past the last one
test-decided : {βs : List (Formula → Bool)} {Ps : List (Formula → Type 0)} → Decided βs Ps
    → (b : ℕ) (φ : Formula) → T (get_or (test_all βs φ) b false) ↔ get_or Ps b (λ ψ. ⊥) φ
test-decided none b φ = (λ t. t, λ t. t)
test-decided (more d ds) zero φ = d φ
test-decided (more d ds) (suc b) φ = test-decided ds b φ

digit_one : (t : Bool) → (cond {A = ℕ} t 1 0 ≡ 1) ↔ T t
digit_one true = (λ e. tt, λ t. refl)
digit_one false = (λ e. omega arith, λ t. absurd t)

pub class_bit : (b : ℕ) (φ : Formula) → (class_byte φ / 2 ^ b % 2 ≡ 1) ↔ Class b φ
unfolding class_byte
class_bit b φ =
    let bits : List Bool = test_all tests φ in
    let bit : of_bits bits / 2 ^ b % 2 ≡ cond (get_or bits b false) 1 0 = of_bits-bit bits b in
    let says = digit_one (get_or bits b false) in
    let decided = test-decided all_decided b φ in
    (λ e. decided.0 (says.0 (rw bit at e)), λ p. rw bit (says.1 (decided.1 p)))

-- bit 7 is always 0
pub class_byte_lt : (φ : Formula) → class_byte φ < 128
unfolding class_byte
class_byte_lt φ = of_bits_lt (test_all tests φ)
