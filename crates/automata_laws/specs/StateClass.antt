-- The classes of states, and the smallest of them that hold a formula: source 002, section 7.2.
use Rattle.std.specs.Prelude.{ℕ, Bool, true, false, not, ◌&&◌, ◌||◌, List, [], ◌∷◌, ◌++◌}
use Rattle.logic.specs.Formula.{Formula}
use Rattle.logic.specs.ClassByte.{in_Σ₁, in_Π₁, in_Σ₂, in_Π₂}
use Rattle.transforms.specs.NormalForm.{keep}

-- the classes above class zero, up to the second level
pub data StateClass : Type 0 where
  sigma₁ pi₁ sigma₂ pi₂ : StateClass
  deriving Discrete as StateClass-discrete

-- the bit of each in the class byte
abbrev pub class_bit : StateClass → ℕ
class_bit sigma₁ = 1
class_bit pi₁ = 2
class_bit sigma₂ = 4
class_bit pi₂ = 5

abbrev pub is_pi : StateClass → Bool
is_pi sigma₁ = false
is_pi pi₁ = true
is_pi sigma₂ = false
is_pi pi₂ = true

-- whether a formula is in the class
abbrev pub in_class : StateClass → Formula → Bool
in_class sigma₁ φ = in_Σ₁ φ
in_class pi₁ φ = in_Π₁ φ
in_class sigma₂ φ = in_Σ₂ φ
in_class pi₂ φ = in_Π₂ φ

-- the classes that lie below one (Figure 1b), and those that are it or lie within it; Sigma stands left of Pi
abbrev pub below : StateClass → List StateClass
below sigma₁ = []
below pi₁ = []
below sigma₂ = sigma₁ ∷ pi₁ ∷ []
below pi₂ = sigma₁ ∷ pi₁ ∷ []

abbrev pub within : StateClass → List StateClass
within Γ = below Γ ++ (Γ ∷ [])

abbrev pub every : List StateClass
every = sigma₁ ∷ pi₁ ∷ sigma₂ ∷ pi₂ ∷ []

-- whether a formula is in one of them
abbrev pub in_some : List StateClass → Formula → Bool
in_some [] φ = false
in_some (Γ ∷ Γs) φ = in_class Γ φ || in_some Γs φ

-- it is in the class, and in none that lies below
abbrev pub is_smallest : Formula → StateClass → Bool
is_smallest φ Γ = in_class Γ φ && not (in_some (below Γ) φ)

-- the smallest classes of a formula among some
unfoldable pub smallest_in : List StateClass → Formula → List StateClass
smallest_in Γs φ = keep (is_smallest φ) Γs

-- those that are a class or lie within it
abbrev pub smallest_within : StateClass → Formula → List StateClass
smallest_within Γ φ = smallest_in (within Γ) φ
