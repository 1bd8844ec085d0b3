-- The class byte of a formula (document 01): bit b says whether the formula is in the class of bit b.
use Rattle.std.specs.Prelude.{ℕ, ◌+◌, ◌*◌, Bool, true, false, ◌||◌, ◌&&◌, cond, List, [], ◌∷◌}
use Rattle.logic.specs.Formula.{Formula, Unary, const, lit, un, bin, next, neg, finally, globally}
use Rattle.logic.specs.Hierarchy.{Closing, boolean, least, greatest, closes, closes_next}

abbrev pub is_next : Unary → Bool
is_next next = true
is_next neg = false
is_next finally = false
is_next globally = false

abbrev pub is_atomic : Formula → Bool
is_atomic (const b) = true
is_atomic (lit b n) = true
is_atomic (un o a) = false
is_atomic (bin o a b) = false

-- whether a formula is in the closure of a decided base
abbrev pub in_closure : (Formula → Bool) → Closing → Formula → Bool
in_closure β c (const b) = β (const b)
in_closure β c (lit b n) = β (lit b n)
in_closure β c (un o a) = β (un o a) || (is_next o && closes_next c && in_closure β c a)
in_closure β c (bin o a b) = β (bin o a b) || (closes c o && in_closure β c a && in_closure β c b)

abbrev pub in_Δ₀ : Formula → Bool
in_Δ₀ φ = in_closure is_atomic boolean φ

abbrev pub in_Σ₁ : Formula → Bool
in_Σ₁ φ = in_closure in_Δ₀ least φ

abbrev pub in_Π₁ : Formula → Bool
in_Π₁ φ = in_closure in_Δ₀ greatest φ

abbrev pub in_Δ₁ : Formula → Bool
in_Δ₁ φ = in_closure (λ ψ. in_Σ₁ ψ || in_Π₁ ψ) boolean φ

abbrev pub in_Σ₂ : Formula → Bool
in_Σ₂ φ = in_closure in_Π₁ least φ

abbrev pub in_Π₂ : Formula → Bool
in_Π₂ φ = in_closure in_Σ₁ greatest φ

abbrev pub in_Δ₂ : Formula → Bool
in_Δ₂ φ = in_closure (λ ψ. in_Σ₂ ψ || in_Π₂ ψ) boolean φ

-- the tests by their bits, bit 0 first
abbrev pub tests : List (Formula → Bool)
tests = in_Δ₀ ∷ in_Σ₁ ∷ in_Π₁ ∷ in_Δ₁ ∷ in_Σ₂ ∷ in_Π₂ ∷ in_Δ₂ ∷ []

-- a number by its bits, lowest first
abbrev pub of_bits : List Bool → ℕ
of_bits [] = 0
of_bits (b ∷ bs) = cond b 1 0 + 2 * of_bits bs

abbrev pub test_all : List (Formula → Bool) → Formula → List Bool
test_all [] φ = []
test_all (t ∷ ts) φ = t φ ∷ test_all ts φ

unfoldable pub class_byte : Formula → ℕ
class_byte φ = of_bits (test_all tests φ)
