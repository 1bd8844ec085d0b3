-- The syntactic-future hierarchy: source 002, Definition 5. Document 01 puts the constants into class zero.
use Rattle.std.specs.Prelude.{ℕ, Bool, true, false, ◌||◌, List, [], ◌∷◌, get_or, ◌⊎◌, T}
use Rattle.logic.specs.Formula.{Formula, Binary, const, lit, un, bin, next, is_least_op, is_greatest_op, is_junction}

-- the temporal operators under which a class is closed, X apart: none, U and M, or W and R
pub data Closing : Type 0 where
  boolean least greatest : Closing

-- none, U and M, or W and R
abbrev pub closes_fixpoint : Closing → Binary → Bool
closes_fixpoint boolean o = false
closes_fixpoint least o = is_least_op o
closes_fixpoint greatest o = is_greatest_op o

abbrev pub closes : Closing → Binary → Bool
closes c o = is_junction o || closes_fixpoint c o

abbrev pub closes_next : Closing → Bool
closes_next boolean = false
closes_next least = true
closes_next greatest = true

-- the least set that contains the base and is closed under conjunction, disjunction and the closing operators
pub data Closure (Base : Formula → Type 0) (c : Closing) : Formula → Type 0 where
  base : {φ : Formula} → Base φ → Closure Base c φ
  step : {φ : Formula} → T (closes_next c) → Closure Base c φ → Closure Base c (un next φ)
  join : {o : Binary} {φ ψ : Formula} → T (closes c o) → Closure Base c φ → Closure Base c ψ → Closure Base c (bin o φ ψ)

-- constants, letters and negated letters
pub data Atomic : Formula → Type 0 where
  constant : {b : Bool} → Atomic (const b)
  literal : {b : Bool} {n : ℕ} → Atomic (lit b n)

abbrev pub Δ₀ : Formula → Type 0
Δ₀ = Closure Atomic boolean

abbrev pub Σ₁ : Formula → Type 0
Σ₁ = Closure Δ₀ least

abbrev pub Π₁ : Formula → Type 0
Π₁ = Closure Δ₀ greatest

abbrev pub Δ₁ : Formula → Type 0
Δ₁ = Closure (λ φ. Σ₁ φ ⊎ Π₁ φ) boolean

abbrev pub Σ₂ : Formula → Type 0
Σ₂ = Closure Π₁ least

abbrev pub Π₂ : Formula → Type 0
Π₂ = Closure Σ₁ greatest

abbrev pub Δ₂ : Formula → Type 0
Δ₂ = Closure (λ φ. Σ₂ φ ⊎ Π₂ φ) boolean

-- the classes by their bits in the class byte, bit 0 first
abbrev pub classes : List (Formula → Type 0)
classes = Δ₀ ∷ Σ₁ ∷ Π₁ ∷ Δ₁ ∷ Σ₂ ∷ Π₂ ∷ Δ₂ ∷ []

-- the class of bit b; bit 7 and above stand for none
abbrev pub Class : ℕ → Formula → Type 0
Class b = get_or classes b (λ φ. ⊥)
