-- What is said of the automaton of every formula in Δ₂ (`specs/Recognises`), and what a smallest class is.
use Prim.Native.Nat.{◌+◌, ◌≤◌}
use native.Mathlib.Omega.{arith}
use mathlib.Core.Path.{◌≡◌, refl}
use mathlib.Core.Logic.{◌↔◌, inl, inr, ⊎_elim}
use mathlib.Core.Bool.{Bool, true, false, not, cond, ◌||◌}
use mathlib.Core.List.Memᴰ
use mathlib.Core.List.{List, [], ◌∷◌, Memᴰ}
use lib.ListN.{length}
use lib.Dec.{T, not_T}
use Rattle.logic.specs.Formula.{Formula}
use Rattle.logic.specs.Hierarchy.{Class, Δ₂}
use Rattle.transforms.specs.NormalForm.{keep}
use Rattle.logic.specs.ClassByte.{in_Σ₁, in_Π₁}
use Rattle.logic.proofs.Tests.{T_and, T_or}
use Rattle.logic.proofs.Hierarchy.ClassBit.{Σ₁-decided, Π₁-decided, Σ₂-decided, Π₂-decided}
use Rattle.automata_laws.specs.StateClass.{StateClass, sigma₁, pi₁, sigma₂, pi₂, class_bit, in_class, below, every, in_some, is_smallest, smallest_in}
use Rattle.automata_laws.specs.Recognises.{Recognises}
use Rattle.automata_laws.proofs.Classes.{smallest_in_lem, smallest_none}
use Rattle.automata_laws.proofs.Sound.{accepts-holds}
use Rattle.automata_laws.proofs.Complete.{holds-accepts}
use Rattle.automata_laws.proofs.Once.{changes_once}

-- one more that is kept
keep-length : (p : StateClass → Bool) (Γ : StateClass) (Γs : List StateClass) → length (keep p (Γ ∷ Γs)) ≡ cond (p Γ) 1 0 + length (keep p Γs)
keep-length p Γ Γs = go (p Γ)
  where
    go : (b : Bool) → length (cond b (Γ ∷ keep p Γs) (keep p Γs)) ≡ cond b 1 0 + length (keep p Γs)
    go true = omega arith
    go false = omega arith

-- not both
apart : (x y : Bool) → (T x → T y → ⊥) → cond x 1 0 + cond y 1 0 ≤ 1
apart true true f = absurd (f tt tt)
apart true false f = omega arith
apart false true f = omega arith
apart false false f = omega arith

pub two_smallest : (ψ : Formula) → length (smallest_in every ψ) ≤ 2
unfolding smallest_in
two_smallest ψ =
    let p : StateClass → Bool = is_smallest ψ in
    let sigma : cond (p sigma₁) 1 0 + cond (p sigma₂) 1 0 ≤ 1 =
    apart (p sigma₁) (p sigma₂) (λ x y. smallest_none ψ sigma₂ y ((T_or (in_Σ₁ ψ) (in_Π₁ ψ || false)).1 (inl (smallest_in_lem ψ sigma₁ x)))) in
    let pi : cond (p pi₁) 1 0 + cond (p pi₂) 1 0 ≤ 1 =
    apart (p pi₁) (p pi₂) (λ x y. smallest_none ψ pi₂ y ((T_or (in_Σ₁ ψ) (in_Π₁ ψ || false)).1 (inr ((T_or (in_Π₁ ψ) false).1 (inl (smallest_in_lem ψ pi₁ x)))))) in
    omega (arith, keep-length p sigma₁ (pi₁ ∷ sigma₂ ∷ pi₂ ∷ []), keep-length p pi₁ (sigma₂ ∷ pi₂ ∷ []), keep-length p sigma₂ (pi₂ ∷ []), keep-length p pi₂ [])

pub recognises : (φ : Formula) → Δ₂ φ → Recognises φ
recognises φ d = record { accepts = λ r. (accepts-holds φ r, holds-accepts φ d r); once = changes_once φ; few = two_smallest }

-- a class of states is the class of its bit
pub class_of-bit : (Γ : StateClass) (φ : Formula) → T (in_class Γ φ) ↔ Class (class_bit Γ) φ
class_of-bit sigma₁ φ = Σ₁-decided φ
class_of-bit pi₁ φ = Π₁-decided φ
class_of-bit sigma₂ φ = Σ₂-decided φ
class_of-bit pi₂ φ = Π₂-decided φ

in_some_lem : (Γs : List StateClass) {Δ : StateClass} (φ : Formula) → Memᴰ Δ Γs → T (in_class Δ φ) → T (in_some Γs φ)
in_some_lem [] φ m t = absurd (Memᴰ.not-nil m)
in_some_lem (Γ ∷ Γs) φ (Memᴰ.head e) t = (T_or (in_class Γ φ) (in_some Γs φ)).1 (inl (rw (← e) t))
in_some_lem (Γ ∷ Γs) φ (Memᴰ.tail m) t = (T_or (in_class Γ φ) (in_some Γs φ)).1 (inr (in_some_lem Γs φ m t))

some_in : (Γs : List StateClass) (φ : Formula) → T (in_some Γs φ) → (Δ : StateClass) × Memᴰ Δ Γs × T (in_class Δ φ)
some_in [] φ t = absurd t
some_in (Γ ∷ Γs) φ t =
    ⊎_elim {C = (Δ : StateClass) × Memᴰ Δ (Γ ∷ Γs) × T (in_class Δ φ)}
    (λ x. (Γ, Memᴰ.head refl, x)) (λ x. let k = some_in Γs φ x in (k.0, Memᴰ.tail k.1, k.2)) ((T_or (in_class Γ φ) (in_some Γs φ)).0 t)

-- a smallest class of a formula is one that holds it, of which none that lies below holds it
pub smallest-class : (Γ : StateClass) (φ : Formula) → T (is_smallest φ Γ) ↔ (Class (class_bit Γ) φ × ((Δ : StateClass) → Memᴰ Δ (below Γ) → Class (class_bit Δ) φ → ⊥))
smallest-class Γ φ = (
  λ t. ((class_of-bit Γ φ).0 (smallest_in_lem φ Γ t), λ Δ m x. smallest_none φ Γ t (in_some_lem (below Γ) φ m ((class_of-bit Δ φ).1 x))),
  λ x. (T_and (in_class Γ φ) (not (in_some (below Γ) φ))).1 (
    (class_of-bit Γ φ).1 x.0,
    not_T (in_some (below Γ) φ) (λ t. let k = some_in (below Γ) φ t in x.1 k.0 k.1 ((class_of-bit k.0 φ).0 k.2)),
  ),
)
