-- The classes of states: operands are in the classes of their formula, every formula of a class has a smallest one within it, U and M words have Sigma
-- classes alone and W and R words Pi classes alone.
use mathlib.Core.Path.{refl}
use mathlib.Core.Logic.{◌⊎◌, inl, inr, ◌↔◌, ⊎_map}
use mathlib.Core.Bool.{Bool, true, false, not, ◌||◌}
use mathlib.Core.List.{List, [], ◌∷◌, Memᴰ}
use lib.Dec.{T, T_not}
use Rattle.logic.specs.Formula.{Formula, Unary, Binary, un, bin, neg, finally, globally, conj, disj, until, weak, release, strong, implies, is_least_op, is_greatest_op, is_junction}
use Rattle.logic.specs.Hierarchy.{Closing, closes, Closure, base, step, join, Atomic, Δ₀, Σ₁, Π₁, Σ₂, Π₂, Δ₂, boolean}
use Rattle.logic.specs.ClassByte.{in_Σ₁, in_Π₁, in_Σ₂, in_Π₂}
use Rattle.transforms.specs.NormalForm.{keep}
use Rattle.transforms.specs.Subformula.{Sub, self, under, left, right}
use Rattle.logic.proofs.Tests.{T_and, T-decided}
use Rattle.logic.proofs.Hierarchy.Closure.{atomic_decided}
use Rattle.logic.proofs.Hierarchy.ClassBit.{Σ₁-decided, Π₁-decided, Σ₂-decided, Π₂-decided}
use Rattle.transforms.proofs.Normal.Membership.{keep_mem}
use Rattle.automata_laws.specs.StateClass.{StateClass, sigma₁, pi₁, sigma₂, pi₂, is_pi, in_class, below, within, every, in_some, is_smallest, smallest_in}
use Rattle.automata_laws.specs.FormulaAutomaton.{is_proper}

-- what goes over to operands
pub record Hereditary (P : Formula → Type 0) : Type 0 where
  pub operand : {o : Unary} {a : Formula} → P (un o a) → P a
  pub first : {o : Binary} {a b : Formula} → P (bin o a b) → P a
  pub second : {o : Binary} {a b : Formula} → P (bin o a b) → P b

pub hereditary_sub : {P : Formula → Type 0} → Hereditary P → {ψ φ : Formula} → Sub ψ φ → P φ → P ψ
hereditary_sub h self p = p
hereditary_sub h (under s) p = hereditary_sub h s (h.operand p)
hereditary_sub h (left s) p = hereditary_sub h s (h.first p)
hereditary_sub h (right s) p = hereditary_sub h s (h.second p)

module _ {Base : Formula → Type 0} {c : Closing} (h : Hereditary Base) where
  closure_operand : {o : Unary} {a : Formula} → Closure Base c (un o a) → Closure Base c a
  closure_operand (base x) = base (h.operand x)
  closure_operand (step t p) = p

  closure_first : {o : Binary} {a b : Formula} → Closure Base c (bin o a b) → Closure Base c a
  closure_first (base x) = base (h.first x)
  closure_first (join t p q) = p

  closure_second : {o : Binary} {a b : Formula} → Closure Base c (bin o a b) → Closure Base c b
  closure_second (base x) = base (h.second x)
  closure_second (join t p q) = q

  closure_hereditary : Hereditary (Closure Base c)
  closure_hereditary = record { operand = closure_operand; first = closure_first; second = closure_second }

atomic_hereditary : Hereditary Atomic
atomic_hereditary = record {
  operand = λ {o} {a} x. absurd ((atomic_decided (un o a)).1 x);
  first = λ {o} {a} {b} x. absurd ((atomic_decided (bin o a b)).1 x);
  second = λ {o} {a} {b} x. absurd ((atomic_decided (bin o a b)).1 x);
}

union_hereditary : {P Q : Formula → Type 0} → Hereditary P → Hereditary Q → Hereditary (λ φ. P φ ⊎ Q φ)
union_hereditary h k = record {
  operand = λ x. ⊎_map h.operand k.operand x;
  first = λ x. ⊎_map h.first k.first x;
  second = λ x. ⊎_map h.second k.second x;
}

-- the classes
abbrev Class : StateClass → Formula → Type 0
Class sigma₁ φ = Σ₁ φ
Class pi₁ φ = Π₁ φ
Class sigma₂ φ = Σ₂ φ
Class pi₂ φ = Π₂ φ

class-decided : (Γ : StateClass) (φ : Formula) → T (in_class Γ φ) ↔ Class Γ φ
class-decided sigma₁ φ = Σ₁-decided φ
class-decided pi₁ φ = Π₁-decided φ
class-decided sigma₂ φ = Σ₂-decided φ
class-decided pi₂ φ = Π₂-decided φ

Δ₀_hereditary : Hereditary Δ₀
Δ₀_hereditary = closure_hereditary atomic_hereditary

class_hereditary : (Γ : StateClass) → Hereditary (Class Γ)
class_hereditary sigma₁ = closure_hereditary Δ₀_hereditary
class_hereditary pi₁ = closure_hereditary Δ₀_hereditary
class_hereditary sigma₂ = closure_hereditary (closure_hereditary Δ₀_hereditary)
class_hereditary pi₂ = closure_hereditary (closure_hereditary Δ₀_hereditary)

-- operands are in the classes of their formula
pub in_hereditary : (Γ : StateClass) → Hereditary (λ φ. T (in_class Γ φ))
in_hereditary Γ = record {
  operand = λ {o} {a} t. (class-decided Γ a).1 ((class_hereditary Γ).operand ((class-decided Γ (un o a)).0 t));
  first = λ {o} {a} {b} t. (class-decided Γ a).1 ((class_hereditary Γ).first ((class-decided Γ (bin o a b)).0 t));
  second = λ {o} {a} {b} t. (class-decided Γ b).1 ((class_hereditary Γ).second ((class-decided Γ (bin o a b)).0 t));
}

Δ₂_hereditary : Hereditary Δ₂
Δ₂_hereditary = closure_hereditary (union_hereditary (class_hereditary sigma₂) (class_hereditary pi₂))

-- no class holds a formula with not, F, G or implies
pub no_neg : (Γ : StateClass) (a : Formula) → T (in_class Γ (un neg a)) → ⊥
no_neg sigma₁ a t = t
no_neg pi₁ a t = t
no_neg sigma₂ a t = t
no_neg pi₂ a t = t

pub no_finally : (Γ : StateClass) (a : Formula) → T (in_class Γ (un finally a)) → ⊥
no_finally sigma₁ a t = t
no_finally pi₁ a t = t
no_finally sigma₂ a t = t
no_finally pi₂ a t = t

pub no_globally : (Γ : StateClass) (a : Formula) → T (in_class Γ (un globally a)) → ⊥
no_globally sigma₁ a t = t
no_globally pi₁ a t = t
no_globally sigma₂ a t = t
no_globally pi₂ a t = t

pub no_implies : (Γ : StateClass) (a b : Formula) → T (in_class Γ (bin implies a b)) → ⊥
no_implies sigma₁ a b t = t
no_implies pi₁ a b t = t
no_implies sigma₂ a b t = t
no_implies pi₂ a b t = t

-- a smallest class holds its formula, and none that lies below does
module _ (φ : Formula) (Γ : StateClass) (t : T (is_smallest φ Γ)) where
  parts : T (in_class Γ φ) × T (not (in_some (below Γ) φ))
  parts = (T_and (in_class Γ φ) (not (in_some (below Γ) φ))).0 t

  pub smallest_in_lem : T (in_class Γ φ)
  smallest_in_lem = parts.0

  pub smallest_none : T (in_some (below Γ) φ) → ⊥
  smallest_none x = T_not (in_some (below Γ) φ) parts.1 x

-- U and M words have Sigma classes
pub least-sigma : (o : Binary) (a b : Formula) (Γ : StateClass) → T (is_least_op o) → T (is_smallest (bin o a b) Γ) → T (is_pi Γ) → ⊥
least-sigma conj a b Γ l t p = l
least-sigma disj a b Γ l t p = l
least-sigma until a b sigma₁ l t p = p
least-sigma until a b pi₁ l t p = smallest_in_lem (bin until a b) pi₁ t
least-sigma until a b sigma₂ l t p = p
least-sigma until a b pi₂ l t p = smallest_none (bin until a b) pi₂ t (smallest_in_lem (bin until a b) pi₂ t)
least-sigma weak a b Γ l t p = l
least-sigma release a b Γ l t p = l
least-sigma strong a b sigma₁ l t p = p
least-sigma strong a b pi₁ l t p = smallest_in_lem (bin strong a b) pi₁ t
least-sigma strong a b sigma₂ l t p = p
least-sigma strong a b pi₂ l t p = smallest_none (bin strong a b) pi₂ t (smallest_in_lem (bin strong a b) pi₂ t)
least-sigma implies a b Γ l t p = l

-- W and R words have Pi classes
pub greatest-pi : (o : Binary) (a b : Formula) (Γ : StateClass) → T (is_greatest_op o) → T (is_smallest (bin o a b) Γ) → T (is_pi Γ)
greatest-pi conj a b Γ g t = absurd g
greatest-pi disj a b Γ g t = absurd g
greatest-pi until a b Γ g t = absurd g
greatest-pi weak a b sigma₁ g t = absurd (smallest_in_lem (bin weak a b) sigma₁ t)
greatest-pi weak a b pi₁ g t = tt
greatest-pi weak a b sigma₂ g t = absurd (smallest_none (bin weak a b) sigma₂ t (smallest_in_lem (bin weak a b) sigma₂ t))
greatest-pi weak a b pi₂ g t = tt
greatest-pi release a b sigma₁ g t = absurd (smallest_in_lem (bin release a b) sigma₁ t)
greatest-pi release a b pi₁ g t = tt
greatest-pi release a b sigma₂ g t = absurd (smallest_none (bin release a b) sigma₂ t (smallest_in_lem (bin release a b) sigma₂ t))
greatest-pi release a b pi₂ g t = tt
greatest-pi strong a b Γ g t = absurd g
greatest-pi implies a b Γ g t = absurd g

-- each proper subformula has a smallest class among some
abbrev pub Covers : List StateClass → Formula → Type 0
Covers Γs φ = (ψ : Formula) → Sub ψ φ → T (is_proper ψ) → (Δ : StateClass) × Memᴰ Δ (smallest_in Γs ψ)

neither : (a b : Bool) → (T a → ⊥) → (T b → ⊥) → T (not (a || (b || false)))
neither true b f g = absurd (f tt)
neither false true f g = absurd (g tt)
neither false false f g = tt

-- a class of the second level, or one of the two that lie below
second-level : (Γ : StateClass) (ψ : Formula) → ((T (in_Σ₁ ψ) → ⊥) → (T (in_Π₁ ψ) → ⊥) → T (is_smallest ψ Γ))
    → T (in_Σ₁ ψ) ⊎ (T (in_Σ₁ ψ) → ⊥) → T (in_Π₁ ψ) ⊎ (T (in_Π₁ ψ) → ⊥) → (Δ : StateClass) × Memᴰ Δ (sigma₁ ∷ pi₁ ∷ Γ ∷ []) × T (is_smallest ψ Δ)
second-level Γ ψ f (inl x) q = (sigma₁, Memᴰ.head refl, (T_and (in_Σ₁ ψ) true).1 (x, tt))
second-level Γ ψ f (inr x) (inl y) = (pi₁, Memᴰ.tail (Memᴰ.head refl), (T_and (in_Π₁ ψ) true).1 (y, tt))
second-level Γ ψ f (inr x) (inr y) = (Γ, Memᴰ.tail (Memᴰ.tail (Memᴰ.head refl)), f x y)

pub smallest_within_lem : (Γ : StateClass) (ψ : Formula) → T (in_class Γ ψ) → (Δ : StateClass) × Memᴰ Δ (within Γ) × T (is_smallest ψ Δ)
smallest_within_lem sigma₁ ψ t = (sigma₁, Memᴰ.head refl, (T_and (in_Σ₁ ψ) true).1 (t, tt))
smallest_within_lem pi₁ ψ t = (pi₁, Memᴰ.head refl, (T_and (in_Π₁ ψ) true).1 (t, tt))
smallest_within_lem sigma₂ ψ t = second-level sigma₂ ψ (λ f g. (T_and (in_Σ₂ ψ) (not (in_some (below sigma₂) ψ))).1 (t, neither (in_Σ₁ ψ) (in_Π₁ ψ) f g)) (T-decided (in_Σ₁ ψ)) (T-decided (in_Π₁ ψ))
smallest_within_lem pi₂ ψ t = second-level pi₂ ψ (λ f g. (T_and (in_Π₂ ψ) (not (in_some (below pi₂) ψ))).1 (t, neither (in_Σ₁ ψ) (in_Π₁ ψ) f g)) (T-decided (in_Σ₁ ψ)) (T-decided (in_Π₁ ψ))

-- every subformula of a formula of a class
pub covers_class : (Γ : StateClass) (φ : Formula) → T (in_class Γ φ) → Covers (within Γ) φ
unfolding smallest_in
covers_class Γ φ t ψ s p =
    let k = smallest_within_lem Γ ψ (hereditary_sub (in_hereditary Γ) s t) in
    (k.0, keep_mem (is_smallest ψ) k.2 k.1)

-- and of a formula in Δ₂
pub mem_every : (Δ : StateClass) → Memᴰ Δ every
mem_every sigma₁ = Memᴰ.head refl
mem_every pi₁ = Memᴰ.tail (Memᴰ.head refl)
mem_every sigma₂ = Memᴰ.tail (Memᴰ.tail (Memᴰ.head refl))
mem_every pi₂ = Memᴰ.tail (Memᴰ.tail (Memᴰ.tail (Memᴰ.head refl)))

-- a proper formula in Δ₂ is in Σ₂ or in Π₂
proper-second : {ψ : Formula} → Δ₂ ψ → T (is_proper ψ) → Σ₂ ψ ⊎ Π₂ ψ
proper-second (base x) p = x
proper-second (step t q) p = absurd t
proper-second (join {o} t q r) p = absurd (junction o t p)
  where
    junction : (o : Binary) → T (closes boolean o) → T (not (is_junction o)) → ⊥
    junction conj t p = p
    junction disj t p = p
    junction until t p = t
    junction weak t p = t
    junction release t p = t
    junction strong t p = t
    junction implies t p = t

pub covers_every : (φ : Formula) → Δ₂ φ → Covers every φ
unfolding smallest_in
covers_every φ d ψ s p = go (proper-second (hereditary_sub Δ₂_hereditary s d) p)
  where
    found : (Γ : StateClass) → T (in_class Γ ψ) → (Δ : StateClass) × Memᴰ Δ (keep (is_smallest ψ) every)
    found Γ t = let k = smallest_within_lem Γ ψ t in (k.0, keep_mem (is_smallest ψ) k.2 (mem_every k.0))

    go : Σ₂ ψ ⊎ Π₂ ψ → (Δ : StateClass) × Memᴰ Δ (keep (is_smallest ψ) every)
    go (inl x) = found sigma₂ ((Σ₂-decided ψ).1 x)
    go (inr x) = found pi₂ ((Π₂-decided ψ).1 x)
