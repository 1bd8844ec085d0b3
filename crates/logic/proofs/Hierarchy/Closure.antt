-- Membership in a class is decided: the test of a closure of a decided base says whether a formula is in the closure.
use mathlib.Core.Bool.{Bool, ◌&&◌, ◌||◌}
use mathlib.Core.Logic.{◌↔◌, ◌⊎◌, inl, inr}
use lib.Dec.{T}
use Rattle.logic.specs.Formula.{Formula, Unary, const, lit, un, bin, next, neg, finally, globally}
use Rattle.logic.specs.Hierarchy.{Closing, closes, closes_next, Closure, base, step, join, Atomic, constant, literal}
use Rattle.logic.specs.ClassByte.{is_next, is_atomic, in_closure}
use Rattle.logic.proofs.Tests.{T_and, T_or}

-- a test that says whether a formula is in a set
abbrev pub Decides : (Formula → Bool) → (Formula → Type 0) → Type 0
Decides β P = (φ : Formula) → T (β φ) ↔ P φ

-- what is in the base is in the closure
pub base_in : (β : Formula → Bool) (c : Closing) (φ : Formula) → T (β φ) → T (in_closure β c φ)
base_in β c (const b) t = t
base_in β c (lit b n) t = t
base_in β c (un o a) t = (T_or (β (un o a)) (is_next o && closes_next c && in_closure β c a)).1 (inl t)
base_in β c (bin o a b) t = (T_or (β (bin o a b)) (closes c o && in_closure β c a && in_closure β c b)).1 (inl t)

module _ (β : Formula → Bool) (Base : Formula → Type 0) (decided : Decides β Base) (c : Closing) where
  sound_next : (o : Unary) (a : Formula) → (T (in_closure β c a) → Closure Base c a) → T (is_next o && closes_next c && in_closure β c a) → Closure Base c (un o a)
  sound_next next a ih t = let s = (T_and (closes_next c) (in_closure β c a)).0 t in step s.0 (ih s.1)
  sound_next neg a ih t = absurd t
  sound_next finally a ih t = absurd t
  sound_next globally a ih t = absurd t

  sound : (φ : Formula) → T (in_closure β c φ) → Closure Base c φ
  sound (const b) t = base ((decided (const b)).0 t)
  sound (lit b n) t = base ((decided (lit b n)).0 t)
  sound (un o a) t = go ((T_or (β (un o a)) (is_next o && closes_next c && in_closure β c a)).0 t) (sound a)
    where
      go : T (β (un o a)) ⊎ T (is_next o && closes_next c && in_closure β c a) → (T (in_closure β c a) → Closure Base c a) → Closure Base c (un o a)
      go (inl s) ih = base ((decided (un o a)).0 s)
      go (inr s) ih = sound_next o a ih s
  sound (bin o a b) t = go ((T_or (β (bin o a b)) (closes c o && in_closure β c a && in_closure β c b)).0 t) (sound a) (sound b)
    where
      go : T (β (bin o a b)) ⊎ T (closes c o && in_closure β c a && in_closure β c b)
          → (T (in_closure β c a) → Closure Base c a) → (T (in_closure β c b) → Closure Base c b) → Closure Base c (bin o a b)
      go (inl s) f g = base ((decided (bin o a b)).0 s)
      go (inr s) f g =
          let p = (T_and (closes c o && in_closure β c a) (in_closure β c b)).0 s in
          let q = (T_and (closes c o) (in_closure β c a)).0 p.0 in
          join q.0 (f q.1) (g p.1)

  complete : {φ : Formula} → Closure Base c φ → T (in_closure β c φ)
  complete {φ} (base p) = base_in β c φ ((decided φ).1 p)
  complete (step {φ} t p) =
      (T_or (β (un next φ)) (closes_next c && in_closure β c φ)).1 (inr ((T_and (closes_next c) (in_closure β c φ)).1 (t, complete p)))
  complete (join {o} {φ} {ψ} t p q) =
      (T_or (β (bin o φ ψ)) (closes c o && in_closure β c φ && in_closure β c ψ)).1 (inr ((T_and (closes c o && in_closure β c φ) (in_closure β c ψ)).1 ((T_and (closes c o) (in_closure β c φ)).1 (t, complete p), complete q)))

  pub closure_decided : Decides (in_closure β c) (Closure Base c)
  closure_decided φ = (sound φ, complete)

-- constants and literals
pub atomic_decided : Decides is_atomic Atomic
atomic_decided φ = (to φ, from)
  where
    to : (ψ : Formula) → T (is_atomic ψ) → Atomic ψ
    to (const b) t = constant
    to (lit b n) t = literal
    to (un o a) t = absurd t
    to (bin o a b) t = absurd t

    from : {ψ : Formula} → Atomic ψ → T (is_atomic ψ)
    from constant = tt
    from literal = tt

-- a union of two decided sets
pub union_decided : (α β : Formula → Bool) (A B : Formula → Type 0) → Decides α A → Decides β B → Decides (λ φ. α φ || β φ) (λ φ. A φ ⊎ B φ)
union_decided α β A B f g φ = (λ t. to ((T_or (α φ) (β φ)).0 t), from)
  where
    to : T (α φ) ⊎ T (β φ) → A φ ⊎ B φ
    to (inl t) = inl ((f φ).0 t)
    to (inr t) = inr ((g φ).0 t)

    from : A φ ⊎ B φ → T (α φ || β φ)
    from (inl a) = (T_or (α φ) (β φ)).1 (inl ((f φ).1 a))
    from (inr b) = (T_or (α φ) (β φ)).1 (inr ((g φ).1 b))
