-- Which states occur in the move of a state: itself, if its formula is a fixpoint, and states of subformulas of its operands, with classes within its own.
use Prim.Native.Nat.{ℕ, suc, ◌+◌, ◌≤◌, ◌<◌}
use native.Mathlib.Omega.{arith}
use mathlib.Core.Path.{◌≡◌, refl, sym, subst}
use mathlib.Core.Logic.{◌⊎◌, inl, inr}
use mathlib.Core.Bool.{Bool, true, false, cond}
use mathlib.Core.List.Memᴰ
use mathlib.Core.List.{List, [], ◌∷◌, ◌++◌, map, Memᴰ}
use lib.Dec.{T}
use Rattle.logic.specs.Formula.{Formula, Binary, const, lit, un, bin, next, neg, finally, globally, conj, disj, until, weak, release, strong, implies}
use Rattle.transforms.specs.NormalForm.{is_fixpoint}
use Rattle.transforms.specs.Subformula.{Sub, self, under, left, right}
use Rattle.transforms.proofs.Normal.Membership.{mem_keep}
use Rattle.automata.specs.Positive.{Positive, atom, any_of}
use Rattle.automata.proofs.Models.{atoms, any-atoms}
use Rattle.automata_laws.specs.StateClass.{StateClass, sigma₁, pi₁, sigma₂, pi₂, within, is_smallest, smallest_in, smallest_within}
use Rattle.automata_laws.specs.FormulaAutomaton.{is_proper, State, states_of, combination, moved_by, move_of}

unfoldable pub size : Formula → ℕ
size (const b) = 1
size (lit b n) = 1
size (un o a) = suc (size a)
size (bin o a b) = suc (size a + size b)

pub sub-size : {ψ φ : Formula} → Sub ψ φ → size ψ ≤ size φ
unfolding size
sub-size self = omega arith
sub-size (under s) = omega (arith, sub-size s)
sub-size (left s) = omega (arith, sub-size s)
sub-size (right s) = omega (arith, sub-size s)

-- the level of a class: what lies within another is that one, or is of a lower level
pub level : StateClass → ℕ
level sigma₁ = 1
level pi₁ = 1
level sigma₂ = 2
level pi₂ = 2

pub level_range : (Γ : StateClass) → (1 ≤ level Γ) × (level Γ ≤ 2)
unfolding level
level_range sigma₁ = (omega arith, omega arith)
level_range pi₁ = (omega arith, omega arith)
level_range sigma₂ = (omega arith, omega arith)
level_range pi₂ = (omega arith, omega arith)

-- of the second level, after the two that lie below
second_cases : (Γ : StateClass) {Δ : StateClass} → 1 < level Γ → Memᴰ Δ (sigma₁ ∷ pi₁ ∷ Γ ∷ []) → (Δ ≡ Γ) ⊎ (level Δ < level Γ)
unfolding level
second_cases Γ {Δ} h m =
    elim (Memᴰ.cases_cons m) [
      | inl e ↦ inr (subst (λ (Θ : StateClass). level Θ < level Γ) (sym e) h)
      | inr n ↦ elim (Memᴰ.cases_cons n) [
        | inl e ↦ inr (subst (λ (Θ : StateClass). level Θ < level Γ) (sym e) h)
        | inr k ↦ inl (Memᴰ.eq_of_singleton k)
      ]
    ]

pub within_cases : (Γ : StateClass) {Δ : StateClass} → Memᴰ Δ (within Γ) → (Δ ≡ Γ) ⊎ (level Δ < level Γ)
unfolding level
within_cases sigma₁ m = inl (Memᴰ.eq_of_singleton m)
within_cases pi₁ m = inl (Memᴰ.eq_of_singleton m)
within_cases sigma₂ m = second_cases sigma₂ (omega arith) m
within_cases pi₂ m = second_cases pi₂ (omega arith) m

-- a state of a subformula, with a class within another
pub record Inner (ψ : Formula) (Γ : StateClass) (q : State) : Type 0 where
  pub sub : Sub q.formula ψ
  pub proper : T (is_proper q.formula)
  pub smallest : T (is_smallest q.formula q.class)
  pub class : (q.class ≡ Γ) ⊎ (level q.class < level Γ)

inner_within : {ψ : Formula} {Γ Δ : StateClass} {q : State} → (Δ ≡ Γ) ⊎ (level Δ < level Γ) → Inner ψ Δ q → Inner ψ Γ q
inner_within {ψ} {Γ} {Δ} {q} w i = record { sub = i.sub; proper = i.proper; smallest = i.smallest; class = go w i.class }
  where
    go : (Δ ≡ Γ) ⊎ (level Δ < level Γ) → (q.class ≡ Δ) ⊎ (level q.class < level Δ) → (q.class ≡ Γ) ⊎ (level q.class < level Γ)
    go (inl e) x = subst (λ (Θ : StateClass). (q.class ≡ Θ) ⊎ (level q.class < level Θ)) e x
    go (inr h) (inl e) = inr (subst (λ (Θ : StateClass). level Θ < level Γ) (sym e) h)
    go (inr h) (inr k) = inr (omega arith)

inner-sub : {ψ φ : Formula} {Γ : StateClass} {q : State} → ((χ : Formula) → Sub χ ψ → Sub χ φ) → Inner ψ Γ q → Inner φ Γ q
inner-sub {q = q} f i = record { sub = f q.formula i.sub; proper = i.proper; smallest = i.smallest; class = i.class }

-- the states that a formula is let down to
pub record Among (ψ : Formula) (Γs : List StateClass) (q : State) : Type 0 where
  pub sub : Sub q.formula ψ
  pub proper : T (is_proper q.formula)
  pub smallest : T (is_smallest q.formula q.class)
  pub class : Memᴰ q.class Γs

among-sub : {ψ φ : Formula} {Γs : List StateClass} {q : State} → ((χ : Formula) → Sub χ ψ → Sub χ φ) → Among ψ Γs q → Among φ Γs q
among-sub {q = q} f i = record { sub = f q.formula i.sub; proper = i.proper; smallest = i.smallest; class = i.class }

own-states : {q : State} (ψ : Formula) (Γs : List StateClass) → T (is_proper ψ) → Memᴰ q (atoms (states_of Γs ψ)) → Among ψ Γs q
unfolding atoms smallest_in
own-states {q} ψ Γs p m =
    let k = any-atoms (map (λ Γ. atom (record { formula = ψ; class = Γ })) (smallest_in Γs ψ)) m in
    let x = Memᴰ.of_map (λ Γ. atom (record { formula = ψ; class = Γ })) (smallest_in Γs ψ) k.1 in
    let e : q ≡ record { formula = ψ; class = x.0 } = Memᴰ.eq_of_singleton (subst (λ (θ : Positive State). Memᴰ q (atoms θ)) (sym x.2) k.2) in
    let y = mem_keep (is_smallest ψ) Γs x.1 in
    subst (Among ψ Γs) (sym e) (record { sub = self; proper = p; smallest = y.1; class = y.0 })

pub down-atoms : {q : State} (ψ : Formula) (Γs : List StateClass) → Memᴰ q (atoms (combination Γs ψ)) → Among ψ Γs q
unfolding combination atoms
down-atoms (const b) Γs m = absurd (Memᴰ.not-nil m)
down-atoms (lit b n) Γs m = own-states (lit b n) Γs tt m
down-atoms (un o a) Γs m = own-states (un o a) Γs tt m
down-atoms (bin conj a b) Γs m =
    elim (Memᴰ.append_cases (atoms (combination Γs a)) m) [ inl k ↦ among-sub (λ χ s. left s) (down-atoms a Γs k) | inr k ↦ among-sub (λ χ s. right s) (down-atoms b Γs k) ]
down-atoms (bin disj a b) Γs m =
    elim (Memᴰ.append_cases (atoms (combination Γs a)) m) [ inl k ↦ among-sub (λ χ s. left s) (down-atoms a Γs k) | inr k ↦ among-sub (λ χ s. right s) (down-atoms b Γs k) ]
down-atoms (bin until a b) Γs m = own-states (bin until a b) Γs tt m
down-atoms (bin weak a b) Γs m = own-states (bin weak a b) Γs tt m
down-atoms (bin release a b) Γs m = own-states (bin release a b) Γs tt m
down-atoms (bin strong a b) Γs m = own-states (bin strong a b) Γs tt m
down-atoms (bin implies a b) Γs m = own-states (bin implies a b) Γs tt m

-- a state in a move: the moving one itself, or one of an operand
abbrev pub Occurs : Formula → StateClass → State → Type 0
Occurs ψ Γ q = ((q ≡ record { formula = ψ; class = Γ }) × T (is_fixpoint ψ)) ⊎ (Inner ψ Γ q × (size q.formula < size ψ))

-- a fixpoint is proper
pub fixpoint-proper : (ψ : Formula) → T (is_fixpoint ψ) → T (is_proper ψ)
fixpoint-proper (const b) t = t
fixpoint-proper (lit b n) t = tt
fixpoint-proper (un o a) t = tt
fixpoint-proper (bin conj a b) t = t
fixpoint-proper (bin disj a b) t = t
fixpoint-proper (bin until a b) t = tt
fixpoint-proper (bin weak a b) t = tt
fixpoint-proper (bin release a b) t = tt
fixpoint-proper (bin strong a b) t = tt
fixpoint-proper (bin implies a b) t = tt

-- in an operand that is moved
module _ (a : Formula) (s : ℕ) {q : State} (occurs : (Γ : StateClass) → Memᴰ q (atoms (move_of a Γ s)) → Occurs a Γ q) where
  by_state : (Γ Δ : StateClass) → (Δ ≡ Γ) ⊎ (level Δ < level Γ) → T (is_proper a) → T (is_smallest a Δ) → Occurs a Δ q → Inner a Γ q
  by_state Γ Δ w p t (inl x) = subst (Inner a Γ) (sym x.0) (record { sub = self; proper = p; smallest = t; class = w })
  by_state Γ Δ w p t (inr x) = inner_within w x.0

  by_operands : (Γ : StateClass) → (T (is_proper a) → ⊥) → Occurs a Γ q → Inner a Γ q
  by_operands Γ f (inl x) = absurd (f (fixpoint-proper a x.1))
  by_operands Γ f (inr x) = x.0

  moved-atoms : (Γ : StateClass) → Memᴰ q (atoms (moved_by Γ a (λ Δ. move_of a Δ s))) → Inner a Γ q
  unfolding smallest_in
  moved-atoms Γ = go (is_proper a) refl
    where
      go : (b : Bool) → is_proper a ≡ b → Memᴰ q (atoms (cond b (any_of (map (λ Δ. move_of a Δ s) (smallest_within Γ a))) (move_of a Γ s))) → Inner a Γ q
      go true e m =
          let k = any-atoms (map (λ Δ. move_of a Δ s) (smallest_within Γ a)) m in
          let x = Memᴰ.of_map (λ Δ. move_of a Δ s) (smallest_within Γ a) k.1 in
          let y = mem_keep (is_smallest a) _ x.1 in
          by_state Γ x.0 (within_cases Γ y.0) (subst T (sym e) tt) y.1 (occurs x.0 (subst (λ (θ : Positive State). Memᴰ q (atoms θ)) (sym x.2) k.2))
      go false e m = by_operands Γ (λ t. subst T e t) (occurs Γ m)

-- of two operands
module _ (o : Binary) (a b : Formula) (Γ : StateClass) {q : State} where
  at_left : Inner a Γ q → Occurs (bin o a b) Γ q
  unfolding size
  at_left i = inr (inner-sub (λ χ s. left s) i, omega (arith, sub-size i.sub))

  at_right : Inner b Γ q → Occurs (bin o a b) Γ q
  unfolding size
  at_right i = inr (inner-sub (λ χ s. right s) i, omega (arith, sub-size i.sub))

  both_atoms : {xs ys : List State} → (Memᴰ q xs → Inner a Γ q) → (Memᴰ q ys → Inner b Γ q) → Memᴰ q (xs ++ ys) → Occurs (bin o a b) Γ q
  both_atoms {xs} f g m = elim (Memᴰ.append_cases xs m) [ inl k ↦ at_left (f k) | inr k ↦ at_right (g k) ]

  fixpoint-atoms : {xs ys : List State} → T (is_fixpoint (bin o a b)) → (Memᴰ q xs → Inner a Γ q) → (Memᴰ q ys → Inner b Γ q)
      → Memᴰ q (ys ++ (xs ++ (record { formula = bin o a b; class = Γ } ∷ []))) → Occurs (bin o a b) Γ q
  fixpoint-atoms {xs} {ys} t f g m =
      elim (Memᴰ.append_cases ys m) [
        | inl k ↦ at_right (g k)
        | inr k ↦ elim (Memᴰ.append_cases xs k) [ inl n ↦ at_left (f n) | inr n ↦ inl (Memᴰ.eq_of_singleton n, t) ]
      ]

-- in any move
pub move-atoms : {q : State} (ψ : Formula) (Γ : StateClass) (s : ℕ) → Memᴰ q (atoms (move_of ψ Γ s)) → Occurs ψ Γ q
unfolding move_of atoms size
move-atoms (const b) Γ s m = absurd (Memᴰ.not-nil m)
move-atoms (lit b n) Γ s m = absurd (Memᴰ.not-nil m)
move-atoms (un next a) Γ s m =
    let i = down-atoms a _ m in
    inr (record { sub = under i.sub; proper = i.proper; smallest = i.smallest; class = within_cases Γ i.class }, omega (arith, sub-size i.sub))
move-atoms (un neg a) Γ s m = absurd (Memᴰ.not-nil m)
move-atoms (un finally a) Γ s m = absurd (Memᴰ.not-nil m)
move-atoms (un globally a) Γ s m = absurd (Memᴰ.not-nil m)
move-atoms (bin conj a b) Γ s m = both_atoms conj a b Γ (moved-atoms a s (λ Δ k. move-atoms a Δ s k) Γ) (moved-atoms b s (λ Δ k. move-atoms b Δ s k) Γ) m
move-atoms (bin disj a b) Γ s m = both_atoms disj a b Γ (moved-atoms a s (λ Δ k. move-atoms a Δ s k) Γ) (moved-atoms b s (λ Δ k. move-atoms b Δ s k) Γ) m
move-atoms (bin until a b) Γ s m = fixpoint-atoms until a b Γ tt (moved-atoms a s (λ Δ k. move-atoms a Δ s k) Γ) (moved-atoms b s (λ Δ k. move-atoms b Δ s k) Γ) m
move-atoms (bin weak a b) Γ s m = fixpoint-atoms weak a b Γ tt (moved-atoms a s (λ Δ k. move-atoms a Δ s k) Γ) (moved-atoms b s (λ Δ k. move-atoms b Δ s k) Γ) m
move-atoms (bin release a b) Γ s m = fixpoint-atoms release a b Γ tt (moved-atoms a s (λ Δ k. move-atoms a Δ s k) Γ) (moved-atoms b s (λ Δ k. move-atoms b Δ s k) Γ) m
move-atoms (bin strong a b) Γ s m = fixpoint-atoms strong a b Γ tt (moved-atoms a s (λ Δ k. move-atoms a Δ s k) Γ) (moved-atoms b s (λ Δ k. move-atoms b Δ s k) Γ) m
move-atoms (bin implies a b) Γ s m = absurd (Memᴰ.not-nil m)
