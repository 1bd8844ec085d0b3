-- Where a formula holds, the states whose formulas hold are a model of what it is let down to, and those that hold at the next position of what it moves to;
-- a fixpoint that is fulfilled can do without itself.
use Prim.Native.Nat.{ℕ, suc}
use mathlib.Core.Path.{◌≡◌, refl, sym, subst}
use mathlib.Core.Logic.{◌⊎◌, inl, inr, ⊎_map}
use mathlib.Core.Bool.{Bool, true, false, cond, ◌&&◌, ◌||◌}
use mathlib.Core.List.Memᴰ
use mathlib.Core.List.{List, map}
use lib.Dec.{T}
use Rattle.logic.specs.Formula.{Formula, Binary, const, lit, un, bin, next, neg, finally, globally, conj, disj, until, weak, release, strong, implies}
use Rattle.logic.specs.Lasso.{Lasso, word, letter_in}
use Rattle.logic.specs.Semantics.{Holds}
use Rattle.logic.specs.Truth.{truth}
use Rattle.transforms.specs.NormalForm.{is_fixpoint}
use Rattle.transforms.specs.Subformula.{Sub, self, under, left, right}
use Rattle.logic.proofs.Tests.{T_and, T_or, T-beq, T-decided}
use Rattle.logic.proofs.Lasso.Truth.{truth-holds}
use Rattle.transforms.proofs.Normal.Membership.{mem_keep, keep_mem}
use Rattle.automata.specs.Positive.{Positive, atom, any_of, Subset, models}
use Rattle.automata.proofs.Models.{any-model}
use Rattle.automata_laws.specs.StateClass.{StateClass, in_class, within, is_smallest, smallest_in, smallest_within}
use Rattle.automata_laws.specs.FormulaAutomaton.{is_proper, State, states_of, combination, moved_by, move_of}
use Rattle.automata_laws.proofs.Classes.{Covers, covers_class, in_hereditary, smallest_in_lem, smallest_within_lem, no_neg, no_finally, no_globally, no_implies}
use Rattle.logic.proofs.Expansion.{until_next, weak_next, strong_next, release_next}
use Rattle.automata_laws.proofs.Occurring.{fixpoint-proper}

-- a fixpoint is fulfilled by the values of its operands
abbrev pub fulfilled_by : Binary → Bool → Bool → Bool
fulfilled_by conj a b = false
fulfilled_by disj a b = false
fulfilled_by until a b = b
fulfilled_by weak a b = b
fulfilled_by release a b = a && b
fulfilled_by strong a b = a && b
fulfilled_by implies a b = false

module _ (r : Lasso) where
  unfoldable pub is_fulfilled : Formula → ℕ → Bool
  is_fulfilled (const b) l = false
  is_fulfilled (lit b n) l = false
  is_fulfilled (un o a) l = false
  is_fulfilled (bin o a b) l = fulfilled_by o (truth r a l) (truth r b l)

  -- a set has every state of a subformula of ψ that holds at a position
  abbrev pub Contains : Subset State → Formula → ℕ → Type 0
  Contains S ψ l = (q : State) → Sub q.formula ψ → T (is_proper q.formula) → T (is_smallest q.formula q.class) → Holds (word r) q.formula l → T (S q)

  -- the same of the operands of ψ
  abbrev pub Operands : Subset State → Formula → ℕ → Type 0
  Operands S (const b) l = Unit {0}
  Operands S (lit b n) l = Unit {0}
  Operands S (un o a) l = Contains S a l
  Operands S (bin o a b) l = Contains S a l × Contains S b l

  operands_of : (S : Subset State) (ψ : Formula) (l : ℕ) → Contains S ψ l → Operands S ψ l
  operands_of S (const b) l c = tt
  operands_of S (lit b n) l c = tt
  operands_of S (un o a) l c = λ q s. c q (under s)
  operands_of S (bin o a b) l c = (λ q s. c q (left s), λ q s. c q (right s))

  -- such a set is a model of what a formula that holds is let down to
  proper-model : (S : Subset State) (ψ : Formula) (l : ℕ) (Γs : List StateClass) → T (is_proper ψ) → Covers Γs ψ → Contains S ψ l → Holds (word r) ψ l → T (models S (states_of Γs ψ))
  unfolding smallest_in
  proper-model S ψ l Γs p v c h =
      let k = v ψ self p in
      let state : StateClass → Positive State = λ Γ. atom (record { formula = ψ; class = Γ }) in
      any-model S (map state (smallest_in Γs ψ)) (Memᴰ.map state k.1)
      (c (record { formula = ψ; class = k.0 }) self p (mem_keep (is_smallest ψ) Γs k.1).1 h)

  pub down-model : (S : Subset State) (ψ : Formula) (l : ℕ) (Γs : List StateClass) → Covers Γs ψ → Contains S ψ l → Holds (word r) ψ l → T (models S (combination Γs ψ))
  unfolding combination
  down-model S (const b) l Γs v c h = h
  down-model S (lit b n) l Γs v c h = proper-model S (lit b n) l Γs tt v c h
  down-model S (un o a) l Γs v c h = proper-model S (un o a) l Γs tt v c h
  down-model S (bin conj a b) l Γs v c h =
      (T_and (models S (combination Γs a)) (models S (combination Γs b))).1 (
        down-model S a l Γs (λ χ s. v χ (left s)) (λ q s. c q (left s)) h.0,
        down-model S b l Γs (λ χ s. v χ (right s)) (λ q s. c q (right s)) h.1,
      )
  down-model S (bin disj a b) l Γs v c (inl h) = (T_or (models S (combination Γs a)) (models S (combination Γs b))).1 (inl (down-model S a l Γs (λ χ s. v χ (left s)) (λ q s. c q (left s)) h))
  down-model S (bin disj a b) l Γs v c (inr h) = (T_or (models S (combination Γs a)) (models S (combination Γs b))).1 (inr (down-model S b l Γs (λ χ s. v χ (right s)) (λ q s. c q (right s)) h))
  down-model S (bin until a b) l Γs v c h = proper-model S (bin until a b) l Γs tt v c h
  down-model S (bin weak a b) l Γs v c h = proper-model S (bin weak a b) l Γs tt v c h
  down-model S (bin release a b) l Γs v c h = proper-model S (bin release a b) l Γs tt v c h
  down-model S (bin strong a b) l Γs v c h = proper-model S (bin strong a b) l Γs tt v c h
  down-model S (bin implies a b) l Γs v c h = proper-model S (bin implies a b) l Γs tt v c h

  -- and of what a state whose formula holds moves to; the state itself is needed only if its fixpoint is not fulfilled yet
  abbrev pub MoveModel : Formula → Type 0
  MoveModel ψ = (S : Subset State) (Γ : StateClass) (l : ℕ) → T (in_class Γ ψ) → Holds (word r) ψ l → Operands S ψ (suc l)
      → (T (is_fixpoint ψ) → Holds (word r) ψ (suc l) → (T (is_fulfilled ψ l) → ⊥) → T (S (record { formula = ψ; class = Γ }))) → T (models S (move_of ψ Γ (word r l)))

  moved-model : (a : Formula) → MoveModel a → (S : Subset State) (Γ : StateClass) (l : ℕ) → T (in_class Γ a) → Holds (word r) a l → Contains S a (suc l)
      → T (models S (moved_by Γ a (λ Δ. move_of a Δ (word r l))))
  unfolding smallest_in
  moved-model a model S Γ l t h c = go (is_proper a) refl
    where
      go : (b : Bool) → is_proper a ≡ b → T (models S (cond b (any_of (map (λ Δ. move_of a Δ (word r l)) (smallest_within Γ a))) (move_of a Γ (word r l))))
      go true e =
          let p : T (is_proper a) = subst T (sym e) tt in
          let k = smallest_within_lem Γ a t in
          any-model S (map (λ Δ. move_of a Δ (word r l)) (smallest_within Γ a)) (Memᴰ.map (λ Δ. move_of a Δ (word r l)) (keep_mem (is_smallest a) k.2 k.1))
          (model S k.0 l (smallest_in_lem a k.0 k.2) h (operands_of S a (suc l) c) (λ f x y. c (record { formula = a; class = k.0 }) self p k.2 x))
      go false e = model S Γ l t h (operands_of S a (suc l) c) (λ f x y. absurd (subst T e (fixpoint-proper a f)))

  module _ (a b : Formula) (ma : MoveModel a) (mb : MoveModel b) where
    abbrev left_moved : StateClass → ℕ → Positive State
    left_moved Γ l = moved_by Γ a (λ Δ. move_of a Δ (word r l))

    abbrev right_moved : StateClass → ℕ → Positive State
    right_moved Γ l = moved_by Γ b (λ Δ. move_of b Δ (word r l))

    module _ (o : Binary) (S : Subset State) (Γ : StateClass) (l : ℕ) (t : T (in_class Γ (bin o a b))) (c : Operands S (bin o a b) (suc l)) where
      to_left : Holds (word r) a l → T (models S (left_moved Γ l))
      to_left h = moved-model a ma S Γ l ((in_hereditary Γ).first t) h c.0

      to_right : Holds (word r) b l → T (models S (right_moved Γ l))
      to_right h = moved-model b mb S Γ l ((in_hereditary Γ).second t) h c.1

      conj-model : Holds (word r) a l × Holds (word r) b l → T (models S (left_moved Γ l) && models S (right_moved Γ l))
      conj-model h = (T_and (models S (left_moved Γ l)) (models S (right_moved Γ l))).1 (to_left h.0, to_right h.1)

      disj-model : Holds (word r) a l ⊎ Holds (word r) b l → T (models S (left_moved Γ l) || models S (right_moved Γ l))
      disj-model h = (T_or (models S (left_moved Γ l)) (models S (right_moved Γ l))).1 (⊎_map to_left to_right h)

      -- U and W
      until-model : (Holds (word r) b l ⊎ (Holds (word r) a l × Holds (word r) (bin o a b) (suc l)))
          → (Holds (word r) (bin o a b) (suc l) → (T (truth r b l) → ⊥) → T (S (record { formula = bin o a b; class = Γ })))
          → T (models S (right_moved Γ l) || (models S (left_moved Γ l) && S (record { formula = bin o a b; class = Γ })))
      until-model x again = go x (T-decided (truth r b l))
        where
          now : T (models S (right_moved Γ l)) → T (models S (right_moved Γ l) || (models S (left_moved Γ l) && S (record { formula = bin o a b; class = Γ })))
          now m = (T_or (models S (right_moved Γ l)) _).1 (inl m)

          go : (Holds (word r) b l ⊎ (Holds (word r) a l × Holds (word r) (bin o a b) (suc l))) → T (truth r b l) ⊎ (T (truth r b l) → ⊥)
              → T (models S (right_moved Γ l) || (models S (left_moved Γ l) && S (record { formula = bin o a b; class = Γ })))
          go (inl h) d = now (to_right h)
          go (inr x) (inl y) = now (to_right ((truth-holds r b l).0 y))
          go (inr x) (inr f) = (T_or (models S (right_moved Γ l)) _).1 (inr ((T_and (models S (left_moved Γ l)) _).1 (to_left x.0, again x.1 f)))

      -- R and M
      release-model : Holds (word r) b l × (Holds (word r) a l ⊎ Holds (word r) (bin o a b) (suc l))
          → (Holds (word r) (bin o a b) (suc l) → (T (truth r a l && truth r b l) → ⊥) → T (S (record { formula = bin o a b; class = Γ })))
          → T (models S (right_moved Γ l) && (models S (left_moved Γ l) || S (record { formula = bin o a b; class = Γ })))
      release-model x again = (T_and (models S (right_moved Γ l)) _).1 (to_right x.0, go x.1 (T-decided (truth r a l)))
        where
          go : Holds (word r) a l ⊎ Holds (word r) (bin o a b) (suc l) → T (truth r a l) ⊎ (T (truth r a l) → ⊥)
              → T (models S (left_moved Γ l) || S (record { formula = bin o a b; class = Γ }))
          go (inl h) d = (T_or (models S (left_moved Γ l)) _).1 (inl (to_left h))
          go (inr h) (inl y) = (T_or (models S (left_moved Γ l)) _).1 (inl (to_left ((truth-holds r a l).0 y)))
          go (inr h) (inr f) = (T_or (models S (left_moved Γ l)) _).1 (inr (again h (λ y. f ((T_and (truth r a l) (truth r b l)).0 y).0)))

  pub move-model : (ψ : Formula) → MoveModel ψ
  unfolding move_of is_fulfilled
  move-model (const b) S Γ l t h c again = h
  move-model (lit b n) S Γ l t h c again = (T-beq b (letter_in (word r l) n)).1 h
  move-model (un next a) S Γ l t h c again = down-model S a (suc l) (within Γ) (covers_class Γ a ((in_hereditary Γ).operand t)) c h
  move-model (un neg a) S Γ l t h c again = absurd (no_neg Γ a t)
  move-model (un finally a) S Γ l t h c again = absurd (no_finally Γ a t)
  move-model (un globally a) S Γ l t h c again = absurd (no_globally Γ a t)
  move-model (bin conj a b) S Γ l t h c again = conj-model a b (move-model a) (move-model b) conj S Γ l t c h
  move-model (bin disj a b) S Γ l t h c again = disj-model a b (move-model a) (move-model b) disj S Γ l t c h
  move-model (bin until a b) S Γ l t h c again = until-model a b (move-model a) (move-model b) until S Γ l t c ((until_next (Holds (word r) a) (Holds (word r) b) l).0 h) (again tt)
  move-model (bin weak a b) S Γ l t h c again = until-model a b (move-model a) (move-model b) weak S Γ l t c ((weak_next (Holds (word r) a) (Holds (word r) b) l).0 h) (again tt)
  move-model (bin release a b) S Γ l t h c again = release-model a b (move-model a) (move-model b) release S Γ l t c ((release_next (Holds (word r) a) (Holds (word r) b) l).0 h) (again tt)
  move-model (bin strong a b) S Γ l t h c again = release-model a b (move-model a) (move-model b) strong S Γ l t c ((strong_next (Holds (word r) a) (Holds (word r) b) l).0 h) (again tt)
  move-model (bin implies a b) S Γ l t h c again = absurd (no_implies Γ a b t)
