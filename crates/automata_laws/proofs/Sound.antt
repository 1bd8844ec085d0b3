-- What is accepted holds: every node of an accepting run holds at its level. A U or M word that failed would follow itself for ever, on a path without
-- accepting states.
use Prim.Native.Nat.{ℕ, zero, suc, ◌+◌, ◌-◌, ◌≤◌}
use native.Mathlib.Nat.{add-zero, add-suc}
use native.Mathlib.Omega.{arith}
use mathlib.Core.Path.{sym, subst}
use mathlib.Core.Logic.{◌⊎◌, inl, inr, ⊎_map}
use mathlib.Core.Bool.{Bool, true, false, cond}
use mathlib.Core.List.Memᴰ
use mathlib.Core.List.{List, map}
use lib.Dec.{T}
use Rattle.logic.specs.Formula.{Formula, Binary, const, lit, un, bin, next, neg, finally, globally, conj, disj, until, weak, release, strong, implies, is_least_op}
use Rattle.logic.specs.Lasso.{Lasso, word, letter_in}
use Rattle.logic.specs.Semantics.{Predicate, Holds}
use Rattle.logic.proofs.Tests.{T_and, T_or, T-beq}
use Rattle.logic.proofs.Lasso.Truth.{holds-decided}
use Rattle.automata.specs.Positive.{Positive, atom, and, or, any_of, Subset, Within, models, Minimal, Unsatisfiable}
use Rattle.automata.specs.Automaton.{Run, Accepting, Accepts}
use Rattle.automata.proofs.Models.{any_some}
use Rattle.automata_laws.specs.StateClass.{StateClass, is_pi, every, smallest_in, smallest_within}
use Rattle.automata_laws.specs.FormulaAutomaton.{is_proper, State, states_of, combination, moved_by, move_of, formula_automaton}
use Rattle.automata_laws.proofs.Classes.{least-sigma}
use Rattle.logic.proofs.Expansion.{until_next, weak_next, strong_next, release_next}

-- an operand moved by a class
abbrev moved : StateClass → Formula → ℕ → Positive State
moved Γ a s = moved_by Γ a (λ Δ. move_of a Δ s)

-- what a model of an operator's move says
until-model : (S : Subset State) (a b : Positive State) (q : State) → T (models S (or b (and a (atom q)))) → T (models S b) ⊎ (T (models S a) × T (S q))
until-model S a b q m = elim ((T_or (models S b) (models S (and a (atom q)))).0 m) [ inl x ↦ inl x | inr x ↦ inr ((T_and (models S a) (S q)).0 x) ]

release-model : (S : Subset State) (a b : Positive State) (q : State) → T (models S (and b (or a (atom q)))) → T (models S b) × (T (models S a) ⊎ T (S q))
release-model S a b q m = let x = (T_and (models S b) (models S (or a (atom q)))).0 m in (x.0, (T_or (models S a) (S q)).0 x.1)

module _ (φ : Formula) (r : Lasso) (N : ℕ → Subset State) (E : ℕ → State → Subset State)
    (run : Run (formula_automaton φ) (word r) N E) (good : Accepting (formula_automaton φ) (word r) N E) where
  -- the edges of a node go to nodes of the next level, and are a model of its move
  targets : (l : ℕ) (q : State) → Within (E l q) (N (suc l))
  targets l q p e = (run.edges l q p e).1

  successors : (l : ℕ) (q : State) → T (N l q) → T (models (E l q) (move_of q.formula q.class (word r l)))
  successors l q n = go (run.next l q n)
    where
      go : Unsatisfiable (move_of q.formula q.class (word r l)) ⊎ Minimal (E l q) (move_of q.formula q.class (word r l))
          → T (models (E l q) (move_of q.formula q.class (word r l)))
      go (inl u) = absurd (good.satisfiable l q n u)
      go (inr m) = m.model

  -- what a model among the nodes of a level makes true
  abbrev MoveSound : Formula → Type 0
  MoveSound ψ = (l : ℕ) (Γ : StateClass) (S : Subset State) → Within S (N (suc l)) → T (models S (move_of ψ Γ (word r l))) → Holds (word r) ψ l

  abbrev CombinationSound : Formula → Type 0
  CombinationSound ψ = (l : ℕ) (Γs : List StateClass) (S : Subset State) → Within S (N l) → T (models S (combination Γs ψ)) → Holds (word r) ψ l

  module _ (ψ : Formula) (sound : MoveSound ψ) where
    node-sound : (l : ℕ) (Γ : StateClass) → T (N l (record { formula = ψ; class = Γ })) → Holds (word r) ψ l
    node-sound l Γ n = let q : State = record { formula = ψ; class = Γ } in sound l Γ (E l q) (targets l q) (successors l q n)

    states-sound : (l : ℕ) (Γs : List StateClass) (S : Subset State) → Within S (N l) → T (models S (states_of Γs ψ)) → Holds (word r) ψ l
    states-sound l Γs S w m =
        let k = any_some S (map (λ Γ. atom (record { formula = ψ; class = Γ })) (smallest_in Γs ψ)) m in
        let x = Memᴰ.of_map (λ Γ. atom (record { formula = ψ; class = Γ })) (smallest_in Γs ψ) k.1 in
        node-sound l x.0 (w _ (subst (λ (θ : Positive State). T (models S θ)) (sym x.2) k.2))

    moved-sound : (l : ℕ) (Γ : StateClass) (S : Subset State) → Within S (N (suc l)) → T (models S (moved Γ ψ (word r l))) → Holds (word r) ψ l
    moved-sound l Γ S w = go (is_proper ψ) (smallest_within Γ ψ)
      where
        go : (b : Bool) (Δs : List StateClass) → T (models S (cond b (any_of (map (λ Δ. move_of ψ Δ (word r l)) Δs)) (move_of ψ Γ (word r l)))) → Holds (word r) ψ l
        go true Δs m =
            let k = any_some S (map (λ Δ. move_of ψ Δ (word r l)) Δs) m in
            let x = Memᴰ.of_map (λ Δ. move_of ψ Δ (word r l)) Δs k.1 in
            sound l x.0 S w (subst (λ (θ : Positive State). T (models S θ)) (sym x.2) k.2)
        go false Δs m = sound l Γ S w m

  -- a node that makes its formula hold, if it holds at the next level, or else is followed by itself: it holds, or it follows itself for ever
  module _ (q : State) (K : Predicate)
      (step : (l : ℕ) → T (N l q) → Holds (word r) q.formula l ⊎ (K l × T (E l q q) × (Holds (word r) q.formula (suc l) → Holds (word r) q.formula l))) where
    fails : (l : ℕ) → T (N l q) → (Holds (word r) q.formula l → ⊥) → (n : ℕ) → T (N (l + n) q) × (Holds (word r) q.formula (l + n) → ⊥)
    fails l n f zero = rw add-zero (n, f)
    fails l n f (suc k) = rw add-suc (go (fails l n f k))
      where
        go : T (N (l + k) q) × (Holds (word r) q.formula (l + k) → ⊥) → T (N (suc (l + k)) q) × (Holds (word r) q.formula (suc (l + k)) → ⊥)
        go x = elim (step (l + k) x.0) [ inl h ↦ absurd (x.1 h) | inr s ↦ (targets (l + k) q q s.1, λ h. x.1 (s.2 h)) ]

    follows : (l : ℕ) → T (N l q) → Holds (word r) q.formula l ⊎ ((n : ℕ) → K (l + n) × T (E (l + n) q q))
    follows l n = go (holds-decided r q.formula l)
      where
        go : Holds (word r) q.formula l ⊎ (Holds (word r) q.formula l → ⊥) → Holds (word r) q.formula l ⊎ ((n : ℕ) → K (l + n) × T (E (l + n) q q))
        go (inl h) = inl h
        go (inr f) = inr (λ k. let x = fails l n f k in elim (step (l + k) x.0) [ inl h ↦ absurd (x.1 h) | inr s ↦ (s.0, s.1) ])

  -- never for ever in a state that is not accepting
  unaccepting : (q : State) (l : ℕ) → ((n : ℕ) → T (E (l + n) q q)) → T (is_pi q.class)
  unaccepting q l f = (good.visits l (λ n. q) f 0).2

  module _ (a b : Formula) (sa : MoveSound a) (sb : MoveSound b) where
    abbrev node : Binary → StateClass → State
    node o Γ = record { formula = bin o a b; class = Γ }

    -- U and W
    until-sound : (o : Binary) (l : ℕ) (Γ : StateClass) (S : Subset State) → Within S (N (suc l))
        → T (models S (or (moved Γ b (word r l)) (and (moved Γ a (word r l)) (atom (node o Γ)))))
        → Holds (word r) b l ⊎ (Holds (word r) a l × T (S (node o Γ)))
    until-sound o l Γ S w m =
        ⊎_map (moved-sound b sb l Γ S w) (λ x. (moved-sound a sa l Γ S w x.0, x.1)) (until-model S (moved Γ a (word r l)) (moved Γ b (word r l)) (node o Γ) m)

    -- R and M
    release-sound : (o : Binary) (l : ℕ) (Γ : StateClass) (S : Subset State) → Within S (N (suc l))
        → T (models S (and (moved Γ b (word r l)) (or (moved Γ a (word r l)) (atom (node o Γ)))))
        → Holds (word r) b l × (Holds (word r) a l ⊎ T (S (node o Γ)))
    release-sound o l Γ S w m =
        let x = release-model S (moved Γ a (word r l)) (moved Γ b (word r l)) (node o Γ) m in
        (moved-sound b sb l Γ S w x.0, ⊎_map (moved-sound a sa l Γ S w) (λ y. y) x.1)

    least-holds : (o : Binary) → T (is_least_op o) → (K : Predicate) (Γ : StateClass)
        → ((l : ℕ) → T (N l (node o Γ)) → Holds (word r) (bin o a b) l ⊎ (K l × T (E l (node o Γ) (node o Γ)) × (Holds (word r) (bin o a b) (suc l) → Holds (word r) (bin o a b) l)))
        → (l : ℕ) → T (N l (node o Γ)) → Holds (word r) (bin o a b) l
    least-holds o least K Γ step l n = go (follows (node o Γ) K step l n)
      where
        go : Holds (word r) (bin o a b) l ⊎ ((k : ℕ) → K (l + k) × T (E (l + k) (node o Γ) (node o Γ))) → Holds (word r) (bin o a b) l
        go (inl h) = h
        go (inr f) = absurd (least-sigma o a b Γ least (run.nodes l (node o Γ) n).2 (unaccepting (node o Γ) l (λ k. (f k).1)))

    greatest-holds : (o : Binary) (K : Predicate) (Γ : StateClass) → ((l : ℕ) → ((k : ℕ) → l ≤ k → K k) → Holds (word r) (bin o a b) l)
        → ((l : ℕ) → T (N l (node o Γ)) → Holds (word r) (bin o a b) l ⊎ (K l × T (E l (node o Γ) (node o Γ)) × (Holds (word r) (bin o a b) (suc l) → Holds (word r) (bin o a b) l)))
        → (l : ℕ) → T (N l (node o Γ)) → Holds (word r) (bin o a b) l
    greatest-holds o K Γ ever step l n = go (follows (node o Γ) K step l n)
      where
        go : Holds (word r) (bin o a b) l ⊎ ((k : ℕ) → K (l + k) × T (E (l + k) (node o Γ) (node o Γ))) → Holds (word r) (bin o a b) l
        go (inl h) = h
        go (inr f) = ever l (λ k lk. subst K (omega arith) (f (k - l)).0)

    until-node : (Γ : StateClass) (l : ℕ) → T (N l (node until Γ)) → Holds (word r) (bin until a b) l
    unfolding move_of
    until-node Γ =
        least-holds until tt (Holds (word r) a) Γ
        (λ l n. elim (until-sound until l Γ _ (targets l (node until Γ)) (successors l (node until Γ) n)) [
          | inl h ↦ inl ((until_next (Holds (word r) a) (Holds (word r) b) l).1 (inl h))
          | inr x ↦ inr (x.0, x.1, λ u. (until_next (Holds (word r) a) (Holds (word r) b) l).1 (inr (x.0, u)))
        ])

    weak-node : (Γ : StateClass) (l : ℕ) → T (N l (node weak Γ)) → Holds (word r) (bin weak a b) l
    unfolding move_of
    weak-node Γ =
        greatest-holds weak (Holds (word r) a) Γ (λ l f. inl f)
        (λ l n. elim (until-sound weak l Γ _ (targets l (node weak Γ)) (successors l (node weak Γ) n)) [
          | inl h ↦ inl ((weak_next (Holds (word r) a) (Holds (word r) b) l).1 (inl h))
          | inr x ↦ inr (x.0, x.1, λ u. (weak_next (Holds (word r) a) (Holds (word r) b) l).1 (inr (x.0, u)))
        ])

    strong-node : (Γ : StateClass) (l : ℕ) → T (N l (node strong Γ)) → Holds (word r) (bin strong a b) l
    unfolding move_of
    strong-node Γ =
        least-holds strong tt (Holds (word r) b) Γ
        (λ l n.
        let x = release-sound strong l Γ _ (targets l (node strong Γ)) (successors l (node strong Γ) n) in
        elim x.1 [
          | inl h ↦ inl ((strong_next (Holds (word r) a) (Holds (word r) b) l).1 (x.0, inl h))
          | inr e ↦ inr (x.0, e, λ u. (strong_next (Holds (word r) a) (Holds (word r) b) l).1 (x.0, inr u))
        ])

    release-node : (Γ : StateClass) (l : ℕ) → T (N l (node release Γ)) → Holds (word r) (bin release a b) l
    unfolding move_of
    release-node Γ =
        greatest-holds release (Holds (word r) b) Γ (λ l f. inl f)
        (λ l n.
        let x = release-sound release l Γ _ (targets l (node release Γ)) (successors l (node release Γ) n) in
        elim x.1 [
          | inl h ↦ inl ((release_next (Holds (word r) a) (Holds (word r) b) l).1 (x.0, inl h))
          | inr e ↦ inr (x.0, e, λ u. (release_next (Holds (word r) a) (Holds (word r) b) l).1 (x.0, inr u))
        ])

    -- a model of their moves
    until-move : MoveSound (bin until a b)
    unfolding move_of
    until-move l Γ S w m =
        (until_next (Holds (word r) a) (Holds (word r) b) l).1
        (⊎_map (λ h. h) (λ x. (x.0, until-node Γ (suc l) (w (node until Γ) x.1))) (until-sound until l Γ S w m))

    weak-move : MoveSound (bin weak a b)
    unfolding move_of
    weak-move l Γ S w m =
        (weak_next (Holds (word r) a) (Holds (word r) b) l).1
        (⊎_map (λ h. h) (λ x. (x.0, weak-node Γ (suc l) (w (node weak Γ) x.1))) (until-sound weak l Γ S w m))

    release-move : MoveSound (bin release a b)
    unfolding move_of
    release-move l Γ S w m =
        let x = release-sound release l Γ S w m in
        (release_next (Holds (word r) a) (Holds (word r) b) l).1 (x.0, ⊎_map (λ h. h) (λ e. release-node Γ (suc l) (w (node release Γ) e)) x.1)

    strong-move : MoveSound (bin strong a b)
    unfolding move_of
    strong-move l Γ S w m =
        let x = release-sound strong l Γ S w m in
        (strong_next (Holds (word r) a) (Holds (word r) b) l).1 (x.0, ⊎_map (λ h. h) (λ e. strong-node Γ (suc l) (w (node strong Γ) e)) x.1)

    conj-move : MoveSound (bin conj a b)
    unfolding move_of
    conj-move l Γ S w m =
        let x = (T_and (models S (moved Γ a (word r l))) (models S (moved Γ b (word r l)))).0 m in
        (moved-sound a sa l Γ S w x.0, moved-sound b sb l Γ S w x.1)

    disj-move : MoveSound (bin disj a b)
    unfolding move_of
    disj-move l Γ S w m = ⊎_map (moved-sound a sa l Γ S w) (moved-sound b sb l Γ S w) ((T_or (models S (moved Γ a (word r l))) (models S (moved Γ b (word r l)))).0 m)

  module _ (a b : Formula) (sa : CombinationSound a) (sb : CombinationSound b) where
    conj-down : CombinationSound (bin conj a b)
    unfolding combination
    conj-down l Γs S w m = let x = (T_and (models S (combination Γs a)) (models S (combination Γs b))).0 m in (sa l Γs S w x.0, sb l Γs S w x.1)

    disj-down : CombinationSound (bin disj a b)
    unfolding combination
    disj-down l Γs S w m = ⊎_map (sa l Γs S w) (sb l Γs S w) ((T_or (models S (combination Γs a)) (models S (combination Γs b))).0 m)

  -- a formula's move, and what it is let down to
  both : (ψ : Formula) → MoveSound ψ × CombinationSound ψ
  unfolding move_of combination
  both (const b) = (λ l Γ S w m. m, λ l Γs S w m. m)
  both (lit b n) = let d : MoveSound (lit b n) = λ l Γ S w m. (T-beq b (letter_in (word r l) n)).0 m in (d, states-sound (lit b n) d)
  both (un next a) = let d : MoveSound (un next a) = λ l Γ S w m. (both a).1 (suc l) _ S w m in (d, states-sound (un next a) d)
  both (un neg a) = let d : MoveSound (un neg a) = λ l Γ S w m. absurd m in (d, states-sound (un neg a) d)
  both (un finally a) = let d : MoveSound (un finally a) = λ l Γ S w m. absurd m in (d, states-sound (un finally a) d)
  both (un globally a) = let d : MoveSound (un globally a) = λ l Γ S w m. absurd m in (d, states-sound (un globally a) d)
  both (bin conj a b) = (conj-move a b (both a).0 (both b).0, conj-down a b (both a).1 (both b).1)
  both (bin disj a b) = (disj-move a b (both a).0 (both b).0, disj-down a b (both a).1 (both b).1)
  both (bin until a b) = let d = until-move a b (both a).0 (both b).0 in (d, states-sound (bin until a b) d)
  both (bin weak a b) = let d = weak-move a b (both a).0 (both b).0 in (d, states-sound (bin weak a b) d)
  both (bin release a b) = let d = release-move a b (both a).0 (both b).0 in (d, states-sound (bin release a b) d)
  both (bin strong a b) = let d = strong-move a b (both a).0 (both b).0 in (d, states-sound (bin strong a b) d)
  both (bin implies a b) = let d : MoveSound (bin implies a b) = λ l Γ S w m. absurd m in (d, states-sound (bin implies a b) d)

  start_sound : Holds (word r) φ 0
  start_sound = (both φ).1 0 every (N 0) (λ q n. n) run.first.model

-- what the automaton of a formula accepts has the formula hold at position 0
pub accepts-holds : (φ : Formula) (r : Lasso) → Accepts (formula_automaton φ) (word r) → Holds (word r) φ 0
accepts-holds φ r a = start_sound φ r a.nodes a.edges a.run a.accepting
