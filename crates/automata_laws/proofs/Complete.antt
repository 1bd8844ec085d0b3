-- What holds is accepted: the states whose formulas hold at their level make a run, in which a fixpoint no longer follows itself once it is fulfilled, so that no
-- path stays for ever in states that are not accepting.
use Prim.Native.Nat.{ℕ, zero, suc, ◌+◌, ◌-◌, ◌≤◌, ◌<◌}
use native.Mathlib.Nat.{le_refl, add-zero}
use native.Mathlib.Omega.{arith}
use mathlib.Core.Path.{◌≡◌, refl, sym, ap, subst}
use mathlib.Core.Logic.{◌⊎◌, inl, inr}
use mathlib.Core.Bool.{false, not, ◌&&◌}
use mathlib.Core.List.Memᴰ
use mathlib.Core.List.{List, [], ◌∷◌, ◌++◌, Memᴰ}
use lib.Dec.{T, T_not, not_T}
use Rattle.logic.specs.Formula.{Formula, const, lit, un, bin, conj, disj, until, weak, release, strong, implies}
use Rattle.logic.specs.Lasso.{Lasso, word}
use Rattle.logic.specs.Semantics.{Holds}
use Rattle.logic.specs.Truth.{truth}
use Rattle.logic.specs.Hierarchy.{Δ₂}
use Rattle.transforms.specs.NormalForm.{keep, is_fixpoint}
use Rattle.transforms.specs.Recurrence.{Eventually}
use Rattle.transforms.specs.Subformula.{Sub}
use Rattle.logic.proofs.Tests.{T_and, T-decided}
use Rattle.logic.proofs.Lasso.Truth.{truth-holds}
use Rattle.transforms.proofs.Normal.Membership.{mem_keep, keep_mem}
use Rattle.transforms.proofs.Normal.PlainFormula.{sub_trans}
use Rattle.automata.specs.Positive.{Positive, Subset, Within, models, Minimal}
use Rattle.automata.specs.Automaton.{Run, Accepting, Accepts}
use Rattle.automata.proofs.Models.{atoms, minimal_same, is_same, same_eq, eq_same, listed, mem_listed, listed_mem, minimal_model, minimal_occurs}
use Rattle.automata_laws.specs.StateClass.{StateClass, is_pi, every, is_smallest}
use Rattle.automata_laws.specs.FormulaAutomaton.{is_proper, State, combination, move_of, formula_automaton}
use Rattle.automata_laws.proofs.Classes.{covers_every, smallest_in_lem, greatest-pi}
use Rattle.automata_laws.proofs.Occurring.{size, sub-size, down-atoms, Occurs, move-atoms}
use Rattle.automata_laws.proofs.Once.{state_same}
use Rattle.automata_laws.proofs.MoveModels.{is_fulfilled, Operands, down-model, move-model}

size-positive : (ψ : Formula) → 0 < size ψ
unfolding size
size-positive (const b) = omega arith
size-positive (lit b n) = omega arith
size-positive (un o a) = omega arith
size-positive (bin o a b) = omega arith

module _ (r : Lasso) where
  -- what a state may move to at a position: states whose formulas hold at the next one, but not itself if its fixpoint is fulfilled
  wanted : State → ℕ → Subset State
  wanted q l p = truth r p.formula (suc l) && not (is_same state_same q p && is_fulfilled r q.formula l)

  abbrev move_at : State → ℕ → Positive State
  move_at q l = move_of q.formula q.class (word r l)

  -- what has a smaller formula, or is not fulfilled, may be moved to
  smaller_wanted : (q : State) (l : ℕ) (p : State) → size p.formula < size q.formula → Holds (word r) p.formula (suc l) → T (wanted q l p)
  unfolding wanted
  smaller_wanted q l p h x =
      (T_and (truth r p.formula (suc l)) (not (is_same state_same q p && is_fulfilled r q.formula l))).1 (
        (truth-holds r p.formula (suc l)).1 x,
        not_T (is_same state_same q p && is_fulfilled r q.formula l)
            (λ y. omega (arith, ap (λ (s : State). size s.formula) (same_eq state_same q p ((T_and (is_same state_same q p) (is_fulfilled r q.formula l)).0 y).0))),
      )

  itself-wanted : (q : State) (l : ℕ) → Holds (word r) q.formula (suc l) → (T (is_fulfilled r q.formula l) → ⊥) → T (wanted q l q)
  unfolding wanted
  itself-wanted q l x f =
      (T_and (truth r q.formula (suc l)) (not (is_same state_same q q && is_fulfilled r q.formula l))).1 (
        (truth-holds r q.formula (suc l)).1 x,
        not_T (is_same state_same q q && is_fulfilled r q.formula l) (λ y. f ((T_and (is_same state_same q q) (is_fulfilled r q.formula l)).0 y).1),
      )

  operands-wanted : (S : Subset State) (ψ : Formula) (l : ℕ) → ((p : State) → size p.formula < size ψ → Holds (word r) p.formula l → T (S p)) → Operands r S ψ l
  unfolding size
  operands-wanted S (const b) l f = tt
  operands-wanted S (lit b n) l f = tt
  operands-wanted S (un o a) l f = λ q s x y. f q (omega (arith, sub-size s))
  operands-wanted S (bin o a b) l f = (λ q s x y. f q (omega (arith, sub-size s)), λ q s x y. f q (omega (arith, sub-size s)))

  wanted-model : (q : State) (l : ℕ) → T (is_smallest q.formula q.class) → Holds (word r) q.formula l → T (models (wanted q l) (move_at q l))
  wanted-model q l t h =
      move-model r q.formula (wanted q l) q.class l (smallest_in_lem q.formula q.class t) h
      (operands-wanted (wanted q l) q.formula (suc l) (smaller_wanted q l)) (λ f. itself-wanted q l)

  -- a minimal model of it, empty where it is none
  chosen_by : (q : State) (l : ℕ) → T (models (wanted q l) (move_at q l)) ⊎ (T (models (wanted q l) (move_at q l)) → ⊥) → Subset State
  chosen_by q l (inl m) = (minimal_model state_same (wanted q l) (move_at q l) m).0
  chosen_by q l (inr f) = λ p. false

  chosen : State → ℕ → Subset State
  chosen q l = chosen_by q l (T-decided (models (wanted q l) (move_at q l)))

  module _ (q : State) (l : ℕ) (t : T (is_smallest q.formula q.class)) (h : Holds (word r) q.formula l) where
    chosen_minimal : Within (chosen q l) (wanted q l) × Minimal (chosen q l) (move_at q l)
    unfolding chosen chosen_by
    chosen_minimal = go (T-decided (models (wanted q l) (move_at q l)))
      where
        go : (d : T (models (wanted q l) (move_at q l)) ⊎ (T (models (wanted q l) (move_at q l)) → ⊥)) → Within (chosen_by q l d) (wanted q l) × Minimal (chosen_by q l d) (move_at q l)
        go (inl m) = let k = minimal_model state_same (wanted q l) (move_at q l) m in (k.1, k.2)
        go (inr f) = absurd (f (wanted-model q l t h))

    chosen-wanted : (p : State) → T (chosen q l p) → T (wanted q l p)
    chosen-wanted p = chosen_minimal.0 p

    chosen-occurs : (p : State) → T (chosen q l p) → Memᴰ p (atoms (move_at q l))
    chosen-occurs p = minimal_occurs state_same chosen_minimal.1 p

  -- the states that the states of a level move to
  kept : State → ℕ → List State
  kept q l = keep (chosen q l) (atoms (move_at q l))

  spread : ℕ → List State → List State
  spread l [] = []
  spread l (q ∷ qs) = kept q l ++ spread l qs

  spread_mem : {p : State} (l : ℕ) (qs : List State) → Memᴰ p (spread l qs) → (q : State) × Memᴰ q qs × Memᴰ p (kept q l)
  unfolding spread
  spread_mem l [] m = absurd (Memᴰ.not-nil m)
  spread_mem {p} l (q ∷ qs) m = go (Memᴰ.append_cases (kept q l) m) (λ k. spread_mem l qs k)
    where
      go : Memᴰ p (kept q l) ⊎ Memᴰ p (spread l qs) → (Memᴰ p (spread l qs) → (s : State) × Memᴰ s qs × Memᴰ p (kept s l))
          → (s : State) × Memᴰ s (q ∷ qs) × Memᴰ p (kept s l)
      go (inl k) f = (q, Memᴰ.head refl, k)
      go (inr k) f = let x = f k in (x.0, Memᴰ.tail x.1, x.2)

  mem_spread : {p q : State} (l : ℕ) (qs : List State) → Memᴰ q qs → Memᴰ p (kept q l) → Memᴰ p (spread l qs)
  unfolding spread
  mem_spread l [] m k = absurd (Memᴰ.not-nil m)
  mem_spread {p} l (s ∷ qs) (Memᴰ.head e) k = Memᴰ.append_left (spread l qs) (subst (λ (x : State). Memᴰ p (kept x l)) e k)
  mem_spread l (s ∷ qs) (Memᴰ.tail m) k = Memᴰ.append_right (kept s l) (mem_spread l qs m k)

  -- a state of φ whose formula holds at a level
  pub record Good (φ : Formula) (l : ℕ) (q : State) : Type 0 where
    pub sub : Sub q.formula φ
    pub proper : T (is_proper q.formula)
    pub smallest : T (is_smallest q.formula q.class)
    pub holds : Holds (word r) q.formula l

  -- what a good state moves to is good
  next_good : (φ : Formula) (l : ℕ) (q p : State) → Good φ l q → T (chosen q l p) → Good φ (suc l) p
  unfolding wanted
  next_good φ l q p g t = go (move-atoms q.formula q.class (word r l) (chosen-occurs q l g.smallest g.holds p t))
    where
      now : Holds (word r) p.formula (suc l)
      now = (truth-holds r p.formula (suc l)).0 ((T_and (truth r p.formula (suc l)) _).0 (chosen-wanted q l g.smallest g.holds p t)).0

      go : Occurs q.formula q.class p → Good φ (suc l) p
      go (inl x) =
          subst (Good φ (suc l)) (sym x.0) (record {
            sub = g.sub;
            proper = g.proper;
            smallest = g.smallest;
            holds = subst (λ (s : State). Holds (word r) s.formula (suc l)) x.0 now;
          })
      go (inr x) = record { sub = sub_trans x.0.sub g.sub; proper = x.0.proper; smallest = x.0.smallest; holds = now }

  -- on a path a state follows itself, not fulfilled yet, or is followed by one with a smaller formula
  next_smaller : (l : ℕ) (q p : State) → T (is_smallest q.formula q.class) → Holds (word r) q.formula l → T (chosen q l p)
      → ((p ≡ q) × T (is_fixpoint q.formula) × (T (is_fulfilled r q.formula l) → ⊥)) ⊎ (size p.formula < size q.formula)
  unfolding wanted
  next_smaller l q p s h t = go (move-atoms q.formula q.class (word r l) (chosen-occurs q l s h p t))
    where
      go : Occurs q.formula q.class p → ((p ≡ q) × T (is_fixpoint q.formula) × (T (is_fulfilled r q.formula l) → ⊥)) ⊎ (size p.formula < size q.formula)
      go (inl x) = inl (
        x.0,
        x.1,
        λ f. T_not (is_same state_same q p && is_fulfilled r q.formula l)
            ((T_and (truth r p.formula (suc l)) (not (is_same state_same q p && is_fulfilled r q.formula l))).0 (chosen-wanted q l s h p t)).1
            ((T_and (is_same state_same q p) (is_fulfilled r q.formula l)).1 (eq_same state_same q p (sym x.0), f)),
      )
      go (inr x) = inr x.1

  -- a U or M word that holds is fulfilled some day
  fulfilled : (ψ : Formula) (Γ : StateClass) (l : ℕ) → T (is_fixpoint ψ) → T (is_smallest ψ Γ) → (T (is_pi Γ) → ⊥) → Holds (word r) ψ l → (d : ℕ) × T (is_fulfilled r ψ (l + d))
  unfolding is_fulfilled
  fulfilled (const b) Γ l x t f h = absurd x
  fulfilled (lit b n) Γ l x t f h = absurd x
  fulfilled (un o a) Γ l x t f h = absurd x
  fulfilled (bin conj a b) Γ l x t f h = absurd x
  fulfilled (bin disj a b) Γ l x t f h = absurd x
  fulfilled (bin until a b) Γ l x t f h =
      let e : l + (h.0 - l) ≡ h.0 = omega (arith, h.1) in
      (h.0 - l, subst (λ (k : ℕ). T (truth r b k)) (sym e) ((truth-holds r b h.0).1 h.2))
  fulfilled (bin weak a b) Γ l x t f h = absurd (f (greatest-pi weak a b Γ tt t))
  fulfilled (bin release a b) Γ l x t f h = absurd (f (greatest-pi release a b Γ tt t))
  fulfilled (bin strong a b) Γ l x t f h =
      let e : l + (h.0 - l) ≡ h.0 = omega (arith, h.1) in
      let now : T (truth r a h.0 && truth r b h.0) =
      (T_and (truth r a h.0) (truth r b h.0)).1 ((truth-holds r a h.0).1 h.2, (truth-holds r b h.0).1 (h.3 h.0 h.1 (le_refl h.0))) in
      (h.0 - l, subst (λ (k : ℕ). T (truth r a k && truth r b k)) (sym e) now)
  fulfilled (bin implies a b) Γ l x t f h = absurd x

  -- a path of good states comes to accepting ones again and again
  module _ (φ : Formula) (l : ℕ) (p : ℕ → State) (good : (n : ℕ) → Good φ (l + n) (p n)) (follows : (n : ℕ) → T (chosen (p n) (l + n) (p (suc n)))) where
    abbrev Found : ℕ → Type 0
    Found n = Eventually (λ k. T (is_pi (p k).class)) n

    later : (n : ℕ) → Found (suc n) → Found n
    later n x = (x.0, omega (arith, x.1), x.2)

    by_size : (n : ℕ) → ((p (suc n) ≡ p n) × T (is_fixpoint (p n).formula) × (T (is_fulfilled r (p n).formula (l + n)) → ⊥)) ⊎ (size (p (suc n)).formula < size (p n).formula)
    by_size n = next_smaller (l + n) (p n) (p (suc n)) (good n).smallest (good n).holds (follows n)

    -- until it is fulfilled
    waits : (s : ℕ) → ((n : ℕ) → size (p n).formula ≤ s → Found n) → (d n : ℕ) → size (p n).formula ≤ suc s → T (is_fulfilled r (p n).formula (l + n + d)) → Found n
    waits s ih zero n h t = go (by_size n)
      where
        go : ((p (suc n) ≡ p n) × T (is_fixpoint (p n).formula) × (T (is_fulfilled r (p n).formula (l + n)) → ⊥)) ⊎ (size (p (suc n)).formula < size (p n).formula) → Found n
        go (inl x) = absurd (x.2 (rw add-zero at t))
        go (inr k) = later n (ih (suc n) (omega arith))
    waits s ih (suc d) n h t = go (by_size n) (waits s ih d (suc n))
      where
        go : ((p (suc n) ≡ p n) × T (is_fixpoint (p n).formula) × (T (is_fulfilled r (p n).formula (l + n)) → ⊥)) ⊎ (size (p (suc n)).formula < size (p n).formula)
            → (size (p (suc n)).formula ≤ suc s → T (is_fulfilled r (p (suc n)).formula (l + suc n + d)) → Found (suc n)) → Found n
        go (inl x) f =
            let e : (p (suc n)).formula ≡ (p n).formula = ap (λ (q : State). q.formula) x.0 in
            let k : l + n + suc d ≡ l + suc n + d = omega arith in
            later n (f (rw e h) (rw (e, ← k) t))
        go (inr k) f = later n (ih (suc n) (omega arith))

    finds : (s n : ℕ) → size (p n).formula ≤ s → Found n
    unfolding size
    finds zero n h = absurd (omega (arith, size-positive (p n).formula))
    finds (suc s) n h = go (T-decided (is_pi (p n).class)) (by_size n) (finds s)
      where
        go : T (is_pi (p n).class) ⊎ (T (is_pi (p n).class) → ⊥)
            → ((p (suc n) ≡ p n) × T (is_fixpoint (p n).formula) × (T (is_fulfilled r (p n).formula (l + n)) → ⊥)) ⊎ (size (p (suc n)).formula < size (p n).formula)
            → ((m : ℕ) → size (p m).formula ≤ s → Found m) → Found n
        go (inl t) x ih = (n, le_refl n, t)
        go (inr f) (inl x) ih = let k = fulfilled (p n).formula (p n).class (l + n) x.1 (good n).smallest f (good n).holds in waits s ih k.0 n h k.1
        go (inr f) (inr x) ih = later n (ih (suc n) (omega arith))

    visits : (n : ℕ) → Found n
    visits n = finds (size (p n).formula) n (le_refl (size (p n).formula))

  -- the run of a formula in Δ₂ that holds
  module _ (φ : Formula) (second : Δ₂ φ) (holds : Holds (word r) φ 0) where
    holding : Subset State
    holding q = truth r q.formula 0

    holding-model : T (models holding (combination every φ))
    unfolding holding
    holding-model = down-model r holding φ 0 every (covers_every φ second) (λ q s p t h. (truth-holds r q.formula 0).1 h) holds

    initial : (S : Subset State) × Within S holding × Minimal S (combination every φ)
    initial = minimal_model state_same holding (combination every φ) holding-model

    levels : ℕ → List State
    levels zero = keep initial.0 (atoms (combination every φ))
    levels (suc l) = spread l (levels l)

    nodes : ℕ → Subset State
    nodes l = listed state_same (levels l)

    edges : ℕ → State → Subset State
    edges l q p = nodes l q && chosen q l p

    level_good : (l : ℕ) (q : State) → Memᴰ q (levels l) → Good φ l q
    unfolding levels holding kept
    level_good zero q m =
        let k = mem_keep initial.0 (atoms (combination every φ)) m in
        let a = down-atoms φ every k.0 in
        record { sub = a.sub; proper = a.proper; smallest = a.smallest; holds = (truth-holds r q.formula 0).0 (initial.1 q k.1) }
    level_good (suc l) q m =
        let k = spread_mem l (levels l) m in
        next_good φ l k.0 q (level_good l k.0 k.1) (mem_keep (chosen k.0 l) (atoms (move_at k.0 l)) k.2).1

    node_good : (l : ℕ) (q : State) → T (nodes l q) → Good φ l q
    unfolding nodes
    node_good l q n = level_good l q (listed_mem state_same (levels l) n)

    edge-parts : (l : ℕ) (q p : State) → T (edges l q p) → T (nodes l q) × T (chosen q l p)
    unfolding edges
    edge-parts l q p e = (T_and (nodes l q) (chosen q l p)).0 e

    edge_target : (l : ℕ) (q p : State) → T (edges l q p) → T (nodes (suc l) p)
    unfolding nodes levels kept
    edge_target l q p e =
        let x = edge-parts l q p e in
        let g = node_good l q x.0 in
        mem_listed state_same (levels (suc l))
        (mem_spread l (levels l) (listed_mem state_same (levels l) x.0) (keep_mem (chosen q l) x.1 (chosen-occurs q l g.smallest g.holds p x.1)))

    edges_minimal : (l : ℕ) (q : State) → T (nodes l q) → Minimal (edges l q) (move_at q l)
    unfolding edges
    edges_minimal l q n =
        let g = node_good l q n in
        minimal_same (λ p t. (T_and (nodes l q) (chosen q l p)).1 (n, t)) (λ p t. ((T_and (nodes l q) (chosen q l p)).0 t).1) (chosen_minimal q l g.smallest g.holds).1

    first_minimal : Minimal (nodes 0) (combination every φ)
    unfolding nodes levels
    first_minimal =
        minimal_same
        (λ q t. mem_listed state_same (levels 0) (keep_mem initial.0 t (minimal_occurs state_same initial.2 q t)))
        (λ q t. (mem_keep initial.0 (atoms (combination every φ)) (listed_mem state_same (levels 0) t)).1)
        initial.2

    node-reached : (l : ℕ) (q : State) → T (nodes (suc l) q) → (p : State) × T (edges l p q)
    unfolding nodes edges levels kept
    node-reached l q n =
        let k = spread_mem l (levels l) (listed_mem state_same (levels (suc l)) n) in
        (k.0, (T_and (nodes l k.0) (chosen k.0 l q)).1 (mem_listed state_same (levels l) k.1, (mem_keep (chosen k.0 l) (atoms (move_at k.0 l)) k.2).1))

    held_run : Run (formula_automaton φ) (word r) nodes edges
    held_run = record {
      nodes = λ l q n. let g = node_good l q n in (g.sub, g.proper, g.smallest);
      edges = λ l q p e. ((edge-parts l q p e).0, edge_target l q p e);
      first = first_minimal;
      next = λ l q n. inr (edges_minimal l q n);
      reached = node-reached;
    }

    held_accepting : Accepting (formula_automaton φ) (word r) nodes edges
    held_accepting = record {
      satisfiable = λ l q n u. u (edges l q) (edges_minimal l q n);
      visits = λ l p path. visits φ l p (λ n. node_good (l + n) (p n) (edge-parts (l + n) (p n) (p (suc n)) (path n)).0) (λ n. (edge-parts (l + n) (p n) (p (suc n)) (path n)).1);
    }

    held_accepts : Accepts (formula_automaton φ) (word r)
    held_accepts = record { nodes = nodes; edges = edges; run = held_run; accepting = held_accepting }

-- a formula in Δ₂ that holds at position 0 is accepted by its automaton
pub holds-accepts : (φ : Formula) → Δ₂ φ → (r : Lasso) → Holds (word r) φ 0 → Accepts (formula_automaton φ) (word r)
holds-accepts φ d r h = held_accepts r φ d h
