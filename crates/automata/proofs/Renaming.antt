-- An automaton under other names for its states accepts the same words.
use Prim.Native.Nat.{ℕ, suc, ◌+◌}
use mathlib.Core.Path.{◌≡◌, refl, sym, ap, subst, ap₂, ◌∙◌}
use mathlib.Core.Logic.{◌⊎◌, inl, inr}
use mathlib.Core.Bool.{◌&&◌, ◌||◌}
use mathlib.Core.List.Memᴰ
use mathlib.Core.List.{Memᴰ}
use lib.Dec.{T}
use Rattle.logic.specs.Lasso.{Word}
use Rattle.logic.proofs.Tests.{T_and}
use Rattle.automata.specs.Positive.{Positive, constant, atom, and, or, renamed, Subset, models, Minimal, Unsatisfiable}
use Rattle.automata.specs.Automaton.{Automaton, Run, Accepting, Accepts, Leads, Changes, ChangesOnce}
use Rattle.automata.proofs.Models.{atoms, models_on, minimal_same, is_same, same_eq, eq_same, minimal_occurs}

-- f gives the states of A their names in B, and g undoes it
pub record Renames {X Y : Type 0} (A : Automaton X) (B : Automaton Y) (f : X → Y) (g : Y → X) : Type 0 where
  pub inside : (q : X) → A.IsState q → B.IsState (f q)
  pub back : (q : X) → A.IsState q → g (f q) ≡ q
  pub start : B.start ≡ renamed f A.start
  pub move : (q : X) (s : ℕ) → A.IsState q → B.move (f q) s ≡ renamed f (A.move q s)
  pub accepting : (q : X) → A.IsState q → B.accepting (f q) ≡ A.accepting q
  pub start_closed : (q : X) → Memᴰ q (atoms A.start) → A.IsState q
  pub move_closed : (p : X) (s : ℕ) (q : X) → A.IsState p → Memᴰ q (atoms (A.move p s)) → A.IsState q

-- models under other names
models-renamed : {X Y : Type 0} (f : X → Y) (S : Subset Y) (θ : Positive X) → models S (renamed f θ) ≡ models (λ x. S (f x)) θ
models-renamed f S (constant b) = refl
models-renamed f S (atom x) = refl
models-renamed f S (and a b) = ap₂ ◌&&◌ (models-renamed f S a) (models-renamed f S b)
models-renamed f S (or a b) = ap₂ ◌||◌ (models-renamed f S a) (models-renamed f S b)

module _ {X Y : Type 0} (same : (x y : Y) → Dec (x ≡ y)) (f : X → Y) (g : Y → X) where
  -- the names of the elements of a set
  image : Subset X → Subset Y
  image S y = S (g y) && is_same same (f (g y)) y

  image_of : (S : Subset X) (x : X) → g (f x) ≡ x → T (S x) → T (image S (f x))
  unfolding image
  image_of S x e t = (T_and (S (g (f x))) (is_same same (f (g (f x))) (f x))).1 (subst (λ (z : X). T (S z)) (sym e) t, eq_same same (f (g (f x))) (f x) (ap f e))

  of_image : (S : Subset X) (y : Y) → T (image S y) → T (S (g y)) × (f (g y) ≡ y)
  unfolding image
  of_image S y t = let k = (T_and (S (g y)) (is_same same (f (g y)) y)).0 t in (k.0, same_eq same (f (g y)) y k.1)

  image_minimal : (S : Subset X) (θ : Positive X) → ((x : X) → Memᴰ x (atoms θ) → g (f x) ≡ x) → Minimal S θ → Minimal (image S) (renamed f θ)
  image_minimal S θ back m = record {
    model = subst T (sym (models-renamed f (image S) θ)) (models_on S (λ x. image S (f x)) θ (λ x k t. image_of S x (back x k) t) m.model);
    least = λ R w n y t.
        let k = of_image S y t in
        subst (λ (z : Y). T (R z)) k.1
        ((T_and (R (f (g y))) (S (g y))).0
        (m.least (λ x. R (f x) && S x) (λ x u. ((T_and (R (f x)) (S x)).0 u).1)
        (models_on (λ x. R (f x)) (λ x. R (f x) && S x) θ
        (λ x l u. (T_and (R (f x)) (S x)).1 (u, subst (λ (z : X). T (S z)) (back x l) (of_image S (f x) (w (f x) u)).0))
        (subst T (models-renamed f R θ) n)) (g y) k.0)).0;
  }

  module _ (A : Automaton X) (B : Automaton Y) (names : Renames A B f g) (σ : Word) (N : ℕ → Subset X) (E : ℕ → X → Subset X)
      (run : Run A σ N E) (good : Accepting A σ N E) where
    nodes : ℕ → Subset Y
    nodes l = image (N l)

    edges : ℕ → Y → Subset Y
    edges l p q = is_same same (f (g p)) p && image (E l (g p)) q

    -- a node's name, and its state
    node_of : (l : ℕ) (p : Y) → T (nodes l p) → T (N l (g p)) × A.IsState (g p) × (f (g p) ≡ p)
    unfolding nodes
    node_of l p n = let k = of_image (N l) p n in (k.0, run.nodes l (g p) k.0, k.1)

    edge_of : (l : ℕ) (p q : Y) → T (edges l p q) → (f (g p) ≡ p) × T (E l (g p) (g q)) × (f (g q) ≡ q)
    unfolding edges
    edge_of l p q e =
        let k = (T_and (is_same same (f (g p)) p) (image (E l (g p)) q)).0 e in
        let i = of_image (E l (g p)) q k.1 in
        (same_eq same (f (g p)) p k.0, i.0, i.1)

    node-named : (l : ℕ) (p : Y) → T (N l (g p)) → f (g p) ≡ p → T (nodes l p)
    unfolding nodes
    node-named l p n e = subst (λ (z : Y). T (image (N l) z)) e (image_of (N l) (g p) (names.back (g p) (run.nodes l (g p) n)) n)

    edge-named : (l : ℕ) (p q : X) → T (E l p q) → T (edges l (f p) (f q))
    unfolding edges
    edge-named l p q e =
        let k = run.edges l p q e in
        let bp = names.back p (run.nodes l p k.0) in
        let bq = names.back q (run.nodes (suc l) q k.1) in
        (T_and (is_same same (f (g (f p))) (f p)) (image (E l (g (f p))) (f q))).1 (
          eq_same same (f (g (f p))) (f p) (ap f bp),
          subst (λ (z : X). T (image (E l z) (f q))) (sym bp) (image_of (E l p) q bq e),
        )

    edges_minimal : (l : ℕ) (p : Y) → T (nodes l p) → Minimal (edges l p) (B.move p (σ l))
    unfolding edges
    edges_minimal l p n = go (run.next l (g p) k.0)
      where
        k : T (N l (g p)) × A.IsState (g p) × (f (g p) ≡ p)
        k = node_of l p n

        go : Unsatisfiable (A.move (g p) (σ l)) ⊎ Minimal (E l (g p)) (A.move (g p) (σ l)) → Minimal (edges l p) (B.move p (σ l))
        go (inl u) = absurd (good.satisfiable l (g p) k.0 u)
        go (inr m) =
            let i : Minimal (image (E l (g p))) (renamed f (A.move (g p) (σ l))) =
            image_minimal (E l (g p)) (A.move (g p) (σ l)) (λ x t. names.back x (names.move_closed (g p) (σ l) x k.1 t)) m in
            let j : Minimal (image (E l (g p))) (B.move p (σ l)) =
            subst (λ (z : Y). Minimal (image (E l (g p))) (B.move z (σ l))) k.2 (subst (Minimal (image (E l (g p)))) (sym (names.move (g p) (σ l) k.1)) i) in
            minimal_same (λ q t. (T_and (is_same same (f (g p)) p) (image (E l (g p)) q)).1 (eq_same same (f (g p)) p k.2, t))
            (λ q t. ((T_and (is_same same (f (g p)) p) (image (E l (g p)) q)).0 t).1) j

    named-run : Run B σ nodes edges
    unfolding nodes
    named-run = record {
      nodes = λ l p n. let k = node_of l p n in subst B.IsState k.2 (names.inside (g p) k.1);
      edges = λ l p q e.
          let k = edge_of l p q e in
          let i = run.edges l (g p) (g q) k.1 in
          (node-named l p i.0 k.0, node-named (suc l) q i.1 k.2);
      first = subst (Minimal (image (N 0))) (sym names.start) (image_minimal (N 0) A.start (λ x t. names.back x (names.start_closed x t)) run.first);
      next = λ l p n. inr (edges_minimal l p n);
      reached = λ l q n.
          let k = node_of (suc l) q n in
          let p = run.reached l (g q) k.0 in
          (f p.0, subst (λ (z : Y). T (edges l (f p.0) z)) k.2 (edge-named l p.0 (g q) p.1));
    }

    named-accepting : Accepting B σ nodes edges
    named-accepting = record {
      satisfiable = λ l p n u. u (edges l p) (edges_minimal l p n);
      visits = λ l p path n.
          let v = good.visits l (λ k. g (p k)) (λ k. (edge_of (l + k) (p k) (p (suc k)) (path k)).1) n in
          let m = v.0 in
          let e = edge_of (l + m) (p m) (p (suc m)) (path m) in
          let s = run.nodes (l + m) (g (p m)) (run.edges (l + m) (g (p m)) (g (p (suc m))) e.1).0 in
          (m, v.1, subst (λ (z : Y). T (B.accepting z)) e.0 (subst T (sym (names.accepting (g (p m)) s)) v.2));
    }

-- what an automaton accepts, it accepts under other names
pub accepts-renamed : {X Y : Type 0} (same : (x y : Y) → Dec (x ≡ y)) (f : X → Y) (g : Y → X) (A : Automaton X) (B : Automaton Y) → Renames A B f g
    → (σ : Word) → Accepts A σ → Accepts B σ
accepts-renamed same f g A B names σ a = record {
  nodes = nodes same f g A B names σ a.nodes a.edges a.run a.accepting;
  edges = edges same f g A B names σ a.nodes a.edges a.run a.accepting;
  run = named-run same f g A B names σ a.nodes a.edges a.run a.accepting;
  accepting = named-accepting same f g A B names σ a.nodes a.edges a.run a.accepting;
}

-- and its paths change as they do under other names; only states move
module _ {X Y : Type 0} (sameX : (x y : X) → Dec (x ≡ y)) (sameY : (x y : Y) → Dec (x ≡ y)) (f : X → Y) (g : Y → X) (A : Automaton X) (B : Automaton Y)
    (names : Renames B A g f) (only : (p : Y) (s : ℕ) (S : Subset Y) → Minimal S (B.move p s) → B.IsState p) where
  target_state : (p q : Y) → Leads B p q → B.IsState q
  target_state p q x = names.move_closed p x.0 q (only p x.0 x.1 x.2) (minimal_occurs sameY x.2 q x.3)

  leads-named : (p q : Y) → Leads B p q → Leads A (g p) (g q)
  leads-named p q x =
      let state = only p x.0 x.1 x.2 in
      let m : Minimal (image sameX g f x.1) (renamed g (B.move p x.0)) =
      image_minimal sameX g f x.1 (B.move p x.0) (λ y k. names.back y (names.move_closed p x.0 y state k)) x.2 in (
        x.0,
        image sameX g f x.1,
        subst (Minimal (image sameX g f x.1)) (sym (names.move p x.0 state)) m,
        image_of sameX g f x.1 q (names.back q (target_state p q x)) x.3,
      )

  changes_named : (p q : Y) → Leads B p q → Changes B p q → Changes A (g p) (g q)
  changes_named p q x c e = c (sym (names.accepting p (only p x.0 x.1 x.2)) ∙ e ∙ names.accepting q (target_state p q x))

  pub changes_renamed : ChangesOnce A → ChangesOnce B
  changes_renamed once k p leads m n hm hn c d =
      once k (λ i. g (p i)) (λ i h. leads-named (p i) (p (suc i)) (leads i h)) m n hm hn
      (changes_named (p m) (p (suc m)) (leads m hm) c) (changes_named (p n) (p (suc n)) (leads n hn) d)

-- names undone
renamed_back : {X Y : Type 0} (f : X → Y) (g : Y → X) (θ : Positive X) → ((x : X) → Memᴰ x (atoms θ) → g (f x) ≡ x) → renamed g (renamed f θ) ≡ θ
unfolding atoms
renamed_back f g (constant b) e = refl
renamed_back f g (atom x) e = ap atom (e x (Memᴰ.head refl))
renamed_back f g (and a b) e = ap₂ and (renamed_back f g a (λ x k. e x (Memᴰ.append_left (atoms b) k))) (renamed_back f g b (λ x k. e x (Memᴰ.append_right (atoms a) k)))
renamed_back f g (or a b) e = ap₂ or (renamed_back f g a (λ x k. e x (Memᴰ.append_left (atoms b) k))) (renamed_back f g b (λ x k. e x (Memᴰ.append_right (atoms a) k)))

-- the atoms are the names of the atoms
renamed-atoms : {X Y : Type 0} (f : X → Y) (θ : Positive X) {y : Y} → Memᴰ y (atoms (renamed f θ)) → (x : X) × Memᴰ x (atoms θ) × (f x ≡ y)
unfolding atoms
renamed-atoms f (constant b) m = absurd (Memᴰ.not-nil m)
renamed-atoms f (atom x) m = (x, Memᴰ.head refl, sym (Memᴰ.eq_of_singleton m))
renamed-atoms f (and a b) m =
    elim (Memᴰ.append_cases (atoms (renamed f a)) m) [
      | inl k ↦ (let i = renamed-atoms f a k in (i.0, Memᴰ.append_left (atoms b) i.1, i.2))
      | inr k ↦ (let i = renamed-atoms f b k in (i.0, Memᴰ.append_right (atoms a) i.1, i.2))
    ]
renamed-atoms f (or a b) m =
    elim (Memᴰ.append_cases (atoms (renamed f a)) m) [
      | inl k ↦ (let i = renamed-atoms f a k in (i.0, Memᴰ.append_left (atoms b) i.1, i.2))
      | inr k ↦ (let i = renamed-atoms f b k in (i.0, Memᴰ.append_right (atoms a) i.1, i.2))
    ]

-- where every state of B is a name, g gives the states of B their names in A
module _ {X Y : Type 0} (A : Automaton X) (B : Automaton Y) (f : X → Y) (g : Y → X) (names : Renames A B f g)
    (onto : (p : Y) → B.IsState p → (q : X) × A.IsState q × (f q ≡ p)) where
  closed_start : (x : X) → Memᴰ x (atoms A.start) → g (f x) ≡ x
  closed_start x k = names.back x (names.start_closed x k)

  closed_move : (q : X) → A.IsState q → (s : ℕ) (x : X) → Memᴰ x (atoms (A.move q s)) → g (f x) ≡ x
  closed_move q i s x k = names.back x (names.move_closed q s x i k)

  -- what is so of names is so of states of B
  by_name : (P : Y → Type 0) → ((q : X) → A.IsState q → P (f q)) → (p : Y) → B.IsState p → P p
  by_name P h p i = let k = onto p i in subst P k.2 (h k.0 k.1)

  pub renames_back : Renames B A g f
  renames_back = record {
    inside = by_name (λ p. A.IsState (g p)) (λ q i. subst A.IsState (sym (names.back q i)) i);
    back = by_name (λ p. f (g p) ≡ p) (λ q i. ap f (names.back q i));
    start = sym (ap (renamed g) names.start ∙ renamed_back f g A.start closed_start);
    move = λ p s. by_name (λ p. A.move (g p) s ≡ renamed g (B.move p s))
        (λ q i. ap (λ (x : X). A.move x s) (names.back q i) ∙ sym (ap (renamed g) (names.move q s i) ∙ renamed_back f g (A.move q s) (closed_move q i s))) p;
    accepting = by_name (λ p. A.accepting (g p) ≡ B.accepting p) (λ q i. ap A.accepting (names.back q i) ∙ sym (names.accepting q i));
    start_closed = λ p k.
        let x = renamed-atoms f A.start (subst (λ (θ : Positive Y). Memᴰ p (atoms θ)) names.start k) in
        subst B.IsState x.2 (names.inside x.0 (names.start_closed x.0 x.1));
    move_closed = λ p s y i.
        by_name (λ p. Memᴰ y (atoms (B.move p s)) → B.IsState y)
        (λ q j k.
        let x = renamed-atoms f (A.move q s) (subst (λ (θ : Positive Y). Memᴰ y (atoms θ)) (names.move q s j) k) in
        subst B.IsState x.2 (names.inside x.0 (names.move_closed q s x.0 j x.1))) p i;
  }
