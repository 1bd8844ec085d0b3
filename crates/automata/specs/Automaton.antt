-- Alternating Büchi automata over samples, their runs, and what they accept: source 002, section 7.1.
use Rattle.std.specs.Prelude.{ℕ, suc, ◌+◌, ◌<◌, ◌≡◌, Bool, ◌⊎◌, T}
use Rattle.logic.specs.Lasso.{Word}
use Rattle.transforms.specs.Recurrence.{InfinitelyOften}
use Rattle.automata.specs.Positive.{Positive, Subset, Minimal, Unsatisfiable}

-- states among X, an initial formula, the formula that a state moves to on a sample, and the accepting states
pub record Automaton (X : Type 0) : Type 1 where
  pub IsState : X → Type 0
  pub start : Positive X
  pub move : X → ℕ → Positive X
  pub accepting : X → Bool

module _ {X : Type 0} (A : Automaton X) (σ : Word) (N : ℕ → Subset X) (E : ℕ → X → Subset X) where
  -- a directed graph: N l has the states q of the nodes (q, l), and E l q those of the nodes (q', l + 1) to which (q, l) has an edge
  pub record Run : Type 0 where
    pub nodes : (l : ℕ) (q : X) → T (N l q) → A.IsState q
    pub edges : (l : ℕ) (q q' : X) → T (E l q q') → T (N l q) × T (N (suc l) q')
    pub first : Minimal (N 0) A.start
    pub next : (l : ℕ) (q : X) → T (N l q) → Unsatisfiable (A.move q (σ l)) ⊎ Minimal (E l q) (A.move q (σ l))
    pub reached : (l : ℕ) (q : X) → T (N (suc l) q) → (p : X) × T (E l p q)

  -- an infinite path that begins at level l
  abbrev pub InfinitePath : ℕ → (ℕ → X) → Type 0
  InfinitePath l p = (n : ℕ) → T (E (l + n) (p n) (p (suc n)))

  -- no node's move is false, and every infinite path visits accepting states infinitely often
  pub record Accepting : Type 0 where
    pub satisfiable : (l : ℕ) (q : X) → T (N l q) → Unsatisfiable (A.move q (σ l)) → ⊥
    pub visits : (l : ℕ) (p : ℕ → X) → InfinitePath l p → InfinitelyOften (λ n. T (A.accepting (p n)))

-- it has an accepting run on the word
pub record Accepts {X : Type 0} (A : Automaton X) (σ : Word) : Type 0 where
  pub nodes : ℕ → Subset X
  pub edges : ℕ → X → Subset X
  pub run : Run A σ nodes edges
  pub accepting : Accepting A σ nodes edges

module _ {X : Type 0} (A : Automaton X) where
  -- q leads to q': on some sample q' belongs to some minimal model of what q moves to
  abbrev pub Leads : X → X → Type 0
  Leads q q' = (s : ℕ) × (S : Subset X) × Minimal S (A.move q s) × T (S q')

  -- one of the two is accepting and the other is not
  abbrev pub Changes : X → X → Type 0
  Changes q q' = A.accepting q ≡ A.accepting q' → ⊥

  -- on any path q → q' → q'' …, of whatever length k, there is at most one change between accepting and other states
  abbrev pub ChangesOnce : Type 0
  ChangesOnce = (k : ℕ) (p : ℕ → X) → ((n : ℕ) → n < k → Leads (p n) (p (suc n)))
      → (m n : ℕ) → m < k → n < k → Changes (p m) (p (suc m)) → Changes (p n) (p (suc n)) → m ≡ n
