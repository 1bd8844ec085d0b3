-- Automata of one state, which stays where the sample is 1 and else moves to false: what they accept and what they do not.
use Prim.Native.Nat.{ℕ, zero, suc, ◌+◌}
use mathlib.Core.Bool.{Bool, true, false, cond}
use mathlib.Core.Logic.{◌⊎◌, inl, inr}
use native.Mathlib.Nat.{le_refl}
use lib.Dec.{T, eqb}
use Rattle.logic.specs.Lasso.{Word}
use Rattle.automata.specs.Positive.{constant, atom, Subset, Minimal, Unsatisfiable}
use Rattle.automata.specs.Automaton.{Automaton, Run, Accepting, Accepts}

-- its state is accepting, or is not
abbrev while_one : Bool → Automaton (Unit {0})
while_one b = record { IsState = λ q. Unit {0}; start = atom tt; move = λ q s. cond (eqb s 1) (atom tt) (constant false); accepting = λ q. b }

-- 1 for ever; and 1 once, 0 from then on
abbrev ones : Word
ones i = 1

abbrev one_once : Word
one_once zero = 1
one_once (suc i) = 0

all_minimal : Minimal {X = Unit {0}} (λ q. true) (atom tt)
all_minimal = record { model = tt; least = λ S w m q t. m }

-- 1 for ever is accepted
accepted : Accepts (while_one true) ones
accepted = record {
  nodes = λ l q. true;
  edges = λ l p q. true;
  run = record { nodes = λ l q n. tt; edges = λ l p q e. (tt, tt); first = all_minimal; next = λ l q n. inr all_minimal; reached = λ l q n. (tt, tt) };
  accepting = record { satisfiable = λ l q n u. u (λ q. true) all_minimal; visits = λ l p path i. (i, le_refl i, tt) };
}

-- where the sample is 1, a node has an edge to the next one
stays : (S : Subset (Unit {0})) → Unsatisfiable {X = Unit {0}} (atom tt) ⊎ Minimal S (atom tt) → T (S tt)
stays S (inl u) = absurd (u (λ q. true) all_minimal)
stays S (inr m) = m.model

-- so 1 once and then 0 leads to a move that is false
not_once : Accepts (while_one true) one_once → ⊥
not_once a =
    let edge = stays (a.edges 0 tt) (a.run.next 0 tt a.run.first.model) in
    a.accepting.satisfiable 1 tt (a.run.edges 0 tt tt edge).1 (λ S m. m.model)

-- and where the state is not accepting, 1 for ever has a path that visits no accepting state
module _ (a : Accepts (while_one false) ones) where
  node : (l : ℕ) → T (a.nodes l tt)
  node zero = a.run.first.model
  node (suc l) = (a.run.edges l tt tt (stays (a.edges l tt) (a.run.next l tt (node l)))).1

  not_visited : ⊥
  not_visited = (a.accepting.visits 0 (λ n. tt) (λ n. stays (a.edges (0 + n) tt) (a.run.next (0 + n) tt (node (0 + n)))) 0).2
