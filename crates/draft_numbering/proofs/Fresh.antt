-- Rooms in which nothing is numbered yet.
use Prim.Native.Nat.{ℕ, ◌/◌, ◌≤◌, ◌<◌}
use native.Mathlib.Omega.{arith}
use mathlib.Core.List.{List}
use lib.ListN.{length, replicate}
use Rattle.logic.specs.Formula.{Formula}
use Rattle.logic.proofs.Numbers.{get_or-zeros}
use Rattle.table.specs.Numbering.{room}
use Rattle.placing.specs.State.{State, state, written, Numbered}
use Rattle.placing.proofs.Putting.{numbered_none}
use Rattle.drafts.specs.Drafted.{Drafted}
use Rattle.draft_numbering.specs.Numberable.{Numberable, Fresh}

-- n slots and an index of m numbers, all of them 0
pub fresh : (n m : ℕ) (out : List ℕ) → room (length out) < m / 2 → m ≤ 32768 → Fresh (replicate n 0) (replicate n 0) (replicate n 0) (state out (replicate m 0))
fresh n m out h k = record {
  numbers_long = omega arith;
  stack_long = omega arith;
  unnumbered = get_or-zeros n;
  numbered = numbered_none out m h k;
  none = get_or-zeros m 0;
}

-- a draft of no more slots can be numbered in them, from any slot that stands for a formula
pub fresh-numberable : {d e numbers stack : List ℕ} {s : State} {root : ℕ} (φ : Formula) → length d ≤ 1048576 → length e ≤ length d → Drafted e φ root
    → Fresh d numbers stack s → Numbered s × Numberable e root numbers stack (written s)
fresh-numberable φ few same drafted g = (
  g.numbered,
  record {
    formula = φ;
    drafted = drafted;
    few = omega arith;
    numbers_long = omega (arith, g.numbers_long);
    stack_long = omega (arith, g.stack_long);
    remembered = record { held = λ i ψ r p. absurd (omega (arith, p, g.unnumbered i)) };
  },
)
