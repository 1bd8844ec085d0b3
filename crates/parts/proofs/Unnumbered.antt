-- A draft none of whose slots has a number.
use Prim.Native.Nat.{ℕ, ◌<◌}
use mathlib.Core.Path.{◌≡◌}
use mathlib.Core.List.{List}
use lib.ListN.{length, replicate, length-replicate}
use Rattle.std.specs.Prelude.{Option, Some, None}
use Rattle.logic.specs.Formula.{Formula}
use Rattle.table.specs.Answers.{OrNone}
use Rattle.table.specs.Numbering.{build}
use Rattle.drafts.specs.Drafted.{Drafted}
use Rattle.placing.specs.State.{State, written, Placing}
use Rattle.draft_numbering.specs.Numberable.{Numberable, Rooted}
use Rattle.draft_numbering.proofs.Remembering.{remembered_none}
use Rattle.parts.specs.Parts.{Numberless}

-- a draft is numbered from no numbers
pub numberable : {folded numbers stack : List ℕ} {root : ℕ} {s : State} → Numberless folded root numbers stack s → {n : List ℕ} → n ≡ replicate (length numbers) 0
    → Numberable folded root n stack (written s)
numberable {folded} {numbers} {s = s} q z = record {
  formula = q.formula;
  drafted = q.drafted;
  few = q.few;
  numbers_long = rw (z, length-replicate {A = ℕ} (length numbers) 0) q.numbers_long;
  stack_long = q.stack_long;
  remembered = rw z (remembered_none folded (length numbers) (written s));
}

-- what was placed, or that there was no room
pub placed : (folded numbers : List ℕ) (root : ℕ) (s e : State) (φ : Formula) → Drafted folded φ root → (r : Option ℕ)
    → OrNone (λ n. Rooted folded root s e numbers n) r → OrNone (λ n. Placing s e (build (written s) φ) n) r
placed folded numbers root s e φ d None p = p.placed φ d
placed folded numbers root s e φ d (Some n) p = (p.0, p.1.placed φ d)
