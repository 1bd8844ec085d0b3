-- The words passed are swept, and those from w up are as they were.
use mathlib.Core.Path.{◌≡◌}
use mathlib.Core.Bool.{false}
use Prim.Native.Nat.{ℕ, ◌≤◌}
use lib.ListN.{get_or}
use Rattle.logic.specs.Truth.{Sequence}
use Rattle.row_words.specs.Row as rows
use Rattle.row_sweeps.proofs.close_words.Given as goal

abbrev pub invariant-loop-w : goal.invariant-loop-w
invariant-loop-w l = ((v : ℕ) → l.w ≤ v → get_or l.row v 0 ≡ get_or l.initial.row v 0)
    × ((L : ℕ) (G P : Sequence) → l.initial.row ≡ rows.row L G → l.p ≡ rows.row L P → rows.Written L (rows.word_sweep L G P false) 0 l.w l.row)
