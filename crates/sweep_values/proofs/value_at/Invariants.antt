-- The value looked for is that of the sweep from position i on.
use mathlib.Core.Path.{◌≡◌}
use Prim.Native.Nat.{◌≤◌, ◌-◌, ◌+◌}
use Rattle.logic.specs.Truth.{Sequence, sweep}
use Rattle.row_words.specs.Row as rows
use Rattle.sweep_values.proofs.value_at.Given as goal

abbrev pub invariant-loop-i : goal.invariant-loop-i
invariant-loop-i l = (l.i ≤ l.positions + 64)
    × ((G P : Sequence) → l.g ≡ rows.row l.positions G → l.p ≡ rows.row l.positions P
    → sweep G P l.end l.from (l.positions - l.from) ≡ sweep G P l.end l.i (l.positions - l.i))

abbrev pub decreases-loop-i : goal.decreases-loop-i
decreases-loop-i l = l.positions - l.i
