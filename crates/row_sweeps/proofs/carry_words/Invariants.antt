-- The words from w up have taken in what is carried, and the carry is the sweep's value at the first position of word w.
use mathlib.Core.Path.{◌≡◌}
use Prim.Native.Nat.{◌≤◌, ◌<◌, ◌-◌, ◌*◌}
use Rattle.logic.specs.Truth.{Sequence, sweep}
use Rattle.row_words.specs.Row as rows
use Rattle.row_sweeps.specs.Carried.{carried_row}
use Rattle.row_sweeps.proofs.carry_words.Given as goal

abbrev pub invariant-loop-w : goal.invariant-loop-w
invariant-loop-w l = (1 ≤ l.n) × (l.n ≤ 64) × (0 < l.w → l.n ≡ rows.filled l.positions (l.w - 1))
    × ((G P : Sequence) → l.g ≡ rows.row l.positions G → l.p ≡ rows.row l.positions P
    → (l.carry ≡ sweep G P l.end (l.w * 64) (l.positions - l.w * 64))
    × rows.Written l.positions (carried_row l.positions G P l.end) l.w (rows.row_words l.positions) l.row)
