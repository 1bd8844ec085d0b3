-- The loop has counted the positions of the words passed.
use mathlib.Core.Path.{◌≡◌}
use Prim.Native.Nat.{ℕ, ◌≤◌, ◌*◌, min}
use Rattle.logic.specs.Truth.{Sequence}
use Rattle.row_words.specs.Row as rows
use Rattle.row_reading.proofs.count_held.Given as goal

abbrev pub invariant-loop-word : goal.invariant-loop-word
invariant-loop-word l = (l.held ≤ l.word-index * 64) × ((L : ℕ) (f : Sequence) → l.row ≡ rows.row L f → l.held ≡ rows.count_true f (min (l.word-index * 64) L))
