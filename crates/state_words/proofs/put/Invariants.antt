-- The states put so far stand from the index on.
use Prim.Native.Nat.{◌≤◌}
use mathlib.Core.Path.{◌≡◌}
use lib.ListN.{length}
use lib.Seq.{paste}
use Rattle.state_classes.specs.Classes.{own_words}
use Rattle.state_words.proofs.put.Given as goal

abbrev pub invariant-loop-k : goal.invariant-loop-k
invariant-loop-k l = (l.k ≤ l.count) × (length l.res ≡ length l.initial.res) × (l.res ≡ paste l.initial.res l.at (own_words l.kind l.byte l.number) l.k)
