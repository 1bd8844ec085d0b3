-- The search goes down a chain. The invariant: it stands at a number of the word's bucket, and each word past that number is another.
use Prim.Native.Nat.{ℕ, ◌-◌, ◌≤◌}
use mathlib.Core.Path.{◌≡◌, sym, ◌∙◌}
use native.Mathlib.Omega.{arith}
use borrow.Author.Rules.{rules}
use lib.ListN.{take}
use lib.Seq.{length-take-le, get_or-take}
use Rattle.lookup.specs.Index.{count_of, half_of}
use Rattle.lookup.proofs.Laws.{Trail, trail_start, trail_falls, trail_next, trail_found, trail_end}
use Rattle.lookup.proofs.find.Given as goal

abbrev pub invariant-loop-n : goal.invariant-loop-n
invariant-loop-n l = (l.n ≤ count_of l.index) × Trail (half_of l.index) (take (count_of l.index) l.words) l.w l.n

abbrev pub decreases-loop-n : goal.decreases-loop-n
decreases-loop-n l = l.n
