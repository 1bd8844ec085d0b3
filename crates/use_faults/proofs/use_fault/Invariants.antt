-- The invariant: what is left to ask is the use of word n and of those after it.
use Prim.Native.Nat.{◌-◌}
use mathlib.Core.Path.{◌≡◌}
use lib.ListN.{length}
use Rattle.refusals.specs.Refusals.{first}
use Rattle.table.specs.Checks.{use_checks}
use Rattle.use_faults.proofs.use_fault.Given as goal

abbrev pub invariant-loop-n : goal.invariant-loop-n
invariant-loop-n l = first (use_checks l.words 1 (length l.words - 1)) ≡ first (use_checks l.words l.n (length l.words - l.n))
