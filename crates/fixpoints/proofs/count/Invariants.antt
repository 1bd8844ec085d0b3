-- The positions of the words so far are kept.
use Prim.Native.Nat.{◌-◌, ◌<◌}
use native.Mathlib.Omega.{arith}
use mathlib.Core.Path.{◌≡◌, refl}
use mathlib.Core.Logic.{⊎_elim}
use mathlib.Core.Bool.{true, cond}
use lib.ListN.{length, get_or, length-set}
use borrow.Author.Rules.{rules}
use Rattle.table.proofs.Accepted.{accepted-well-formed}
use Rattle.table.specs.StepChecks.{is_fixpoint_word}
use Rattle.fixpoints.specs.Positions.{bit_of}
use Rattle.fixpoints.proofs.UntilLike.{bits_all}
use Rattle.fixpoints.proofs.Positions.{Keeping, keeping_none, keeping-bits, keeping-few, keeping_more, keeping_all}
use Rattle.fixpoints.proofs.count.Given as goal

abbrev pub invariant-loop-i : goal.invariant-loop-i
invariant-loop-i l = Keeping l.table l.positions l.bits l.i × (length l.positions ≡ length l.initial.positions)
