-- The invariant: the bytes passed are those of their words, and the others as they were.
use Prim.Native.Nat.{ℕ, ◌≤◌, ◌<◌, ◌-◌}
use mathlib.Core.Path.{◌≡◌, ap, ap₂, ◌∙◌}
use mathlib.Core.List.{List, ◌++◌}
use native.Mathlib.Omega.{arith}
use native.Mathlib.Numerals.{add-one}
use borrow.Author.Rules.{rules}
use lib.ListN.{length, take, drop, set, length-set}
use lib.Seq.{take_at, take_all, length-take-le}
use Rattle.table.specs.Steps.{class_bytes}
use Rattle.logic.proofs.Slices.{copy_more}
use Rattle.class_bytes.proofs.Words.{length-class_bytes}
use Rattle.class_bytes.proofs.fill.fill.Given as goal

abbrev pub invariant-loop-i : goal.invariant-loop-i
invariant-loop-i l = (length l.bytes ≡ length l.initial.bytes) × (l.bytes ≡ take l.i (class_bytes l.table) ++ drop l.i l.initial.bytes)
