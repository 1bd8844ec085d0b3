-- The invariant: what all words are refused for is what those from number i + 1 on are, and the first i words are in the index and have their operands marked.
use mathlib.Core.Path.{◌≡◌}
use mathlib.Core.List.{[]}
use lib.ListN.{length, take, drop}
use Rattle.refusals.specs.Refusals.{first}
use Rattle.table.specs.Checks.{words_checks}
use Rattle.faults.specs.Marks.{Kept}
use Rattle.faults.proofs.words.words_fault.Given as goal

abbrev pub invariant-loop-i : goal.invariant-loop-i
invariant-loop-i l = (first (words_checks l.plain [] l.words) ≡ first (words_checks l.plain (take l.i l.words) (drop l.i l.words)))
    × (length l.index ≡ length l.initial.index) × (length l.marks ≡ length l.initial.marks) × Kept (take l.i l.words) l.index l.marks
