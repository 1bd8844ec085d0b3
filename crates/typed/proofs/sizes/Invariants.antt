-- The invariant: the counts so far are those of the words, and the last of them is kept.
use mathlib.Core.Path.{◌≡◌}
use mathlib.Core.List.{map}
use lib.ListN.{length, take}
use Rattle.table.specs.Table.{formula_of, formulas}
use Rattle.typed.specs.Typed.{counted}
use Rattle.typed.proofs.sizes.Given as goal

abbrev pub invariant-loop-i : goal.invariant-loop-i
invariant-loop-i l = (length l.sizes ≡ length l.initial.sizes)
    × (take l.i l.sizes ≡ map counted (take l.i (formulas l.table))) × (l.last ≡ counted (formula_of (formulas l.table) l.i))
