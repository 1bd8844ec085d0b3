-- The loop's invariant: the rows of the words passed stand at the start of the scratch, and past them its own words.
use Prim.Native.Nat.{ℕ, ◌-◌, ◌≤◌}
use lib.ListN.{length, take}
use mathlib.Core.Path.{◌≡◌}
use Rattle.table_rows.specs.Rows.{lasso_of, rows_then}
use Rattle.table.specs.Table.{formulas}
use Rattle.row_filling.proofs.fill_rows.Given as goal

abbrev pub invariant-each : goal.invariant-each
invariant-each l = ((driven : ℕ) → driven ≤ 32 → l.scratch ≡ rows_then (lasso_of l.samples l.start driven) (take l.j (formulas l.table)) l.initial.scratch)
    × (length l.a ≡ 64) × (length l.b ≡ 64)
