-- The limit falls; the whole table first, and then its contents.
use native.Mathlib.Omega.{arith}
use mathlib.Core.Path.{sym, ◌∙◌}
use lib.ListN.{length}
use borrow.Author.Tests.{eqb-false}
use Rattle.faults.proofs.First.{checked-in_order, over_limit, over_all, length-asked, contents-asked}
use Rattle.reading.proofs.+check.Goals as goal

pub returns-then-table-limit : goal.returns-then-table-limit
returns-then-table-limit t c = rw (length-asked _ c.args.limit _ c.if-table-limit.true) c.check.ensures

pub returns-then-is_empty : goal.returns-then-is_empty
returns-then-is_empty t c = rw (checked-in_order, ← c.is_empty.ensures, c.if-is_empty.true)

pub returns-then-limit-table : goal.returns-then-limit-table
returns-then-limit-table t c = rw (checked-in_order, ← c.is_empty.ensures, c.if-is_empty.false, over_limit _ _ c.if-limit-table.true)

pub returns-then-table-le64 : goal.returns-then-table-le64
returns-then-table-le64 t c = rw (contents-asked _ c.args.limit c.args.table.now (eqb-false _ _ (sym c.is_empty.ensures ∙ c.if-is_empty.false)) (omega arith) (omega arith)) c.fault.ensures

pub returns-then-table-le512 : goal.returns-then-table-le512
returns-then-table-le512 t c = rw (contents-asked _ c.args.limit c.args.table.now (eqb-false _ _ (sym c.is_empty.ensures ∙ c.if-is_empty.false)) (omega arith) (omega arith)) c.fault-then-table-le512.ensures

pub returns-then-table-le16383 : goal.returns-then-table-le16383
returns-then-table-le16383 t c = rw (contents-asked _ c.args.limit c.args.table.now (eqb-false _ _ (sym c.is_empty.ensures ∙ c.if-is_empty.false)) (omega arith) (omega arith)) c.fault-then-table-le16383.ensures

pub returns : goal.returns
returns t c = rw (checked-in_order, ← c.is_empty.ensures, c.if-is_empty.false, over_all c.args.limit (length c.args.table.now) (omega arith))
