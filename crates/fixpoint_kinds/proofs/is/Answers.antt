use native.Mathlib.Omega.{arith}
use borrow.Author.Rules.{rules}
use Rattle.table.proofs.Fields.{kind_lt}
use Rattle.fixpoint_kinds.proofs.Picked.{picked_least, picked-greatest, passed_least, passed_greatest}
use Rattle.fixpoint_kinds.proofs.is.Goals as goal

pub returns-in-8 : goal.returns-in-8
returns-in-8 c = rw c.in-Least.is (picked_least _ c.kind-kind.ensures c.in-8.is)

pub returns-in_default : goal.returns-in_default
returns-in_default c = rw c.in-Least.is (passed_least _ c.kind-kind.ensures (kind_lt _ c.ranges.w.fits) (search rules))

pub returns-in-9 : goal.returns-in-9
returns-in-9 c = rw c.in-Greatest.is (picked-greatest _ c.kind-kind.ensures (omega arith) (omega arith))

pub returns-in_default-matches : goal.returns-in_default-matches
returns-in_default-matches c = rw c.in-Greatest.is (passed_greatest _ c.kind-kind.ensures (kind_lt _ c.ranges.w.fits) (λ z. omega arith) (λ z. omega arith))

pub returns-in_default-matches-2 : goal.returns-in_default-matches-2
returns-in_default-matches-2 c = rw c.in-Greatest.is (passed_greatest _ c.kind-kind.ensures (kind_lt _ c.ranges.w.fits) (λ z. omega arith) (λ z. omega arith))
