-- A word's bytes by its layout: each arm of the match in turn.
use native.Mathlib.Omega.{arith}
use Rattle.table.proofs.Fields.{kind_lt}
use Rattle.typed.proofs.Counting.{bytes_by}
use Rattle.typed.proofs.word_bytes.Goals as goal

pub own-n-requires : goal.own-n-requires
own-n-requires c = rw c.kind-kind.ensures (kind_lt c.args.w (omega arith))

pub layout-requires : goal.layout-requires
layout-requires c = rw c.kind-kind.ensures (kind_lt c.args.w (omega arith))

pub returns-in-Constant : goal.returns-in-Constant
returns-in-Constant c =
    bytes_by _ _ _ _ _ _ _ c.kind-kind.ensures c.layout.ensures c.own-n.ensures.0 (rw c.in-Constant.is (omega (arith, c.own-n.ensures.1)))

pub returns-in-Letter : goal.returns-in-Letter
returns-in-Letter c =
    bytes_by _ _ _ _ _ _ _ c.kind-kind.ensures c.layout.ensures c.own-n.ensures.0
    (rw (c.in-Letter.is, ← c.right.ensures, ← c.digits.ensures.0) (omega (arith, c.own-n.ensures.1, c.digits.ensures.1)))

pub returns-in-Unary : goal.returns-in-Unary
returns-in-Unary c =
    bytes_by _ _ _ _ _ _ _ c.kind-kind.ensures c.layout.ensures c.own-n.ensures.0
    (rw c.in-Unary.is (omega (arith, c.min.ensures, c.min-b.ensures)))

pub returns-in-Binary : goal.returns-in-Binary
returns-in-Binary c =
    bytes_by _ _ _ _ _ _ _ c.kind-kind.ensures c.layout.ensures c.own-n.ensures.0
    (rw c.in-Binary.is (omega (arith, c.min-in-Binary.ensures, c.min-b.ensures, c.min-a.ensures)))
