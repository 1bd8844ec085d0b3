-- Nothing open, a bracket or a prefix on top, or an operator that has its left operand.
use Prim.Native.Nat.{◌-◌, ◌<◌}
use native.Mathlib.Omega.{arith}
use lib.ListN.{get_or}
use mathlib.Core.Path.{sym, ◌∙◌}
use Rattle.table.proofs.Fields.{kind_lt, left_lt}
use Rattle.turns.proofs.Making.{stuck-makes, end_makes, close-empty, close-bracket_only, close-prefix, close_made}
use Rattle.turns.proofs.close.Goals as goal

pub returns-then-depth-eq0 : goal.returns-then-depth-eq0
returns-then-depth-eq0 c = stuck-makes _ _ _ c.requires.room.numbered c.stuck.ensures (close-empty _ _ _ _ c.if-depth-eq0.true)

pub returns-then-e-eq0 : goal.returns-then-e-eq0
returns-then-e-eq0 c =
    let deep : 0 < c.args.depth = omega (arith, c.if-depth-eq0.false) in
    stuck-makes _ _ _ c.requires.room.numbered c.stuck-then-e-eq0.ensures (close-bracket_only _ _ _ _ deep c.if-e-eq0.true)

pub returns-then-is_prefix : goal.returns-then-is_prefix
returns-then-is_prefix c =
    let deep : 0 < c.args.depth = omega (arith, c.if-depth-eq0.false) in
    stuck-makes _ _ _ c.requires.room.numbered c.stuck-then-is_prefix.ensures
    (close-prefix _ _ _ _ deep c.if-e-eq0.false _ c.kind-kind.ensures (sym c.if-is_prefix.true ∙ c.is_prefix.ensures))

pub pack-requires : goal.pack-requires
pack-requires c =
    let e = c.type_inv.stack (c.args.depth - 1) in
    let k : c.kind-kind.result < 16 = omega (arith, c.kind-kind.ensures, kind_lt _ e.fits) in
    let l : c.left.result < 16384 = omega (arith, c.left.ensures, left_lt (get_or c.args.stack.now (c.args.depth - 1) 0)) in
    let n : c.args.n < 16384 = omega (arith, c.requires.n_bound) in
    (omega arith, omega arith, omega arith)

pub end-o-requires : goal.end-o-requires
end-o-requires c =
    let pre = c.requires in
    record { numbered = pre.room.numbered; long = pre.room.long; wide = pre.room.wide; room = omega (arith, pre.room.room, c.if-depth-eq0.false) }

pub returns : goal.returns
returns c =
    let deep : 0 < c.args.depth = omega (arith, c.if-depth-eq0.false) in
    end_makes 0 c.end-o.ensures
    (close_made _ _ _ _ deep c.if-e-eq0.false _ c.kind-kind.ensures (sym c.if-is_prefix.false ∙ c.is_prefix.ensures) _ _
    c.left.ensures c.pack.ensures)
