use Prim.Native.Nat.{◌+◌, ◌-◌}
use native.Mathlib.Omega.{arith}
use mathlib.Core.Path.{◌≡◌, refl, sym, ◌∙◌}
use Rattle.table.proofs.Fields.{kind_lt}
use Rattle.placing.specs.State.{state}
use Rattle.settling.proofs.Settling.{settling_none, settling_more, settling_stop, settling_empty, put_any}
use Rattle.settling.proofs.settle.Goals as goal

pub loop-top-init : goal.loop-top-init
loop-top-init c = (refl, refl, settling_none _ _ _ _ c.requires.room c.requires.n_bound)

pub bounds-stack-top : goal.bounds-stack-top
bounds-stack-top c = omega (arith, c.requires.room.long, c.requires.room.room, c.loop-top.invariant.2.shallow)

pub returns-then-not-is_prefix : goal.returns-then-not-is_prefix
returns-then-not-is_prefix c =
    let top : c.loop-top.top - 1 + 1 ≡ c.loop-top.top = omega arith in
    rw top
    (settling_stop _ _ _ _ _ _ _ c.loop-top.invariant.2 c.loop-top-test.true _ c.kind-kind.ensures
    (sym c.if-not-is_prefix.true ∙ c.is_prefix.ensures))

pub pack-w-requires : goal.pack-w-requires
pack-w-requires c =
    let e = c.type_inv.stack (c.loop-top.top - 1) in
    (omega (arith, c.kind-kind.ensures, kind_lt _ e.fits), omega arith, omega (arith, c.loop-top.invariant.2.small))

pub put-requires : goal.put-requires
put-requires c = c.loop-top.invariant.2.numbered

pub loop-top-preserved : goal.loop-top-preserved
loop-top-preserved c =
    let inv = c.loop-top.invariant in
    let before = state c.loop-top.out c.loop-top.index in
    let after = state c.put.new.out c.put.new.index in (
      omega arith,
      omega arith,
      settling_more _ _ _ _ _ _ _ inv.2 c.loop-top-test.true c.requires.room.room after _ _ _
          c.kind-kind.ensures c.pack-w.ensures (sym c.if-not-is_prefix.false ∙ c.is_prefix.ensures)
          (put_any before after c.pack-w.result c.put.result c.unwrap_or-number.result c.unwrap_or-number.ensures c.put.ensures),
    )

pub returns : goal.returns
returns c = settling_empty _ _ _ _ _ _ _ c.loop-top.invariant.2 c.loop-top-test.false
