use Prim.Native.Nat.{ℕ, ◌<◌}
use mathlib.Core.Path.{◌≡◌, refl, ap, ◌∙◌}
use mathlib.Core.List.{List}
use native.Mathlib.Omega.{arith}
use native.Mathlib.Numerals.{add-one}
use lib.ListN.{length, get_or, take, length-set}
use Rattle.logic.specs.Formula.{const}
use mathlib.Core.Bool.{false}
use Rattle.table.specs.Table.{formula_of, formulas, rule}
use Rattle.table.proofs.Formulas.{length-formulas}
use Rattle.typed.specs.Typed.{typed, counted, earlier}
use Rattle.typed.proofs.Counting.{next_counted, more_counted}
use Rattle.typed.proofs.sizes.Goals as goal

pub loop-i-init : goal.loop-i-init
unfolding formula_of typed
loop-i-init c = (refl, refl, refl)

pub loop-i-preserved : goal.loop-i-preserved
unfolding formula_of
loop-i-preserved c =
    let t : List ℕ = c.args.table.now in
    let i : ℕ = c.loop-i.i in
    let below : i < length t = omega arith in
    let here : c.word_bytes-last.result ≡ counted (get_or (formulas t) i (const false)) =
    c.word_bytes-last.ensures ∙ next_counted t c.loop-i.sizes i _ _ below (c.type_inv.table i).fits c.loop-i.invariant.1
    (c.operand-left.ensures ∙ ap (earlier (take i c.loop-i.sizes)) c.left.ensures)
    (c.operand-right.ensures ∙ ap (earlier (take i c.loop-i.sizes)) c.right.ensures) in (
      length-set c.loop-i.sizes i c.word_bytes-last.result ∙ c.loop-i.invariant.0,
      rw (add-one i) (more_counted (formulas t) c.loop-i.sizes i c.word_bytes-last.result (omega (arith, length-formulas t)) (omega (arith, c.requires)) c.loop-i.invariant.1 here),
      rw (add-one i) here,
    )

pub returns : goal.returns
unfolding rule
returns c =
    let e : c.loop-i.i ≡ length c.args.table.now = omega arith in
    rw (← e) c.loop-i.invariant.2
