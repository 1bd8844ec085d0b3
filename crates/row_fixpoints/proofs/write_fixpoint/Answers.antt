-- Whichever way the row is written, what comes in at the end is the value at the loop start.
use mathlib.Core.Path.{sym, ◌∙◌, ap}
use mathlib.Core.Bool.{Bool}
use Prim.Native.Nat.{◌-◌}
use Rattle.logic.specs.Truth.{sweep}
use Rattle.row_words.specs.Row.{row}
use Rattle.row_tests.proofs.Unswept.{full-row}
use Rattle.settled_rows.proofs.Stepped.{settled-row}
use Rattle.row_fixpoints.proofs.write_fixpoint.Goals as goal

pub returns-then-everywhere : goal.returns-then-everywhere
returns-then-everywhere c G P eg ep =
    let L = c.args.positions in
    c.write_constant.ensures ∙ full-row L G P ((c.everywhere.ensures G P eg ep).0 c.if-everywhere.true)
    ∙ ap (λ (b : Bool). row L (λ i. sweep G P b i (L - i))) (sym c.if-end.true ∙ c.value_at-end.ensures G P eg ep)

pub returns-then-settled : goal.returns-then-settled
returns-then-settled c G P eg ep =
    let L = c.args.positions in
    c.write_connective.ensures G P eg ep ∙ settled-row L G P _ ((c.settled.ensures G P eg ep).0 c.if-settled.true)
    ∙ ap (λ (b : Bool). row L (λ i. sweep G P b i (L - i))) (c.value_at-end.ensures G P eg ep)

pub returns : goal.returns
returns c G P eg ep =
    let L = c.args.positions in
    c.sweep_words.ensures G P eg ep
    ∙ ap (λ (b : Bool). row L (λ i. sweep G P b i (L - i))) (c.value_at-end.ensures G P eg ep)
