-- The named desk's tally goes to the judge, or one that counts nothing; what comes back is stored where there is such a desk.
use mathlib.Core.Path.{◌≡◌, sym, ap, ◌∙◌}
use mathlib.Core.List.{List}
use lib.ListN.{get_or, set}
use Rattle.tally.specs.declared.Tally.{Tally}
use Rattle.tally.specs.Tallies.{none_judged}
use Rattle.judging.proofs.Tallies.{none_past, tallies_inside, tallies_outside}
use Rattle.desk_judging.proofs.judge.Goals as goal
use Rattle.desk_judging.proofs.judge.Goals.{then-desk-desks, else-desk-desks}

pub returns-then-desk-desks-2 : goal.returns-then-desk-desks-2
returns-then-desk-desks-2 c =
    let ys : List Tally = c.args.tallies.now in
    let here : c.if-desk-desks.tally ≡ get_or ys c.args.desk none_judged =
    elim c.if-desk-desks.branch [ then-desk-desks w ↦ w.tally-is | else-desk-desks w ↦ w.tally-is ∙ w.new-tally.ensures ∙ sym (none_past ys c.args.desk w.if-desk-desks.false) ] in
    let e = rw here at c.judge-called.ensures in
    (e.0, (ap (set ys c.args.desk) e.1.0 ∙ tallies_inside c.args.table.now c.args.samples.now c.args.start c.args.driven c.args.scratch.now ys c.args.desk c.if-desk-desks-2.true, e.1.1))

pub returns-else-desk-desks-2 : goal.returns-else-desk-desks-2
returns-else-desk-desks-2 c =
    let ys : List Tally = c.args.tallies.now in
    let here : c.if-desk-desks.tally ≡ get_or ys c.args.desk none_judged =
    elim c.if-desk-desks.branch [ then-desk-desks w ↦ w.tally-is | else-desk-desks w ↦ w.tally-is ∙ w.new-tally.ensures ∙ sym (none_past ys c.args.desk w.if-desk-desks.false) ] in
    let e = rw here at c.judge-called.ensures in
    (e.0, (tallies_outside _ ys c.args.desk c.if-desk-desks-2.false, e.1.1))
