use Rattle.std.proofs.Common.{◌≡◌, length, arith}
use Rattle.std.proofs.lemmas.Bool.Decides.{nat_tests}
use Rattle.headed_answers.proofs.Ends.{given_empty}
use Rattle.headed_answers.proofs.Options.{or_zero_finishable}
use Rattle.rewritten_form.proofs.Ends.{form-finishable, form_given}
use Rattle.rewritten_form.proofs.answer.Goals as goal

pub returns-then-is_empty : goal.returns-then-is_empty
returns-then-is_empty c = given_empty _ c.args.res.now (grind (arith, nat_tests)) c.finish.ensures

pub finish-requires-2 : goal.finish-requires-2
finish-requires-2 c =
    let some : length c.args.res.now ≡ 0 → ⊥ = λ z. grind (arith, nat_tests) in
    or_zero_finishable _ c.form-n.result
    (form-finishable c.requires c.args.res.now _ some c.form-n.auto.res _ c.form-n.ensures)

pub returns : goal.returns
returns c =
    let some : length c.args.res.now ≡ 0 → ⊥ = λ z. grind (arith, nat_tests) in
    form_given c.requires c.args.res.now _ some c.form-n.auto.res _ c.form-n.ensures _ _ c.finish-2.ensures
