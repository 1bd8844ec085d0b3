use Rattle.std.proofs.Common.{arith}
use Rattle.std.proofs.lemmas.Result.{err_from_is_err_and}
use Rattle.rewritten_form.proofs.Ends.{past_refused, all_passed, given_made, given_refused}
use Rattle.rewritten_form.proofs.rewrite.Goals as goal

pub returns-in-Some : goal.returns-in-Some
returns-in-Some c = past_refused c.requires c.args.res.now c.in-Some.ensures.1 c.in-Some.ensures.0

pub answer-requires : goal.answer-requires
answer-requires c = all_passed c.requires c.args.res.now c.in_default.ensures (omega arith)

pub returns-in_err-answer : goal.returns-in_err-answer
returns-in_err-answer c =
    let p = err_from_is_err_and c.from_residual.result c.from_residual.ensures.1 in
    rw (p.1, p.2) (given_refused c.requires c.args.res.now c.in_default.ensures (omega arith) c.in_err-answer.was c.answer.ensures)

pub returns : goal.returns
returns c = given_made c.requires c.args.res.now c.in_default.ensures (omega arith) c.in_ok-answer.was c.answer.ensures
