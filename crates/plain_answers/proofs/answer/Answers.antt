use Rattle.std.proofs.Common.{false, ◌≡◌, ◌-◌, length, arith, length-drop}
use lib.Seq.{length-take-le}
use Rattle.std.proofs.lemmas.Bool.Decides.{nat_tests}
use Rattle.table.specs.Header.{body}
use Rattle.table.proofs.Accepted.{accepted-well-formed}
use Rattle.headed_answers.proofs.Ends.{given_empty}
use Rattle.headed_answers.proofs.Options.{or_zero_finishable}
use Rattle.plain_answers.proofs.Lent.{form-finishable, form_given}
use Rattle.plain_answers.proofs.answer.Goals as goal

pub returns-then-is_empty : goal.returns-then-is_empty
returns-then-is_empty c = given_empty _ c.args.res.now (grind (arith, nat_tests)) c.finish.ensures

pub write-n-requires : goal.write-n-requires
write-n-requires c =
    let words = c.args.words.now in
    record {
      limit = c.requires.limit;
      accepted = c.requires.accepted;
      few = omega (arith, c.requires.small, (accepted-well-formed false c.requires.limit words c.requires.accepted).few);
      lent = omega (arith, c.min-lent.ensures, length-take-le (c.min-lent.result - 1) (body c.args.res.now) (omega (arith, c.min-lent.ensures, length-drop 1 c.args.res.now)));
    }

pub finish-requires-2 : goal.finish-requires-2
finish-requires-2 c =
    let some : length c.args.res.now ≡ 0 → ⊥ = λ z. grind (arith, nat_tests) in
    or_zero_finishable _ c.write-n.result
    (form-finishable c.requires c.args.res.now _ some c.min-lent.ensures c.write-n.auto.res _ c.write-n.ensures)

pub returns : goal.returns
returns c =
    let some : length c.args.res.now ≡ 0 → ⊥ = λ z. grind (arith, nat_tests) in
    form_given c.requires c.args.res.now _ some c.min-lent.ensures c.write-n.auto.res _ c.write-n.ensures c.finish-2.ensures
