-- A slice without a word is 12; otherwise the conversion is written after the place of its header.
use Rattle.std.proofs.Common.{◌≡◌, length, arith}
use Rattle.std.proofs.lemmas.Bool.Decides.{nat_tests}
use Rattle.headed_answers.proofs.Ends.{given_empty}
use Rattle.headed_answers.proofs.Options.{or_zero_finishable, option_finishable, option_given}
use Rattle.table.specs.Steps.{dialect_table}
use Rattle.dialect_laws.proofs.Promise.{dialect-accepted}
use Rattle.dialect_answers.proofs.answer.Goals as goal

pub returns-then-is_empty : goal.returns-then-is_empty
returns-then-is_empty c = given_empty _ c.args.res.now (grind (arith, nat_tests)) c.finish.ensures

pub finish-requires-2 : goal.finish-requires-2
finish-requires-2 c =
    let some : length c.args.res.now ≡ 0 → ⊥ = λ z. grind (arith, nat_tests) in
    or_zero_finishable _ c.write-n.result
    (option_finishable (dialect_table c.args.words.now) c.args.res.now _ (dialect-accepted c.args.words.now c.requires) some c.write-n.auto.res _ c.write-n.ensures)

pub returns : goal.returns
returns c =
    let some : length c.args.res.now ≡ 0 → ⊥ = λ z. grind (arith, nat_tests) in
    option_given (dialect_table c.args.words.now) c.args.res.now _ (dialect-accepted c.args.words.now c.requires) some c.write-n.auto.res _ c.write-n.ensures c.finish-2.ensures
