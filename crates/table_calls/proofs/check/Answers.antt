use mathlib.Core.Path.{ap, ◌∙◌}
use Rattle.refusals.specs.Refusals.{outcome_number, outcome_place}
use borrow.Author.Rules.{rules}
use Rattle.table_calls.proofs.check.Goals as goal

pub returns : goal.returns
returns c =
    let e = c.check.ensures in
    record { value = c.reply.ensures.value ∙ ap outcome_number e; place_after = c.reply.ensures.place_after ∙ ap outcome_place e }
