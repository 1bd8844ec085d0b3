use mathlib.Core.Path.{ap, ◌∙◌}
use Rattle.refusals.specs.Refusals.{outcome_number, outcome_place}
use borrow.Author.Rules.{rules}
use Rattle.table_calls.proofs.classify.Goals as goal

pub returns : goal.returns
returns c =
    let e = c.classify.ensures in
    record { value = c.reply.ensures.value ∙ ap outcome_number e.value; place_after = c.reply.ensures.place_after ∙ ap outcome_place e.value; bytes_after = e.bytes_after }
