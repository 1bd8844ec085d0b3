-- Each answer is read off the row, and the tally after it by the first of them.
use borrow.Author.Rules.{rules}
use mathlib.Core.Path.{ap, ◌∙◌}
use Rattle.judging.proofs.LastRow.{judged_is}
use Rattle.tally.specs.Tallies.{tally_after}
use Rattle.row_answers.proofs.read_answer.Goals as goal

pub returns : goal.returns
returns c f h =
    let holds = c.holds_at-holds.ensures _ f h (search rules) in (
      judged_is f _ _ _ _ holds (c.count_held.ensures _ f h) (c.first_failing.ensures f h),
      c.after.ensures ∙ ap (tally_after c.args.tally) holds,
    )
