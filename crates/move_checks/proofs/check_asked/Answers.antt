-- 6 of the state, or the checks of the sample.
use borrow.Author.Rules.{rules}
use native.Mathlib.Omega.{arith}
use mathlib.Core.Path.{◌∙◌}
use Rattle.move_checks.proofs.Left.{left_state, left_sample}
use Rattle.move_checks.proofs.check_asked.Goals as goal

pub returns-then-total-state : goal.returns-then-total-state
returns-then-total-state c =
    left_state c.args.words.now c.args.state c.args.driven (omega (arith, c.requires, c.if-total-state.true))

pub returns : goal.returns
returns c =
    c.check_sample.ensures ∙ left_sample c.args.words.now c.args.state c.args.driven (omega (arith, c.requires, c.if-total-state.false))
