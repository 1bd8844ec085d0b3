-- A desk without a tally is refused, and then a full tally.
use borrow.Author.Tests.{le-leb, lt-leb}
use mathlib.Core.Path.{sym, ◌∙◌}
use Rattle.judge_conditions.specs.Checks.{desk_checks}
use Rattle.lent_checks.proofs.check_desk.Goals as goal

pub returns-then-desk : goal.returns-then-desk
unfolding desk_checks
returns-then-desk c = simp (le-leb _ _ c.if-desk.true)

pub returns-then-full : goal.returns-then-full
unfolding desk_checks
returns-then-full c = simp (lt-leb _ _ c.if-desk.false, sym c.full.ensures ∙ c.if-full.true)

pub returns : goal.returns
unfolding desk_checks
returns c = simp (lt-leb _ _ c.if-desk.false, sym c.full.ensures ∙ c.if-full.false)
