-- The answer in lent numbers is the reply's, and so are the tally and the scratch.
use mathlib.Core.Path.{ap}
use Rattle.judging.specs.declared.answer.Judged.{Judged}
use Rattle.judge_calls.proofs.Replied.{judge_replied}
use Rattle.judge_calls.proofs.judge.Goals as goal

pub returns : goal.returns
returns c =
    let e = c.judge-judged.ensures in
    (judge_replied (ap (λ (j : Judged). j.answer) e.value) c.judge_reply.ensures, (ap (λ (j : Judged). j.tally) e.value, e.scratch_after))
