use borrow.Author.Rules.{rules}
use Rattle.step_calls.proofs.after.Goals as goal

pub returns : goal.returns
returns c =
    let e = c.step.ensures in
    record { table_reply = rw e.value at c.table_reply.ensures; res_after = e.res_after }
