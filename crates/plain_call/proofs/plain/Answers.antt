use borrow.Author.Rules.{rules}
use Rattle.plain_call.proofs.plain.Goals as goal

pub returns : goal.returns
returns c =
    let e = c.plain_form.ensures in
    record { table_reply = rw e.value at c.table_reply.ensures; res_after = e.res_after }
