use borrow.Author.Rules.{rules}
use Rattle.text_call.proofs.text.Goals as goal

pub returns : goal.returns
returns c =
    let e = c.read.ensures in
    record { table_reply = rw e.value at c.table_reply.ensures; res_after = e.res_after }
