use borrow.Author.Rules.{rules}
use Rattle.form_calls.proofs.normal.Goals as goal

pub returns : goal.returns
returns c =
    let e = c.form.ensures in
    record { form_reply = rw e.value at c.form_reply.ensures; res_after = e.res_after }
