use borrow.Author.Rules.{rules}
use Rattle.form_calls.proofs.form.Goals as goal

pub returns : goal.returns
returns c =
    let e = c.form.ensures in
    record { form_reply = rw e.answer at c.form_reply.ensures; plain_after = e.plain_slice; res_after = e.form_slice }
