-- The rows of what is accepted end at a small number, and the last of them is the rule's own.
use mathlib.Core.Path.{refl, sym, ◌∙◌}
use Rattle.judging.proofs.Accepted.{accepted-fillable, accepted-words}
use Rattle.judging.proofs.LastRow.{words_before, last_small}
use Rattle.row_call.proofs.Replied.{reply-told, scratch-told}
use Rattle.row_call.proofs.row.Goals as goal

pub row_reply-requires : goal.row_reply-requires
row_reply-requires c e =
    let accepted = sym c.fill-outcome.ensures.value ∙ e in
    let facts = accepted-fillable _ _ _ _ _ accepted in (
      accepted-words _ _ _ _ _ accepted,
      facts.few,
      last_small _ _ _ _ _ _ facts (words_before c.args.table.now) refl,
    )

pub returns : goal.returns
returns c =
    let e = c.fill-outcome.ensures in
    record {
      row_reply = reply-told c.args.table.now e.value c.row_reply.ensures;
      scratch_after = scratch-told _ _ _ _ _ e.value e.scratch_after;
    }
