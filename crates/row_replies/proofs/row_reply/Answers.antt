-- The rule's own row is the last of the rows that the row call writes.
use Prim.Native.Nat.{ℕ, ◌+◌, ◌-◌, ◌*◌, ◌≤◌}
use mathlib.Core.Path.{◌≡◌}
use native.Mathlib.Omega.{arith}
use Rattle.judge_replies.specs.Replies.{row_from, row_length}
use Rattle.row_replies.proofs.Replied.{row-accepted, row-refused}
use Rattle.row_replies.proofs.row_reply.Goals as goal
use Rattle.row_replies.proofs.row_reply.Goals.{in-Err, in-Ok}

-- the place of a row in a part that ends at a small number
place-small : (n : ℕ) {words w : ℕ} → words ≡ w → n * w + w ≤ 1048576 → n * words ≤ 1048576
place-small n e h = rw e (omega arith)

pub row_words-width-requires : goal.row_words-width-requires
row_words-width-requires c = (c.requires c.in-Ok.is).1

pub overflow_sub-from : goal.overflow_sub-from
overflow_sub-from c = omega (arith, (c.requires c.in-Ok.is).0)

pub overflow_mul-from : goal.overflow_mul-from
overflow_mul-from c = omega (arith, place-small _ c.row_words-width.ensures (c.requires c.in-Ok.is).2)

pub returns : goal.returns
returns c =
    let a = c.args in
    let part : (c.match-outcome.from ≡ row_from a.outcome (a.table - 1) a.samples) × (c.match-outcome.words ≡ row_length a.outcome a.samples) =
    elim c.match-outcome.branch [
      | in-Err w ↦ row-refused _ _ w.in-Err.is w.from-is w.words-is
      | in-Ok w ↦ row-accepted a.table _ w.in-Ok.is w.row_words-width.ensures w.from-is w.words-is
    ] in
    record { is_number = c.reply.ensures.value; is_from = part.0; is_words = part.1; is_place = c.reply.ensures.place_after }
