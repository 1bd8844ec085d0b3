-- Each arm's law is one of Forms.
use Rattle.std.proofs.Common.{◌<◌, arith}
use Rattle.sample_letters.proofs.Constants.{constant_lt}
use Rattle.after_draft.proofs.Forms.{inside, numbered, plain_at, constant-filled, letter_range, letter-filled, right_unary, next_filled, junction-operands, junction-filled, until_at, release_at, fixpoint-operands, fixpoint-filled}
use Rattle.after_draft.proofs.step_word.Goals as goal
use Rattle.after_draft.proofs.step_word.Goals.{in_default-via-then-kind-lt1, in_default-via-else-kind-lt1+else-kind-lt3+else-kind-lt5+else-kind-lt7+else-kind-lt10}

pub next-requires : goal.next-requires
next-requires c = (inside c.requires, numbered c.requires, (right_unary c.requires c.read-w.ensures c.in-7.is).below)

pub leaf-requires : goal.leaf-requires
leaf-requires c = (inside c.requires, numbered c.requires, omega arith, omega arith, omega arith)

pub reading-requires : goal.reading-requires
reading-requires c = letter_range c.requires c.read-w.ensures (omega arith) (omega arith)

pub leaf-requires-in-3-to-4 : goal.leaf-requires-in-3-to-4
leaf-requires-in-3-to-4 c = (
  inside c.requires,
  numbered c.requires,
  omega arith,
  omega arith,
  rw c.reading.ensures (constant_lt c.args.sample c.read-w.result.kind c.read-w.result.right),
)

pub junction-requires : goal.junction-requires
junction-requires c =
    let o = junction-operands c.requires c.read-w.ensures (omega arith) (omega arith) in
    (inside c.requires, numbered c.requires, omega arith, o.0.below, o.1.below)

pub fixpoint-requires : goal.fixpoint-requires
fixpoint-requires c =
    let o = fixpoint-operands c.requires c.read-w.ensures (until_at _ (omega arith) (omega arith)) in
    (inside c.requires, numbered c.requires, omega arith, omega arith, omega arith, o.0.below, o.1.below)

pub fixpoint-requires-in_default : goal.fixpoint-requires-in_default
fixpoint-requires-in_default c =
    let above : 9 < c.read-w.result.kind =
    elim c.in_default.branch [
      | in_default-via-then-kind-lt1 w ↦ omega arith
      | in_default-via-else-kind-lt1+else-kind-lt3+else-kind-lt5+else-kind-lt7+else-kind-lt10 w ↦ omega arith
    ]
    in
    let o = fixpoint-operands c.requires c.read-w.ensures (release_at _ above (plain_at c.requires c.read-w.ensures)) in
    (inside c.requires, numbered c.requires, omega arith, omega arith, omega arith, o.0.below, o.1.below)

pub returns-in-7 : goal.returns-in-7
returns-in-7 c = rw c.next.ensures (next_filled c.requires c.read-w.ensures c.in-7.is)

pub returns-in-1-to-2 : goal.returns-in-1-to-2
returns-in-1-to-2 c = rw c.leaf.ensures (constant-filled c.requires c.read-w.ensures (omega arith) (omega arith))

pub returns-in-3-to-4 : goal.returns-in-3-to-4
returns-in-3-to-4 c = rw c.leaf-in-3-to-4.ensures (letter-filled c.requires c.read-w.ensures (omega arith) (omega arith) c.reading.ensures)

pub returns-in-5-to-6 : goal.returns-in-5-to-6
returns-in-5-to-6 c = rw c.junction.ensures (junction-filled c.requires c.read-w.ensures (omega arith) (omega arith))

pub returns-in-8-to-9 : goal.returns-in-8-to-9
returns-in-8-to-9 c = rw c.fixpoint.ensures (fixpoint-filled c.requires c.read-w.ensures (until_at _ (omega arith) (omega arith)))

pub returns-in_default : goal.returns-in_default
returns-in_default c =
    let above : 9 < c.read-w.result.kind =
    elim c.in_default.branch [
      | in_default-via-then-kind-lt1 w ↦ omega arith
      | in_default-via-else-kind-lt1+else-kind-lt3+else-kind-lt5+else-kind-lt7+else-kind-lt10 w ↦ omega arith
    ]
    in
    rw c.fixpoint-in_default.ensures (fixpoint-filled c.requires c.read-w.ensures (release_at _ above (plain_at c.requires c.read-w.ensures)))
