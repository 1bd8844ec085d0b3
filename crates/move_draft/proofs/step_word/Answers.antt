use Prim.Native.Nat.{◌+◌, ◌-◌, ◌*◌, ◌<◌, ◌≤◌}
use native.Mathlib.Omega.{arith}
use lib.ListN.{length, get_or}
use Rattle.logic.specs.Formula.{conj, disj}
use Rattle.table.specs.Node.{shape}
use Rattle.source.specs.Source.{WordAt}
use Rattle.word_states.specs.States.{Moving}
use Rattle.sample_letters.proofs.Constants.{constant_lt}
use Rattle.move_draft.specs.Filling.{Next}
use Rattle.move_draft.proofs.Moves.{Fixpoint, until_at, release_at}
use Rattle.move_draft.proofs.Forms.{inside, numbered, plain_at, constant-filled, letter_range, letter-filled, right_unary, next_filled, junction-operands, junction-filled, fixpoint-operands, fixpoint-filled}
use Rattle.move_draft.proofs.step_word.Goals as goal
use Rattle.move_draft.proofs.step_word.Goals.{in_default-via-then-kind-lt1, in_default-via-else-kind-lt1+else-kind-lt3+else-kind-lt5+else-kind-lt7+else-kind-lt10}

pub overflow_cast-starts : goal.overflow_cast-starts
overflow_cast-starts c = omega (arith, c.type_inv.starts c.args.j)

pub moving-h-requires : goal.moving-h-requires
moving-h-requires c = omega (arith, c.type_inv.starts c.args.j)

pub next-requires : goal.next-requires
next-requires c =
    let q : Next c.args.sample c.args.upper c.args.words.now c.args.bytes.now c.args.starts.now c.args.draft.now c.args.j = c.requires in
    let word : WordAt c.args.words.now c.args.j c.read-w.result.kind c.read-w.result.left c.read-w.result.right = c.read-w.ensures in
    let slots : 7 * c.args.j + 6 < length c.args.draft.now = inside q in
    let small : c.args.j < 16384 = numbered q in
    (slots, small, c.moving-h.ensures.1, (right_unary q word c.in-7.is).below)

pub constant-requires : goal.constant-requires
constant-requires c =
    let q : Next c.args.sample c.args.upper c.args.words.now c.args.bytes.now c.args.starts.now c.args.draft.now c.args.j = c.requires in
    let word : WordAt c.args.words.now c.args.j c.read-w.result.kind c.read-w.result.left c.read-w.result.right = c.read-w.ensures in
    let slots : 7 * c.args.j + 6 < length c.args.draft.now = inside q in
    let small : c.args.j < 16384 = numbered q in
    (slots, small, omega (arith, word.below))

pub reading-requires : goal.reading-requires
reading-requires c =
    let q : Next c.args.sample c.args.upper c.args.words.now c.args.bytes.now c.args.starts.now c.args.draft.now c.args.j = c.requires in
    let word : WordAt c.args.words.now c.args.j c.read-w.result.kind c.read-w.result.left c.read-w.result.right = c.read-w.ensures in
    letter_range q word (omega arith) (omega arith)

pub letter-requires : goal.letter-requires
letter-requires c =
    let q : Next c.args.sample c.args.upper c.args.words.now c.args.bytes.now c.args.starts.now c.args.draft.now c.args.j = c.requires in
    let slots : 7 * c.args.j + 6 < length c.args.draft.now = inside q in
    let small : c.args.j < 16384 = numbered q in
    (slots, small, c.moving-h.ensures.1, rw c.reading.ensures (constant_lt _ c.read-w.result.kind c.read-w.result.right))

pub junction-requires : goal.junction-requires
junction-requires c =
    let q : Next c.args.sample c.args.upper c.args.words.now c.args.bytes.now c.args.starts.now c.args.draft.now c.args.j = c.requires in
    let word : WordAt c.args.words.now c.args.j c.read-w.result.kind c.read-w.result.left c.read-w.result.right = c.read-w.ensures in
    let slots : 7 * c.args.j + 6 < length c.args.draft.now = inside q in
    let small : c.args.j < 16384 = numbered q in
    let o = junction-operands q word (omega arith) (omega arith) in
    (slots, small, omega (arith, word.below), o.0.below, o.1.below)

pub fixpoint-requires : goal.fixpoint-requires
fixpoint-requires c =
    let q : Next c.args.sample c.args.upper c.args.words.now c.args.bytes.now c.args.starts.now c.args.draft.now c.args.j = c.requires in
    let word : WordAt c.args.words.now c.args.j c.read-w.result.kind c.read-w.result.left c.read-w.result.right = c.read-w.ensures in
    let told : Moving (get_or c.args.bytes.now (c.args.j - 1) 0) (get_or c.args.starts.now c.args.j 0) c.args.upper c.moving-h.result = c.moving-h.ensures.0 in
    let slots : 7 * c.args.j + 6 < length c.args.draft.now = inside q in
    let small : c.args.j < 16384 = numbered q in
    let until_like : Fixpoint conj disj (shape c.read-w.result.kind) = until_at _ (omega arith) (omega arith) in
    let o = fixpoint-operands q word told until_like in
    (slots, small, c.moving-h.ensures.1, omega arith, omega arith, o.0.below, o.1.below)

pub fixpoint-requires-in_default : goal.fixpoint-requires-in_default
fixpoint-requires-in_default c =
    let q : Next c.args.sample c.args.upper c.args.words.now c.args.bytes.now c.args.starts.now c.args.draft.now c.args.j = c.requires in
    let word : WordAt c.args.words.now c.args.j c.read-w.result.kind c.read-w.result.left c.read-w.result.right = c.read-w.ensures in
    let told : Moving (get_or c.args.bytes.now (c.args.j - 1) 0) (get_or c.args.starts.now c.args.j 0) c.args.upper c.moving-h.result = c.moving-h.ensures.0 in
    let slots : 7 * c.args.j + 6 < length c.args.draft.now = inside q in
    let small : c.args.j < 16384 = numbered q in
    let ten : 10 ≤ c.read-w.result.kind = elim c.in_default.branch [ in_default-via-then-kind-lt1 w ↦ absurd (omega (arith, word.positive)) | in_default-via-else-kind-lt1+else-kind-lt3+else-kind-lt5+else-kind-lt7+else-kind-lt10 w ↦ omega arith ] in
    let release-like : Fixpoint disj conj (shape c.read-w.result.kind) = release_at _ ten (plain_at q word) in
    let o = fixpoint-operands q word told release-like in
    (slots, small, c.moving-h.ensures.1, omega arith, omega arith, o.0.below, o.1.below)

pub returns-in-7 : goal.returns-in-7
returns-in-7 c =
    let q : Next c.args.sample c.args.upper c.args.words.now c.args.bytes.now c.args.starts.now c.args.draft.now c.args.j = c.requires in
    let word : WordAt c.args.words.now c.args.j c.read-w.result.kind c.read-w.result.left c.read-w.result.right = c.read-w.ensures in
    let told : Moving (get_or c.args.bytes.now (c.args.j - 1) 0) (get_or c.args.starts.now c.args.j 0) c.args.upper c.moving-h.result = c.moving-h.ensures.0 in
    rw c.next.ensures (next_filled q word told c.in-7.is)

pub returns-in-1-to-2 : goal.returns-in-1-to-2
returns-in-1-to-2 c =
    let q : Next c.args.sample c.args.upper c.args.words.now c.args.bytes.now c.args.starts.now c.args.draft.now c.args.j = c.requires in
    let word : WordAt c.args.words.now c.args.j c.read-w.result.kind c.read-w.result.left c.read-w.result.right = c.read-w.ensures in
    rw c.constant.ensures (constant-filled q word (omega arith) (omega arith))

pub returns-in-3-to-4 : goal.returns-in-3-to-4
returns-in-3-to-4 c =
    let q : Next c.args.sample c.args.upper c.args.words.now c.args.bytes.now c.args.starts.now c.args.draft.now c.args.j = c.requires in
    let word : WordAt c.args.words.now c.args.j c.read-w.result.kind c.read-w.result.left c.read-w.result.right = c.read-w.ensures in
    let told : Moving (get_or c.args.bytes.now (c.args.j - 1) 0) (get_or c.args.starts.now c.args.j 0) c.args.upper c.moving-h.result = c.moving-h.ensures.0 in
    rw c.letter.ensures (letter-filled q word told (omega arith) (omega arith) c.reading.ensures)

pub returns-in-5-to-6 : goal.returns-in-5-to-6
returns-in-5-to-6 c =
    let q : Next c.args.sample c.args.upper c.args.words.now c.args.bytes.now c.args.starts.now c.args.draft.now c.args.j = c.requires in
    let word : WordAt c.args.words.now c.args.j c.read-w.result.kind c.read-w.result.left c.read-w.result.right = c.read-w.ensures in
    rw c.junction.ensures (junction-filled q word (omega arith) (omega arith))

pub returns-in-8-to-9 : goal.returns-in-8-to-9
returns-in-8-to-9 c =
    let q : Next c.args.sample c.args.upper c.args.words.now c.args.bytes.now c.args.starts.now c.args.draft.now c.args.j = c.requires in
    let word : WordAt c.args.words.now c.args.j c.read-w.result.kind c.read-w.result.left c.read-w.result.right = c.read-w.ensures in
    let told : Moving (get_or c.args.bytes.now (c.args.j - 1) 0) (get_or c.args.starts.now c.args.j 0) c.args.upper c.moving-h.result = c.moving-h.ensures.0 in
    let until_like : Fixpoint conj disj (shape c.read-w.result.kind) = until_at _ (omega arith) (omega arith) in
    rw c.fixpoint.ensures (fixpoint-filled q word told until_like)

pub returns-in_default : goal.returns-in_default
returns-in_default c =
    let q : Next c.args.sample c.args.upper c.args.words.now c.args.bytes.now c.args.starts.now c.args.draft.now c.args.j = c.requires in
    let word : WordAt c.args.words.now c.args.j c.read-w.result.kind c.read-w.result.left c.read-w.result.right = c.read-w.ensures in
    let told : Moving (get_or c.args.bytes.now (c.args.j - 1) 0) (get_or c.args.starts.now c.args.j 0) c.args.upper c.moving-h.result = c.moving-h.ensures.0 in
    let ten : 10 ≤ c.read-w.result.kind = elim c.in_default.branch [ in_default-via-then-kind-lt1 w ↦ absurd (omega (arith, word.positive)) | in_default-via-else-kind-lt1+else-kind-lt3+else-kind-lt5+else-kind-lt7+else-kind-lt10 w ↦ omega arith ] in
    let release-like : Fixpoint disj conj (shape c.read-w.result.kind) =
    release_at _ ten (plain_at q word) in
    rw c.fixpoint-in_default.ensures (fixpoint-filled q word told release-like)
