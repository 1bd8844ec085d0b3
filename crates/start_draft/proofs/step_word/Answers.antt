use native.Mathlib.Omega.{arith}
use lib.Dec.{T}
use Rattle.source.specs.Source.{WordAt}
use Rattle.automata_laws.specs.FormulaAutomaton.{is_proper}
use Rattle.state_classes.specs.Kept.{word_of}
use Rattle.start_draft.specs.Filling.{Next}
use Rattle.start_draft.proofs.Forms.{inside, numbered, constant-filled, junction-operands, junction-filled, letter_is, later_is, proper-filled}
use Rattle.start_draft.proofs.step_word.Goals as goal
use Rattle.start_draft.proofs.step_word.Goals.{in_default-via-then-kind-lt1, in_default-via-else-kind-lt1+else-kind-lt3+then-kind-lt5, in_default-via-else-kind-lt1+else-kind-lt3+else-kind-lt5+else-kind-lt7}

pub store-requires-in-5-to-6 : goal.store-requires-in-5-to-6
store-requires-in-5-to-6 c =
    let q : Next c.args.words.now c.args.bytes.now c.args.starts.now c.args.draft.now c.args.j = c.requires in
    let word : WordAt c.args.words.now c.args.j c.read-w.result.kind c.read-w.result.left c.read-w.result.right = c.read-w.ensures in
    let o = junction-operands q word (omega arith) (omega arith) in
    (inside q, omega (arith, word.below), omega (arith, o.0.below, numbered q), omega (arith, o.1.below, numbered q))

pub overflow_cast-starts : goal.overflow_cast-starts
overflow_cast-starts c = omega (arith, c.type_inv.starts c.args.j)

pub starting-requires : goal.starting-requires
starting-requires c = omega (arith, c.type_inv.starts c.args.j)

pub states-requires : goal.states-requires
states-requires c =
    let q : Next c.args.words.now c.args.bytes.now c.args.starts.now c.args.draft.now c.args.j = c.requires in
    (inside q, numbered q, c.starting.ensures.1)

pub returns-in-1-to-2 : goal.returns-in-1-to-2
returns-in-1-to-2 c =
    let q : Next c.args.words.now c.args.bytes.now c.args.starts.now c.args.draft.now c.args.j = c.requires in
    let word : WordAt c.args.words.now c.args.j c.read-w.result.kind c.read-w.result.left c.read-w.result.right = c.read-w.ensures in
    rw c.store.ensures.set (constant-filled q word (omega arith) (omega arith))

pub returns-in-5-to-6 : goal.returns-in-5-to-6
returns-in-5-to-6 c =
    let q : Next c.args.words.now c.args.bytes.now c.args.starts.now c.args.draft.now c.args.j = c.requires in
    let word : WordAt c.args.words.now c.args.j c.read-w.result.kind c.read-w.result.left c.read-w.result.right = c.read-w.ensures in
    rw c.store-in-5-to-6.ensures.set (junction-filled q word (omega arith) (omega arith))

pub returns-in_default : goal.returns-in_default
returns-in_default c =
    let q : Next c.args.words.now c.args.bytes.now c.args.starts.now c.args.draft.now c.args.j = c.requires in
    let word : WordAt c.args.words.now c.args.j c.read-w.result.kind c.read-w.result.left c.read-w.result.right = c.read-w.ensures in
    let proper : T (is_proper (word_of c.args.words.now c.args.j)) =
    elim c.in_default.branch [ in_default-via-then-kind-lt1 w ↦ absurd (omega (arith, word.positive)) | in_default-via-else-kind-lt1+else-kind-lt3+then-kind-lt5 w ↦ letter_is q word (omega arith) (omega arith) | in_default-via-else-kind-lt1+else-kind-lt3+else-kind-lt5+else-kind-lt7 w ↦ later_is q word (omega arith) ] in
    rw c.states.ensures (proper-filled q word proper c.starting.ensures.0)
