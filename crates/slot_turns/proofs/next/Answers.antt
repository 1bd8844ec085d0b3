-- What is answered is the turn of the slot, by the count of its operands and the numbers that they have.
use Rattle.std.proofs.Common.{ℕ, ◌≡◌, ◌<◌, get_or, sym, ap, ap₂, ◌∙◌, arith}
use Rattle.table.specs.Node.{shape, pack}
use Rattle.slots.specs.Slot.{kind, left, right}
use Rattle.slot_turns.specs.Turn.{arity}
use Rattle.slot_turns.specs.declared.Turn.TheVariants.{Operand, Word}
use Rattle.slot_turns.proofs.Turns.{leaf-word, unary-operand, unary-word, left_operand, right_operand, binary-word}
use Rattle.slot_turns.proofs.next.Goals as goal

pub returns-in-0 : goal.returns-in-0
returns-in-0 c =
    let counted : arity (shape (kind c.args.s)) ≡ c.operands.result = cc in
    ap Word (c.pack.ensures ∙ ap₂ (λ (k r : ℕ). pack k 0 r) c.kind-kind.ensures c.right-right.ensures)
    ∙ sym (leaf-word c.args.s c.args.numbers.now (counted ∙ c.in-0.is))

pub returns-then-n-ne0 : goal.returns-then-n-ne0
returns-then-n-ne0 c =
    let counted : arity (shape (kind c.args.s)) ≡ c.operands.result = cc in
    let n : c.number_of-n.result ≡ get_or c.args.numbers.now (right c.args.s) 0 = cc in
    ap Word (c.pack-then-n-ne0.ensures ∙ ap₂ (λ (k b : ℕ). pack k 0 b) c.kind-kind.ensures n)
    ∙ sym (unary-word c.args.s c.args.numbers.now (counted ∙ c.in-1.is) (λ e. c.if-n-ne0.true (n ∙ e)))

pub returns-else-n-ne0 : goal.returns-else-n-ne0
returns-else-n-ne0 c =
    let counted : arity (shape (kind c.args.s)) ≡ c.operands.result = cc in
    let n : c.number_of-n.result ≡ get_or c.args.numbers.now (right c.args.s) 0 = cc in
    ap Operand c.right-right.ensures ∙ sym (unary-operand c.args.s c.args.numbers.now (counted ∙ c.in-1.is) (sym n ∙ c.if-n-ne0.false))

pub returns-then-a-eq0 : goal.returns-then-a-eq0
returns-then-a-eq0 c =
    let counted : arity (shape (kind c.args.s)) ≡ c.operands.result = cc in
    let two : 1 < arity (shape (kind c.args.s)) = omega arith in
    let a : c.number_of-a.result ≡ get_or c.args.numbers.now (left c.args.s) 0 = cc in
    ap Operand c.left-left.ensures ∙ sym (left_operand c.args.s c.args.numbers.now two (sym a ∙ c.if-a-eq0.true))

pub returns-then-b-eq0 : goal.returns-then-b-eq0
returns-then-b-eq0 c =
    let counted : arity (shape (kind c.args.s)) ≡ c.operands.result = cc in
    let two : 1 < arity (shape (kind c.args.s)) = omega arith in
    let a : c.number_of-a.result ≡ get_or c.args.numbers.now (left c.args.s) 0 = cc in
    let b : c.number_of-b.result ≡ get_or c.args.numbers.now (right c.args.s) 0 = cc in
    ap Operand c.right-right.ensures
    ∙ sym (right_operand c.args.s c.args.numbers.now two (λ e. c.if-a-eq0.false (a ∙ e)) (sym b ∙ c.if-b-eq0.true))

pub returns-else-b-eq0 : goal.returns-else-b-eq0
returns-else-b-eq0 c =
    let counted : arity (shape (kind c.args.s)) ≡ c.operands.result = cc in
    let two : 1 < arity (shape (kind c.args.s)) = omega arith in
    let a : c.number_of-a.result ≡ get_or c.args.numbers.now (left c.args.s) 0 = cc in
    let b : c.number_of-b.result ≡ get_or c.args.numbers.now (right c.args.s) 0 = cc in
    ap Word (c.pack-in_default.ensures ∙ ap (λ (k : ℕ). pack k c.number_of-a.result c.number_of-b.result) c.kind-kind.ensures ∙ ap₂ (pack (kind c.args.s)) a b)
    ∙ sym (binary-word c.args.s c.args.numbers.now two (λ e. c.if-a-eq0.false (a ∙ e)) (λ e. c.if-b-eq0.false (b ∙ e)))
