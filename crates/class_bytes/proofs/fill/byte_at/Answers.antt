-- An operand's byte stands in its place, since a word's operands are earlier words.
use native.Mathlib.Omega.{arith}
use Prim.Native.Nat.{ℕ, ◌-◌}
use mathlib.Core.Path.{refl, ap, ap₂, ◌∙◌}
use lib.ListN.{get_or}
use Rattle.logic.specs.ClassStep.{next_byte}
use Rattle.table.specs.Node.{kind, shape}
use Rattle.plain_kinds.specs.declared.PlainKind.TheVariants as kinds
use Rattle.plain_kinds.specs.PlainKind.{operator_byte, Stands}
use Rattle.class_bytes.proofs.Words.{left_operand, right_operand, byte-by_kind}
use borrow.Author.Rules.{rules}
use Rattle.class_bytes.proofs.fill.byte_at.Goals as goal

pub of-requires : goal.of-requires
of-requires c = let w = c.requires.0 _ c.requires.1 in rw c.kind.ensures (w.kinded, w.plain)

pub operand-requires : goal.operand-requires
operand-requires c =
    let found : Stands (shape (kind (get_or c.args.table.now c.args.j 0))) c.of.result = rw c.kind.ensures at c.of.ensures in
    let stands = rw c.in-Next.is at (found) in
    rw c.right.ensures (right_operand _ _ _ c.requires.0 c.requires.1 c.requires.2 stands refl)

pub operand-requires-in-Binary : goal.operand-requires-in-Binary
operand-requires-in-Binary c =
    let found : Stands (shape (kind (get_or c.args.table.now c.args.j 0))) c.of.result = rw c.kind.ensures at c.of.ensures in
    let stands = rw c.in-Binary.is at (found) in
    rw c.left.ensures (left_operand _ _ _ c.requires.0 c.requires.1 c.requires.2 stands refl)

pub operand-requires-in-Binary-2 : goal.operand-requires-in-Binary-2
operand-requires-in-Binary-2 c =
    let found : Stands (shape (kind (get_or c.args.table.now c.args.j 0))) c.of.result = rw c.kind.ensures at c.of.ensures in
    let stands = rw c.in-Binary.is at (found) in
    rw c.right-in-Binary.ensures (right_operand _ _ _ c.requires.0 c.requires.1 c.requires.2 stands refl)

pub returns-in-Atomic : goal.returns-in-Atomic
returns-in-Atomic c =
    let found : Stands (shape (kind (get_or c.args.table.now c.args.j 0))) c.of.result = rw c.kind.ensures at c.of.ensures in
    byte-by_kind _ _ _ c.requires.0 c.requires.1 c.requires.2 kinds.Atomic (rw c.in-Atomic.is at (found))

pub returns-in-Next : goal.returns-in-Next
returns-in-Next c =
    let found : Stands (shape (kind (get_or c.args.table.now c.args.j 0))) c.of.result = rw c.kind.ensures at c.of.ensures in
    c.next.ensures
    ∙ ap next_byte (c.operand.ensures ∙ ap (λ (n : ℕ). get_or c.args.bytes.now (n - 1) 0) c.right.ensures)
    ∙ byte-by_kind _ _ _ c.requires.0 c.requires.1 c.requires.2 kinds.Next (rw c.in-Next.is at (found))

pub returns-in-Binary : goal.returns-in-Binary
returns-in-Binary c =
    let found : Stands (shape (kind (get_or c.args.table.now c.args.j 0))) c.of.result = rw c.kind.ensures at c.of.ensures in
    let byte : ℕ → ℕ = λ n. get_or c.args.bytes.now (n - 1) 0 in
    c.binary.ensures
    ∙ ap₂ (operator_byte c.in-Binary.o) (c.operand-in-Binary.ensures ∙ ap byte c.left.ensures) (c.operand-in-Binary-2.ensures ∙ ap byte c.right-in-Binary.ensures)
    ∙ byte-by_kind _ _ _ c.requires.0 c.requires.1 c.requires.2 (kinds.Binary _) (rw c.in-Binary.is at (found))
