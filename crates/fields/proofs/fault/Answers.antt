-- Kind 0, kinds that are not plain, and then the fields by their layout.
use Prim.Native.Nat.{ℕ}
use mathlib.Core.Path.{◌≡◌, sym, ap, ◌∙◌}
use mathlib.Core.Bool.{false, ◌&&◌}
use lib.Dec.{leb}
use native.Mathlib.Omega.{arith}
use borrow.Author.Tests.{eq-eqb, ne_eqb, le-leb, lt-leb}
use borrow.Author.Rules.{rules}
use Rattle.table.specs.Node.{kind, shape}
use Rattle.table.proofs.Fields.{kind_lt}
use Rattle.layouts.specs.Layout.{layout_of}
use Rattle.field_checks.proofs.First.{refused}
use Rattle.fields.proofs.Layouts.{word_by_layout}
use Rattle.fields.proofs.fault.Goals as goal
use Rattle.fields.proofs.fault.Goals.{else-plain-via-then-plain+else-kind-ge12, else-plain-via-else-plain}

pub returns-then-kind-eq0 : goal.returns-then-kind-eq0
returns-then-kind-eq0 c = refused (rw (word_by_layout, eq-eqb (kind c.args.w) 0 (sym c.kind-kind.ensures ∙ c.if-kind-eq0.true)))

pub returns-then-kind-ge12 : goal.returns-then-kind-ge12
returns-then-kind-ge12 c = refused (rw (word_by_layout, ← c.kind-kind.ensures, ne_eqb _ _ c.if-kind-eq0.false, c.if-plain.true, le-leb _ _ c.if-kind-ge12.true))

pub of_kind-requires : goal.of_kind-requires
of_kind-requires c = (omega (arith, c.if-kind-eq0.false), rw c.kind-kind.ensures (kind_lt c.args.w (omega arith)))

pub returns : goal.returns
returns c =
    let plain-enough : (c.args.plain && leb 12 c.kind-kind.result) ≡ false =
    elim c.else-plain.branch [
      | else-plain-via-then-plain+else-kind-ge12 w ↦ rw (w.if-plain.true, lt-leb _ _ w.if-kind-ge12.false)
      | else-plain-via-else-plain w ↦ rw w.if-plain.false
    ] in
    let laid : c.of_kind.result ≡ layout_of (shape (kind c.args.w)) = c.of_kind.ensures ∙ ap (λ (k : ℕ). layout_of (shape k)) c.kind-kind.ensures in
    let read = c.field_fault.ensures in
    record {
      answer =
          rw (
            word_by_layout,
            ne_eqb (kind c.args.w) 0 (rw c.kind-kind.ensures at c.if-kind-eq0.false),
            rw c.kind-kind.ensures at (plain-enough),
            ← laid,
            ← c.left.ensures,
            ← c.right.ensures,
          )
          read.answer;
      passed = λ z. rw (← laid, ← c.left.ensures, ← c.right.ensures) (read.passed z);
    }
