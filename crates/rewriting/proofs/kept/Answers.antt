use native.Mathlib.Omega.{arith}
use mathlib.Core.Path.{ap, ◌∙◌}
use Rattle.slots.specs.Slot.{pack}
use Rattle.rewriting.proofs.Opened.{kept-constant, kept-letter, kept_next, kept_operator}
use Rattle.rewriting.proofs.kept.Goals as goal

pub returns-in-7 : goal.returns-in-7
returns-in-7 c = kept_next c.kind-kind.ensures c.in-7.is c.next.ensures

pub returns-in-1-to-2 : goal.returns-in-1-to-2
returns-in-1-to-2 c = kept-constant c.kind-kind.ensures (omega arith) (omega arith) c.pack.ensures

pub returns-in-3-to-4 : goal.returns-in-3-to-4
returns-in-3-to-4 c = kept-letter c.kind-kind.ensures (omega arith) (omega arith) (c.pack-in-3-to-4.ensures ∙ ap (pack _ 0) c.right.ensures)

pub returns-in-5-to-11 : goal.returns-in-5-to-11
returns-in-5-to-11 c = kept_operator c.kind-kind.ensures (omega arith) (omega arith) (λ z. omega arith) c.operator.ensures
