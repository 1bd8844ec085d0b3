use Rattle.logic.specs.Formula.{weak, release}
use Rattle.transforms.specs.Rewriting.{recurring}
use native.Mathlib.Omega.{arith}
use mathlib.Core.Path.{refl}
use Rattle.form_places.specs.declared.Rewriting.TheVariants.{Recurring}
use Rattle.chosen_forms.proofs.Rewritten.{of_binary, of_recurring_kept}
use Rattle.chosen_forms.proofs.recurring.Goals as goal

pub returns-then-chosen : goal.returns-then-chosen
unfolding recurring
returns-then-chosen c = of_binary Recurring c.kind.ensures weak c.in-9.is (λ M N a b h g. rw (g refl, c.if-chosen.true) c.pack.ensures)

pub returns-else-chosen : goal.returns-else-chosen
unfolding recurring
returns-else-chosen c = of_binary Recurring c.kind.ensures weak c.in-9.is (λ M N a b h g. rw (g refl, c.if-chosen.false) c.operator.ensures)

pub returns-then-chosen-2 : goal.returns-then-chosen-2
unfolding recurring
returns-then-chosen-2 c = of_binary Recurring c.kind.ensures release c.in-10.is (λ M N a b h g. rw (g refl, c.if-chosen-2.true) c.pack-then-chosen-2.ensures)

pub returns-else-chosen-2 : goal.returns-else-chosen-2
unfolding recurring
returns-else-chosen-2 c = of_binary Recurring c.kind.ensures release c.in-10.is (λ M N a b h g. rw (g refl, c.if-chosen-2.false) c.operator-else-chosen-2.ensures)

pub returns-in_default : goal.returns-in_default
returns-in_default c = of_recurring_kept c.kind.ensures c.requires.plain c.kept.ensures (λ z. omega arith) (λ z. omega arith)
