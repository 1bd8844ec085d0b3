use Rattle.logic.specs.Formula.{until, strong}
use Rattle.transforms.specs.Rewriting.{steady}
use native.Mathlib.Omega.{arith}
use mathlib.Core.Path.{refl}
use Rattle.form_places.specs.declared.Rewriting.TheVariants.{Steady}
use Rattle.chosen_forms.proofs.Rewritten.{of_binary, of_steady_kept}
use Rattle.chosen_forms.proofs.steady.Goals as goal

pub returns-then-chosen : goal.returns-then-chosen
unfolding steady
returns-then-chosen c = of_binary Steady c.kind.ensures until c.in-8.is (λ M N a b h g. rw (h refl, c.if-chosen.true) c.operator.ensures)

pub returns-else-chosen : goal.returns-else-chosen
unfolding steady
returns-else-chosen c = of_binary Steady c.kind.ensures until c.in-8.is (λ M N a b h g. rw (h refl, c.if-chosen.false) c.pack.ensures)

pub returns-then-chosen-2 : goal.returns-then-chosen-2
unfolding steady
returns-then-chosen-2 c = of_binary Steady c.kind.ensures strong c.in-11.is (λ M N a b h g. rw (h refl, c.if-chosen-2.true) c.operator-then-chosen-2.ensures)

pub returns-else-chosen-2 : goal.returns-else-chosen-2
unfolding steady
returns-else-chosen-2 c = of_binary Steady c.kind.ensures strong c.in-11.is (λ M N a b h g. rw (h refl, c.if-chosen-2.false) c.pack-else-chosen-2.ensures)

pub returns-in_default : goal.returns-in_default
returns-in_default c = of_steady_kept c.kind.ensures c.requires.plain c.kept.ensures (λ z. omega arith) (λ z. omega arith)
