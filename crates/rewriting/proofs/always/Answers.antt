use mathlib.Core.Path.{◌∙◌}
use Rattle.rewriting.proofs.Opened.{always-weak, always-release}
use Rattle.rewriting.proofs.always.Goals as goal

pub returns-then-kind-eq-WEAK : goal.returns-then-kind-eq-WEAK
returns-then-kind-eq-WEAK c = always-weak _ c.kind.ensures c.requires.plain c.if-kind-eq-WEAK.true (c.globally.ensures ∙ rw (c.place.ensures, c.left.ensures))

pub returns-else-kind-eq-WEAK : goal.returns-else-kind-eq-WEAK
returns-else-kind-eq-WEAK c = always-release _ c.kind.ensures c.requires.plain c.if-kind-eq-WEAK.false (c.globally-else-kind-eq-WEAK.ensures ∙ rw (c.place-else-kind-eq-WEAK.ensures, c.right.ensures))
