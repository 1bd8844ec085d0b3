use mathlib.Core.Path.{◌∙◌}
use Rattle.rewriting.proofs.Opened.{either-weak, either-release}
use Rattle.rewriting.proofs.either.Goals as goal

pub returns-then-kind-eq-WEAK : goal.returns-then-kind-eq-WEAK
returns-then-kind-eq-WEAK c = either-weak _ c.kind.ensures c.requires.0.plain c.if-kind-eq-WEAK.true (c.pack.ensures ∙ rw (c.place.ensures, c.right.ensures))

pub returns-else-kind-eq-WEAK : goal.returns-else-kind-eq-WEAK
returns-else-kind-eq-WEAK c = either-release _ c.kind.ensures c.requires.0.plain c.if-kind-eq-WEAK.false (c.pack-else-kind-eq-WEAK.ensures ∙ rw (c.place-else-kind-eq-WEAK.ensures, c.left.ensures))
