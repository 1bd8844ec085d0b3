use mathlib.Core.Path.{refl}
use Rattle.table.specs.Node.{shape}
use Rattle.typed.proofs.layout.Goals as goal

pub returns-then-kind-eq0 : goal.returns-then-kind-eq0
unfolding shape
returns-then-kind-eq0 c = rw c.if-kind-eq0.true refl
