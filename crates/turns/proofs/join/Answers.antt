-- Nothing open, something else on top, or a bracket.
use native.Mathlib.Omega.{arith}
use Rattle.turns.proofs.Making.{join-empty, join_other, join_made}
use Rattle.turns.proofs.join.Goals as goal

pub returns-then-depth-eq0 : goal.returns-then-depth-eq0
returns-then-depth-eq0 c = join-empty _ _ _ _ _ c.stuck.ensures c.if-depth-eq0.true

pub returns-then-stack-top-ne0 : goal.returns-then-stack-top-ne0
returns-then-stack-top-ne0 c = join_other _ _ _ _ _ c.stuck-then-stack-top-ne0.ensures (omega (arith, c.if-depth-eq0.false)) c.if-stack-top-ne0.true

pub returns : goal.returns
returns c =
    (rw c.pack.ensures (join_made _ _ _ _ _ (omega (arith, c.if-depth-eq0.false)) c.requires.2 c.if-stack-top-ne0.false), tt)
