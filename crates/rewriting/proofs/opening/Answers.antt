use native.Mathlib.Omega.{arith}
use mathlib.Core.Path.{◌∙◌}
use Rattle.rewriting.proofs.Opened.{opens_weak, opens-release, opens_kept}
use Rattle.rewriting.proofs.opening.Goals as goal

pub returns-in-9 : goal.returns-in-9
returns-in-9 c = opens_weak c.kind.ensures c.in-9.is (c.pack.ensures ∙ rw (c.place.ensures, c.left.ensures))

pub returns-in-10 : goal.returns-in-10
returns-in-10 c = opens-release c.kind.ensures c.in-10.is (c.pack-in-10.ensures ∙ rw (c.place-in-10.ensures, c.right.ensures))

pub returns-in_default : goal.returns-in_default
returns-in_default c = opens_kept c.kind.ensures c.requires.0.plain (λ z. omega arith) (λ z. omega arith) c.kept.ensures
