use mathlib.Core.Path.{refl}
use Rattle.table.specs.Node.{kind}
use Rattle.word.proofs.kind.Goals as goal

pub returns : goal.returns
unfolding kind
returns c = refl
