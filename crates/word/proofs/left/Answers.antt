use mathlib.Core.Path.{refl}
use Rattle.table.specs.Node.{left}
use borrow.Author.Rules.{rules}
use Rattle.word.proofs.left.Goals as goal

pub returns : goal.returns
unfolding left
returns c = refl
