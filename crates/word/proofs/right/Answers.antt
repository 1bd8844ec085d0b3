use mathlib.Core.Path.{refl}
use Rattle.table.specs.Node.{right}
use borrow.Author.Rules.{rules}
use Rattle.word.proofs.right.Goals as goal

pub returns : goal.returns
unfolding right
returns c = refl
