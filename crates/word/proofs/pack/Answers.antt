use mathlib.Core.Path.{refl}
use Rattle.table.specs.Node.{pack}
use borrow.Author.Rules.{rules}
use Rattle.word.proofs.pack.Goals as goal

pub returns : goal.returns
unfolding pack
returns c = refl
