use borrow.Author.Rules.{rules}
use Prim.Native.Nat.{◌-◌}
use Rattle.table.proofs.Fields.{kind_lt}
use Rattle.source.proofs.Words.{word_at}
use Rattle.source.proofs.read.Goals as goal

pub returns : goal.returns
returns c = word_at c.requires (kind_lt _ (c.type_inv.table (c.args.j - 1)).fits) c.kind.ensures c.left.ensures c.right.ensures
