use borrow.Author.Rules.{rules}
use native.Mathlib.Omega.{arith}
use mathlib.Core.Path.{◌∙◌}
use Rattle.table.specs.Header.{header_of}
use Rattle.table.proofs.Header.{class_lt}
use Rattle.header_classes.proofs.Headable.{few}
use Rattle.headers.proofs.of.Goals as goal

pub pack-requires : goal.pack-requires
pack-requires c = (omega arith, omega (arith, c.class_of.ensures, class_lt c.args.words.now), omega (arith, few c.requires))

pub returns : goal.returns
unfolding header_of
returns c = c.pack.ensures ∙ rw c.class_of.ensures
