use borrow.Author.Rules.{rules}
use Rattle.fixpoints.proofs.is_fixpoint.Goals as goal

pub kind-requires : goal.kind-requires
kind-requires c = search rules
