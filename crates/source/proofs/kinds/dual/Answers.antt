-- The table of duals is that of the shapes, each denied.
use Prim.Native.Nat.{ℕ, ◌<◌}
use mathlib.Core.Bool.{false}
use mathlib.Core.List.{List, [], ◌∷◌}
use lib.ListN.{get_or-map}
use lib.Dec.{ltb, ltb→lt}
use borrow.Author.Rules.{rules}
use Rattle.logic.proofs.Tests.{all_pass, pass_at}
use Rattle.table.specs.Node.{Shape, none, shapes, shape, kind_of}
use Rattle.source.specs.Kinds.{signed, signed_kind}
use Rattle.source.proofs.kinds.dual.Goals as goal

duals : List ℕ
duals = 0 ∷ 2 ∷ 1 ∷ 4 ∷ 3 ∷ 6 ∷ 5 ∷ 7 ∷ 10 ∷ 11 ∷ 8 ∷ 9 ∷ 12 ∷ 10 ∷ 8 ∷ 5 ∷ []

pub returns : goal.returns
unfolding duals signed_kind shape all_pass
returns c = (
  get_or-map (λ (s : Shape). kind_of (signed false s)) shapes c.args.kind none,
  pass_at (λ x. ltb x 16) (λ x. x < 16) (λ x. ltb→lt x 16) duals tt c.args.kind c.requires 0,
)
