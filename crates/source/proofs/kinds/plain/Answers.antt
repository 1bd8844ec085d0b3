-- The table of plain kinds is that of the shapes, each wanted.
use Prim.Native.Nat.{ℕ, ◌<◌}
use mathlib.Core.Bool.{true}
use mathlib.Core.List.{List, [], ◌∷◌}
use lib.ListN.{get_or-map}
use lib.Dec.{ltb, ltb→lt}
use borrow.Author.Rules.{rules}
use Rattle.logic.proofs.Tests.{all_pass, pass_at}
use Rattle.table.specs.Node.{Shape, none, shapes, shape, kind_of}
use Rattle.source.specs.Kinds.{signed, signed_kind}
use Rattle.source.proofs.kinds.plain.Goals as goal

plains : List ℕ
plains = 0 ∷ 1 ∷ 2 ∷ 3 ∷ 4 ∷ 5 ∷ 6 ∷ 7 ∷ 8 ∷ 9 ∷ 10 ∷ 11 ∷ 12 ∷ 8 ∷ 10 ∷ 6 ∷ []

pub returns : goal.returns
unfolding plains signed_kind shape all_pass
returns c = (
  get_or-map (λ (s : Shape). kind_of (signed true s)) shapes c.args.kind none,
  pass_at (λ x. ltb x 16) (λ x. x < 16) (λ x. ltb→lt x 16) plains tt c.args.kind c.requires 0,
)
