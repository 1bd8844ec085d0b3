-- A draft that was filled can be folded up to the slot of its part.
use Prim.Native.Nat.{ℕ, ◌+◌, ◌<◌, ◌^◌}
use native.Mathlib.Omega.{arith}
use mathlib.Core.Path.{◌≡◌}
use mathlib.Core.List.{List}
use lib.ListN.{length}
use Rattle.logic.specs.Formula.{Formula}
use Rattle.drafts.specs.Drafted.{Drafted}
use Rattle.drafts.proofs.Drafts.{drafted_within}
use Rattle.folding.specs.Folded.{Foldable}
use Rattle.parts.specs.Parts.{Ready}

module _ {t positions d folded : List ℕ} (q : Ready t positions d folded) (e : List ℕ) (long : length e ≡ length d) (φ : Formula) (root : ℕ) (drafted : Drafted e φ root) where
  pub narrow : root < 2 ^ 20
  narrow = omega (arith, drafted_within e φ root drafted, q.fillable.room.narrow)

  pub foldable : Foldable e (root + 1) folded
  foldable = record {
    within = omega (arith, drafted_within e φ root drafted);
    room = omega (arith, drafted_within e φ root drafted, q.long);
    narrow = omega (arith, q.fillable.room.narrow, drafted_within e φ root drafted);
  }
