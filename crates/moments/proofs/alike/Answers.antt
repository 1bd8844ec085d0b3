-- The masked difference is 0 where the samples are alike.
use Prim.Native.Nat.{ℕ}
use mathlib.Core.Path.{ap₂, ◌∙◌}
use lib.Dec.{eqb}
use lib.Bits.{bit_and}
use Rattle.moments.proofs.Masked.{masked-alike}
use Rattle.moments.proofs.alike.Goals as goal

pub returns : goal.returns
returns c k e = ap₂ (λ (d m : ℕ). eqb (bit_and d m) 0) c.from.ensures e ∙ masked-alike c.args.v c.args.w k
