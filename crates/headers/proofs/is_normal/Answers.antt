use Prim.Native.Nat.{ℕ, ◌/◌, ◌^◌}
use mathlib.Core.Path.{ap, ◌∙◌}
use lib.Bits.{and_mask}
use lib.Dec.{eqb}
use borrow.Author.Rules.{rules}
use Rattle.logic.specs.Bit.{bit}
use Rattle.headers.proofs.is_normal.Goals as goal

pub returns : goal.returns
unfolding bit
returns c = ap (λ (n : ℕ). eqb n 1) (and_mask (c.left.result / 2 ^ 6) 1) ∙ ap (λ (n : ℕ). bit n 6) c.left.ensures
