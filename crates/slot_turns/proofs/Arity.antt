-- How many operands the words of a kind have, by ranges of kinds.
use Prim.Native.Nat.{ℕ, ◌<◌}
use native.Mathlib.Omega.{arith}
use mathlib.Core.Path.{◌≡◌, refl}
use mathlib.Core.Bool.{cond}
use lib.Dec.{ltb, eqb}
use Rattle.logic.proofs.Numbers.{in_range}
use Rattle.table.specs.Node.{shape}
use Rattle.slot_turns.specs.Turn.{arity}

abbrev pub by_range : ℕ → ℕ
by_range k = cond (eqb k 7) 1 (cond (ltb k 5) 0 (cond (ltb k 12) 2 (cond (ltb k 15) 1 2)))

pub arity-by_range : (k : ℕ) → k < 16 → arity (shape k) ≡ by_range k
unfolding shape
arity-by_range k l =
    in_range (λ (k : ℕ). arity (shape k) ≡ by_range k) 0 15 k (omega arith) (omega arith)
    (refl, (refl, (refl, (refl, (refl, (refl, (refl, (refl, (refl, (refl, (refl, (refl, (refl, (refl, (refl, refl)))))))))))))))
