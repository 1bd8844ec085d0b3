-- Each range of the match has the kinds of one layout.
use Prim.Native.Nat.{ℕ, ◌≤◌}
use mathlib.Core.Path.{◌≡◌, refl}
use native.Mathlib.Omega.{arith}
use Rattle.logic.proofs.Numbers.{in_range}
use Rattle.table.specs.Node.{shape}
use Rattle.layouts.specs.declared.Layout.{Layout}
use Rattle.layouts.specs.declared.Layout.TheVariants.{Constant, Letter, Unary, Binary}
use Rattle.layouts.specs.Layout.{layout_of}
use Rattle.layouts.proofs.of_kind.Goals as goal

abbrev Laid : Layout → ℕ → Type 0
Laid y k = y ≡ layout_of (shape k)

-- from 5 to 11 all kinds but 7
binary_kind_lem : (k : ℕ) → 5 ≤ k → k ≤ 11 → (k ≡ 7 → ⊥) → Laid Binary k
unfolding shape
binary_kind_lem k l h =
    in_range (λ (k : ℕ). (k ≡ 7 → ⊥) → Laid Binary k) 5 6 k l h
    (λ n. refl, (λ n. refl, (λ n. absurd (n refl), (λ n. refl, (λ n. refl, (λ n. refl, λ n. refl))))))

pub returns-in-1-to-2 : goal.returns-in-1-to-2
unfolding shape
returns-in-1-to-2 c = in_range (Laid Constant) 1 1 c.args.kind (omega arith) (omega arith) (refl, refl)

pub returns-in-3-to-4 : goal.returns-in-3-to-4
unfolding shape
returns-in-3-to-4 c = in_range (Laid Letter) 3 1 c.args.kind (omega arith) (omega arith) (refl, refl)

pub returns-in_default : goal.returns-in_default
returns-in_default c = absurd (omega (arith, c.requires.0))

pub returns-in_default-2 : goal.returns-in_default-2
returns-in_default-2 c = binary_kind_lem c.args.kind (omega arith) (omega arith) c.in_default.in_default-own.rest.1

pub returns-in_default-3 : goal.returns-in_default-3
unfolding shape
returns-in_default-3 c = in_range (Laid Binary) 15 0 c.args.kind (omega arith) (omega arith) refl

pub returns-in-7 : goal.returns-in-7
unfolding shape
returns-in-7 c = rw c.in-7.in-7-own.keys1

pub returns-in-7-2 : goal.returns-in-7-2
unfolding shape
returns-in-7-2 c = in_range (Laid Unary) 12 2 c.args.kind (omega arith) (omega arith) (refl, (refl, refl))
