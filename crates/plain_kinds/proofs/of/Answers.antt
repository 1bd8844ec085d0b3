-- Each range of the match has the kinds whose shapes stand for one thing.
use Prim.Native.Nat.{ℕ}
use mathlib.Core.Path.{◌≡◌}
use mathlib.Core.Bool.{true, false}
use native.Mathlib.Omega.{arith}
use Rattle.logic.proofs.Numbers.{in_range}
use Rattle.table.specs.Node.{shape}
use Rattle.plain_kinds.specs.declared.Operator.TheVariants.{Boolean, Least, Greatest}
use Rattle.plain_kinds.specs.declared.PlainKind.{PlainKind}
use Rattle.plain_kinds.specs.declared.PlainKind.TheVariants as kinds
use Rattle.plain_kinds.specs.PlainKind.{Stands}
use Rattle.plain_kinds.proofs.Shapes.{for_constant, for_letter, for_next, for_conj, for_disj, for_until, for_strong, for_weak, for_release}
use Rattle.plain_kinds.proofs.of.Goals as goal

-- the shape of a kind stands for y
abbrev Standing : PlainKind → ℕ → Type 0
Standing y k = Stands (shape k) y

pub returns-in-7 : goal.returns-in-7
unfolding shape
returns-in-7 c = rw c.in-7.is for_next

pub returns-in-1-to-4 : goal.returns-in-1-to-4
unfolding shape
returns-in-1-to-4 c =
    in_range (Standing kinds.Atomic) 1 3 c.args.kind (omega arith) (omega arith)
    (for_constant false, (for_constant true, (for_letter true, for_letter false)))

pub returns-in-5-to-6 : goal.returns-in-5-to-6
unfolding shape
returns-in-5-to-6 c = in_range (Standing (kinds.Binary Boolean)) 5 1 c.args.kind (omega arith) (omega arith) (for_conj, for_disj)

pub returns-in-9-to-10 : goal.returns-in-9-to-10
unfolding shape
returns-in-9-to-10 c = in_range (Standing (kinds.Binary Greatest)) 9 1 c.args.kind (omega arith) (omega arith) (for_weak, for_release)

pub returns-in_default : goal.returns-in_default
returns-in_default c = absurd (omega (arith, c.requires.0))

pub returns-in_default-3 : goal.returns-in_default-3
unfolding shape
returns-in_default-3 c = in_range (Standing (kinds.Binary Least)) 11 0 c.args.kind (omega arith) (omega (arith, c.requires.1)) for_strong

pub returns-in_default-2 : goal.returns-in_default-2
unfolding shape
returns-in_default-2 c =
    let k : ℕ = c.args.kind in
    let not-7 : k ≡ 7 → ⊥ = c.in_default.in_default-own.rest.1 in
    in_range (Standing (kinds.Binary Least)) 8 0 k (omega arith) (omega arith) for_until
