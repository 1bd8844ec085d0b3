-- What the shapes of plain tables stand for.
use mathlib.Core.Path.{refl}
use mathlib.Core.Bool.{Bool}
use Rattle.logic.specs.Formula.{next, conj, disj, until, weak, release, strong}
use Rattle.logic.proofs.Hierarchy.Step.{constant-byte, literal-byte, unary_byte_lem, binary_byte_lem}
use Rattle.table.specs.Node.{constant, letter, unary, binary}
use Rattle.plain_kinds.specs.declared.Operator.TheVariants.{Boolean, Least, Greatest}
use Rattle.plain_kinds.specs.declared.PlainKind.TheVariants as kinds
use Rattle.plain_kinds.specs.PlainKind.{Stands}

pub for_constant : (c : Bool) → Stands (constant c) kinds.Atomic
for_constant c = record { left = refl; right = refl; byte = λ n a b. constant-byte c }

pub for_letter : (c : Bool) → Stands (letter c) kinds.Atomic
for_letter c = record { left = refl; right = refl; byte = λ n a b. literal-byte c n }

pub for_next : Stands (unary next) kinds.Next
for_next = record { left = refl; right = refl; byte = λ n a b. unary_byte_lem next b }

pub for_conj : Stands (binary conj) (kinds.Binary Boolean)
for_conj = record { left = refl; right = refl; byte = λ n. binary_byte_lem conj }

pub for_disj : Stands (binary disj) (kinds.Binary Boolean)
for_disj = record { left = refl; right = refl; byte = λ n. binary_byte_lem disj }

pub for_until : Stands (binary until) (kinds.Binary Least)
for_until = record { left = refl; right = refl; byte = λ n. binary_byte_lem until }

pub for_strong : Stands (binary strong) (kinds.Binary Least)
for_strong = record { left = refl; right = refl; byte = λ n. binary_byte_lem strong }

pub for_weak : Stands (binary weak) (kinds.Binary Greatest)
for_weak = record { left = refl; right = refl; byte = λ n. binary_byte_lem weak }

pub for_release : Stands (binary release) (kinds.Binary Greatest)
for_release = record { left = refl; right = refl; byte = λ n. binary_byte_lem release }
