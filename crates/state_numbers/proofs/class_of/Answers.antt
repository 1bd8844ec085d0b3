-- The class by its place among those of the word's byte.
use native.Mathlib.Omega.{arith}
use borrow.Author.Rules.{rules}
use Rattle.state_numbers.proofs.Counting.{start_of, place_inside, found}
use Rattle.state_numbers.proofs.class_of.Goals as goal

pub overflow_sub-n : goal.overflow_sub-n
overflow_sub-n c = omega (arith, c.requires.1.positive)

pub bounds-bytes-n : goal.bounds-bytes-n
bounds-bytes-n c = omega (arith, c.requires.0.kept.bytes_long, c.requires.1.within, c.requires.1.positive)

pub bounds-starts-n : goal.bounds-starts-n
bounds-starts-n c =
    omega (arith, c.requires.0.kept.starts_long, c.requires.1.within)

pub overflow_cast-starts : goal.overflow_cast-starts
overflow_cast-starts c =
    omega (arith, c.type_inv.starts c.args.n)

pub overflow_sub-state : goal.overflow_sub-state
overflow_sub-state c =
    omega (arith, start_of c.requires.0 c.requires.1, c.requires.1.past)

pub overflow_sub-state-2 : goal.overflow_sub-state-2
overflow_sub-state-2 c =
    omega (arith, start_of c.requires.0 c.requires.1, c.requires.1.past)

pub class_at-requires : goal.class_at-requires
class_at-requires c =
    place_inside c.requires.0 c.requires.1

pub returns : goal.returns
returns c =
    found c.requires.0 c.requires.1 c.class_at.ensures
