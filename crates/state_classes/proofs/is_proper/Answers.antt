-- The kinds by their ranges.
use native.Mathlib.Omega.{arith}
use borrow.Author.Tests.{le-leb, lt-leb}
use Rattle.state_classes.specs.Classes.{is_proper_kind}
use Rattle.state_classes.proofs.is_proper.Goals as goal

pub returns-in-3-to-4 : goal.returns-in-3-to-4
unfolding is_proper_kind
returns-in-3-to-4 c = let k = c.args.kind in simp (le-leb 3 k (omega arith), le-leb k 4 (omega arith))

pub returns-in-7-to-11 : goal.returns-in-7-to-11
unfolding is_proper_kind
returns-in-7-to-11 c = let k = c.args.kind in simp (lt-leb k 4 (omega arith), le-leb 3 k (omega arith), le-leb 7 k (omega arith), le-leb k 11 (omega arith))

pub returns-in_default : goal.returns-in_default
unfolding is_proper_kind
returns-in_default c = let k = c.args.kind in simp (lt-leb 3 k (omega arith), lt-leb 7 k (omega arith))

pub returns-in_default-2 : goal.returns-in_default-2
unfolding is_proper_kind
returns-in_default-2 c = let k = c.args.kind in simp (lt-leb k 4 (omega arith), le-leb 3 k (omega arith), lt-leb 7 k (omega arith))

pub returns-in_default-3 : goal.returns-in_default-3
unfolding is_proper_kind
returns-in_default-3 c = let k = c.args.kind in simp (lt-leb k 4 (omega arith), le-leb 3 k (omega arith), le-leb 7 k (omega arith), lt-leb k 11 (omega arith))
