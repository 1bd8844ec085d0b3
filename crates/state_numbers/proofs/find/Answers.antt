use Prim.Native.Nat.{pred, ◌-◌, ◌≤◌, ◌<◌}
use native.Mathlib.Omega.{arith}
use mathlib.Core.Path.{◌≡◌}
use lib.ListN.{length, get_or}
use borrow.Author.Rules.{rules}
use Rattle.state_numbers.specs.Numbered.{states_before}
use Rattle.state_numbers.proofs.States.{before_all}
use Rattle.state_numbers.proofs.Counting.{some_before, start_at}
use Rattle.state_numbers.proofs.find.Goals as goal

pub loop-n-init : goal.loop-n-init
loop-n-init c = (omega arith, omega (arith, c.requires.2, before_all c.args.words.now))

pub bounds-starts-n : goal.bounds-starts-n
bounds-starts-n c = omega (arith, c.loop-n.invariant.0, c.requires.0.long)

pub overflow_cast-starts : goal.overflow_cast-starts
overflow_cast-starts c = omega (arith, c.type_inv.starts c.loop-n.n)

pub overflow_sub-n : goal.overflow_sub-n
overflow_sub-n c =
    let some : 0 < c.loop-n.n = some_before c.args.words.now c.args.state c.loop-n.n c.requires.1 c.loop-n.invariant.1 in
    some

pub loop-n-smaller : goal.loop-n-smaller
loop-n-smaller c =
    let some : 0 < c.loop-n.n = some_before c.args.words.now c.args.state c.loop-n.n c.requires.1 c.loop-n.invariant.1 in
    omega (arith, some)

pub loop-n-preserved : goal.loop-n-preserved
loop-n-preserved c =
    let some : 0 < c.loop-n.n = some_before c.args.words.now c.args.state c.loop-n.n c.requires.1 c.loop-n.invariant.1 in
    let before : get_or c.args.starts.now c.loop-n.n 0 ≡ states_before c.args.words.now (pred c.loop-n.n) = start_at c.requires.0 c.loop-n.n some c.loop-n.invariant.0 in
    let e : c.loop-n.n - 1 ≡ pred c.loop-n.n = omega arith in
    (omega (arith, c.loop-n.invariant.0), rw e (omega (arith, c.loop-n-test.true, before)))

pub returns : goal.returns
returns c =
    let some : 0 < c.loop-n.n = some_before c.args.words.now c.args.state c.loop-n.n c.requires.1 c.loop-n.invariant.1 in
    let before : get_or c.args.starts.now c.loop-n.n 0 ≡ states_before c.args.words.now (pred c.loop-n.n) = start_at c.requires.0 c.loop-n.n some c.loop-n.invariant.0 in
    record { positive = some; within = c.loop-n.invariant.0; past = omega (arith, c.loop-n-test.false, before); last = c.loop-n.invariant.1 }
