-- Too many states; the start; or a state, whose word and class are found.
use borrow.Author.Rules.{rules}
use native.Mathlib.Omega.{arith}
use Prim.Native.Nat.{◌≤◌}
use Rattle.move_placing.proofs.Placing.{known-numbered, start_drawn, state_drawn, placed-few, start_placed, placed-many}
use Rattle.move_placing.proofs.place.Goals as goal

pub returns-then-total-gt16383 : goal.returns-then-total-gt16383
returns-then-total-gt16383 c = placed-many c.requires (omega arith)

pub write-requires : goal.write-requires
write-requires c =
    let few : c.args.total ≤ 16383 = omega arith in
    start_drawn c.requires few c.if-state-eq0.true

pub returns-then-state-eq0 : goal.returns-then-state-eq0
returns-then-state-eq0 c =
    let few : c.args.total ≤ 16383 = omega arith in
    start_placed c.requires few c.args.sample c.args.res.now c.write.new.res c.write.result c.if-state-eq0.true c.write.ensures

pub find-word-requires : goal.find-word-requires
find-word-requires c =
    let few : c.args.total ≤ 16383 = omega arith in
    let k = c.requires in
    ((known-numbered k few).started, omega (arith, c.if-state-eq0.false), omega (arith, k.inside, k.filled.all))

pub class_of-class-requires : goal.class_of-class-requires
class_of-class-requires c =
    let few : c.args.total ≤ 16383 = omega arith in
    (known-numbered c.requires few, c.find-word.ensures)

pub write-requires-2 : goal.write-requires-2
write-requires-2 c =
    let few : c.args.total ≤ 16383 = omega arith in
    state_drawn c.requires few c.class_of-class.ensures

pub returns : goal.returns
returns c =
    let few : c.args.total ≤ 16383 = omega arith in
    placed-few c.requires few c.args.sample c.args.res.now c.write-2.new.res c.write-2.result c.write-2.ensures
