use Prim.Native.Nat.{◌-◌, ◌≤◌}
use native.Mathlib.Omega.{arith}
use native.Mathlib.Numerals.{add-one}
use mathlib.Core.Path.{◌≡◌, refl}
use lib.ListN.{length, length-set}
use lib.Seq.{paste, paste-zero, paste-suc}
use borrow.Author.Rules.{rules}
use Rattle.state_classes.specs.Classes.{own_words}
use Rattle.state_words.proofs.Stating.{own-count, own-few, own-inside, own_at, own_small, put_none, put_all}
use Rattle.state_words.proofs.put.Goals as goal

pub overflow_add-at : goal.overflow_add-at
overflow_add-at c =
    let few : c.count-count.result ≤ 2 = own-few c.args.kind c.args.byte c.args.number c.count-count.ensures in
    omega (arith, few, c.requires.1)

pub returns-then-res-at : goal.returns-then-res-at
returns-then-res-at c = put_none _ _ _ _ _ c.count-count.ensures c.if-res-at.true

pub loop-k-init : goal.loop-k-init
loop-k-init c =
    let a = c.args in (omega arith, refl, paste-zero a.res.now a.at (own_words a.kind a.byte a.number))

pub class_at-requires : goal.class_at-requires
class_at-requires c = own-inside _ _ 0 c.count-count.ensures c.loop-k-test.true

pub state_word-requires : goal.state_word-requires
state_word-requires c =
    (own_small _ _ 0 c.count-count.ensures c.loop-k-test.true c.class_at.ensures, c.requires.0)

pub overflow_add-res : goal.overflow_add-res
overflow_add-res c =
    let few : c.count-count.result ≤ 2 = own-few c.args.kind c.args.byte c.args.number c.count-count.ensures in
    omega (arith, c.loop-k-test.true, few, c.requires.1)

pub bounds-res-at : goal.bounds-res-at
bounds-res-at c =
    omega (arith, c.loop-k-test.true, c.loop-k.invariant.1, c.if-res-at.false)

pub loop-k-preserved : goal.loop-k-preserved
loop-k-preserved c =
    let a = c.args in
    let inv = c.loop-k.invariant in
    let own = own_words a.kind a.byte a.number in
    let word = own_at a.kind a.byte a.number c.count-count.ensures c.loop-k-test.true c.class_at.ensures c.state_word.ensures in
    let many = own-count a.kind a.byte a.number c.count-count.ensures in (
      omega (arith, c.loop-k-test.true),
      simp length-set inv.1,
      rw (inv.2, word, add-one c.loop-k.k) (paste-suc a.res.now a.at own c.loop-k.k 0 (omega (arith, c.loop-k-test.true, c.if-res-at.false)) (omega (arith, c.loop-k-test.true))),
    )

pub shape_of-res : goal.shape_of-res
shape_of-res c = c.loop-k.invariant.1

pub returns : goal.returns
returns c =
    let inv = c.loop-k.invariant in
    put_all _ _ _ _ _ _ c.count-count.ensures c.loop-k-test.false inv.0 inv.1 inv.2
