use Prim.Native.Nat.{ℕ, ◌<◌}
use mir.Val.{bool_byte}
use native.Mathlib.Omega.{arith}
use mathlib.Core.Path.{◌≡◌, refl, ap, ◌∙◌}
use mathlib.Core.Logic.{⊎_elim}
use mathlib.Core.Bool.{Bool, true, false, cond}
use lib.ListN.{length, get_or, length-set}
use borrow.Author.Rules.{rules}
use Rattle.table.proofs.Accepted.{accepted-well-formed}
use Rattle.table.specs.StepChecks.{is_fixpoint_word}
use Rattle.fixpoints.specs.Positions.{bit_of}
use Rattle.fixpoints.proofs.UntilLike.{bits_all}
use Rattle.fixpoints.proofs.Positions.{Keeping, keeping_none, keeping-bits, keeping-few, keeping_more, keeping_all}
use Rattle.fixpoints.proofs.count.Goals as goal

byte_is : (b : Bool) → bool_byte b ≡ cond b 1 0
byte_is true = refl
byte_is false = refl

pub loop-i-init : goal.loop-i-init
loop-i-init c = (keeping_none _ _ c.requires.long, refl)

pub bounds-positions-i : goal.bounds-positions-i
bounds-positions-i c = omega (arith, c.loop-i-test.true, c.loop-i.invariant.0.kept.long)

pub overflow_add-bits : goal.overflow_add-bits
overflow_add-bits c =
    let one : c.from-bits.result ≡ cond (is_fixpoint_word (get_or c.args.table.now c.loop-i.i 0)) 1 0 = c.from-bits.ensures ∙ byte_is c.is_fixpoint.result ∙ ap (λ (b : Bool). cond {A = ℕ} b 1 0) c.is_fixpoint.ensures in
    let few : bit_of c.args.table.now (length c.args.table.now) < 32 = omega (arith, bits_all (accepted-well-formed true _ _ c.requires.accepted), c.requires.few) in
    let q = c.loop-i.invariant.0 in
    let h = c.loop-i-test.true in
    omega (arith, keeping-bits q h (one), keeping-few q h (few))

pub loop-i-preserved : goal.loop-i-preserved
loop-i-preserved c =
    let one : c.from-bits.result ≡ cond (is_fixpoint_word (get_or c.args.table.now c.loop-i.i 0)) 1 0 = c.from-bits.ensures ∙ byte_is c.is_fixpoint.result ∙ ap (λ (b : Bool). cond {A = ℕ} b 1 0) c.is_fixpoint.ensures in
    let few : bit_of c.args.table.now (length c.args.table.now) < 32 = omega (arith, bits_all (accepted-well-formed true _ _ c.requires.accepted), c.requires.few) in
    let q = c.loop-i.invariant in
    let h = c.loop-i-test.true in
    (keeping_more q.0 h (few) (one) refl refl, simp length-set q.1)

pub shape_of-positions : goal.shape_of-positions
shape_of-positions c = c.loop-i.invariant.1

pub returns : goal.returns
returns c =
    let all = keeping_all (accepted-well-formed true _ _ c.requires.accepted) c.loop-i.invariant.0 c.loop-i-test.false in
    (c.from.ensures ∙ all.0, all.1)
