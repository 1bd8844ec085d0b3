use native.Mathlib.Omega.{arith}
use mathlib.Core.Path.{◌≡◌, refl, sym, ◌∙◌}
use mathlib.Core.Bool.{true≢false}
use lib.ListN.{length}
use Rattle.settling.proofs.Settling.{top-length}
use Rattle.parsing.proofs.Parsing.{going_more, going-dead, going-read, going-early, going_room, fresh-going, departed, was_read}
use Rattle.parsing.proofs.parse.Goals as goal

pub loop-i-init : goal.loop-i-init
loop-i-init c =
    let pre = c.requires in
    (refl, refl, refl, pre.numbered, tt, fresh-going _ _ _ pre)

pub step-r-requires : goal.step-r-requires
step-r-requires c =
    let inv = c.loop-i.invariant in
    let pre = c.requires in
    record {
      room = going_room _ _ c.loop-i.r _ _ inv.3 (inv.0 ∙ pre.long) (inv.1 ∙ pre.wide) inv.5 (omega (arith, pre.short));
      fit = inv.4;
    }

pub returns-then-is_stuck : goal.returns-then-is_stuck
returns-then-is_stuck c =
    let m = c.step-r.ensures in (
      omega arith,
      departed _ _ _ m.numbered
          (going-dead _ _ _ _ c.loop-i.invariant.5 c.loop-i-test.true c.requires.short m.same (sym c.is_stuck.ensures ∙ c.if-is_stuck.true)),
    )

pub loop-i-preserved : goal.loop-i-preserved
loop-i-preserved c =
    let m = c.step-r.ensures in (
      omega arith,
      omega arith,
      omega arith,
      m.numbered,
      m.fit,
      going_more _ _ _ _ c.loop-i.invariant.5 c.loop-i-test.true c.requires.short m.same (sym c.is_stuck.ensures ∙ c.if-is_stuck.false),
    )

pub step-q-requires : goal.step-q-requires
step-q-requires c =
    let inv = c.loop-i.invariant in
    let pre = c.requires in
    record {
      room = going_room _ _ c.loop-i.r _ _ inv.3 (inv.0 ∙ pre.long) (inv.1 ∙ pre.wide) inv.5 (omega (arith, pre.short));
      fit = inv.4;
    }

pub returns-then-depth-ne0 : goal.returns-then-depth-ne0
returns-then-depth-ne0 c =
    let m = c.step-q.ensures in
    let all : length c.args.text.now ≡ c.loop-i.i = omega arith in
    rw all (
      omega arith,
      departed _ _ _ m.numbered (going-early _ _ _ _ c.loop-i.invariant.5 c.loop-i-test.false (omega arith) c.requires.short m.same (λ e l. c.if-depth-ne0.true (sym (top-length _ _) ∙ l))),
    )

pub returns-then-is_ended : goal.returns-then-is_ended
returns-then-is_ended c =
    let m = c.step-q.ensures in
    was_read _ _ m.numbered (going-read _ _ _ _ c.loop-i.invariant.5 c.loop-i-test.false (omega arith) c.requires.short m.same (sym c.is_ended.ensures ∙ c.if-is_ended.true) (top-length _ _ ∙ c.if-depth-ne0.false))

pub returns : goal.returns
returns c =
    let m = c.step-q.ensures in
    let all : length c.args.text.now ≡ c.loop-i.i = omega arith in
    rw all (
      omega arith,
      departed _ _ _ m.numbered (going-early _ _ _ _ c.loop-i.invariant.5 c.loop-i-test.false (omega arith) c.requires.short m.same (λ e l. true≢false (sym e ∙ sym c.is_ended.ensures ∙ c.if-is_ended.false))),
    )
