use Prim.Native.Nat.{ℕ, suc, ◌+◌, ◌-◌, ◌<◌}
use mathlib.Core.Path.{◌≡◌, sym, ap, ap₂, ◌∙◌}
use mathlib.Core.Bool.{Bool, cond}
use mathlib.Core.List.{List}
use native.Mathlib.Omega.{arith}
use lib.ListN.{length, get_or}
use lib.Dec.{ltb}
use Rattle.logic.specs.Lasso.{place}
use Rattle.logic.proofs.Lasso.Period.{place_below, place_lt}
use Rattle.agreement.specs.Comparing.{alike, difference_in, window}
use Rattle.agreement.proofs.Reading.{reading, place_next, compared-reading, passed_same, passed_differ, passed_all}
use Rattle.differing.proofs.first_difference.Goals as goal

-- what the two samples that were read say of the moment
told : (samples others : List ℕ) (start other_start driven i at other : ℕ) {r : Bool} → r ≡ alike driven (get_or samples at 0) (get_or others other 0)
    → at ≡ place (length samples) start i → other ≡ place (length others) other_start i
    → r ≡ alike driven (reading samples start i) (reading others other_start i)
told samples others start other_start driven i at other e p q =
    e ∙ ap₂ (alike driven) (ap (λ (k : ℕ). get_or samples k 0) p) (ap (λ (k : ℕ). get_or others k 0) q)

-- the place of the next moment
next_place : (n start i p : ℕ) {q : ℕ} → start < n → p ≡ place n start i → q ≡ cond (ltb (p + 1) n) (p + 1) start → q ≡ place n start (i + 1)
next_place n start i p h e f =
    let k : suc i ≡ i + 1 = omega arith in
    f ∙ ap (λ (x : ℕ). cond (ltb (x + 1) n) (x + 1) start) e ∙ sym (place_next _ _ i h) ∙ ap (place n start) k

pub loop-i-init : goal.loop-i-init
loop-i-init c =
    let a = c.args in
    let zero : c.window-moments.result - 0 ≡ window (length a.samples.now) a.start (length a.others.now) a.other_start = omega arith in record {
      at_inside = omega arith;
      other_inside = omega arith;
      at_place = sym (place_below (length a.samples.now) a.start 0 (omega arith));
      other_place = sym (place_below (length a.others.now) a.other_start 0 (omega arith));
      searched = ap (difference_in a.driven (reading a.samples.now a.start) (reading a.others.now a.other_start) 0) (sym zero);
    }

pub returns-then-not-alike : goal.returns-then-not-alike
returns-then-not-alike c =
    let a = c.args in
    let inv = c.loop-i.invariant in
    sym (compared-reading a.samples.now a.start a.others.now a.other_start a.driven c.requires.2 c.requires.3 c.requires.4
    ∙ inv.searched
    ∙ passed_differ _ _ _ _ _ c.loop-i-test.true
    (sym (told _ _ a.start a.other_start _ _ _ _ (c.alike.ensures a.driven c.driven_bits-bits.ensures) inv.at_place inv.other_place) ∙ c.if-not-alike.true))

pub loop-i-preserved : goal.loop-i-preserved
loop-i-preserved c =
    let a = c.args in
    let inv = c.loop-i.invariant in
    let at = next_place (length a.samples.now) a.start c.loop-i.i _ c.requires.2 inv.at_place c.following-at.ensures in
    let other = next_place (length a.others.now) a.other_start c.loop-i.i _ c.requires.3 inv.other_place c.following-other.ensures in record {
      at_inside = omega (arith, at, place_lt (length a.samples.now) a.start (c.loop-i.i + 1) c.requires.2);
      other_inside = omega (arith, other, place_lt (length a.others.now) a.other_start (c.loop-i.i + 1) c.requires.3);
      at_place = at;
      other_place = other;
      searched =
          inv.searched
          ∙ passed_same _ _ _ _ _ c.loop-i-test.true
          (sym (told _ _ a.start a.other_start _ _ _ _ (c.alike.ensures a.driven c.driven_bits-bits.ensures) inv.at_place inv.other_place) ∙ c.if-not-alike.false);
    }

pub returns : goal.returns
returns c =
    let a = c.args in
    sym (compared-reading a.samples.now a.start a.others.now a.other_start a.driven c.requires.2 c.requires.3 c.requires.4
    ∙ c.loop-i.invariant.searched
    ∙ passed_all _ _ _ _ _ c.loop-i-test.false)
