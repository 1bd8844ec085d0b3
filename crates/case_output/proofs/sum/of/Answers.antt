use Rattle.std.proofs.Common.{◌≡◌, ℕ, ◌+◌, ◌<◌, ◌≤◌, List, length, drop, get_or, drop-cons, add-one}
use lib.ListN.{drop_of_length-le}
use Rattle.case_output.specs.Sums.{added, sum}
use Rattle.case_output.proofs.sum.of.Goals as goal

-- One element more.
more : {T : Type 0} (count : T → ℕ) (s : List T) (i x v n total : ℕ) (e : T) → i < length s → e ≡ get_or s i e → v ≡ count e → n ≡ added x v
    → sum count x (drop i s) ≡ total → sum count n (drop (i + 1) s) ≡ total
unfolding sum
more count s i x v n total e h is ev en so_far = let f = rw (drop-cons s i e h, ← is) at so_far in rw (add-one, en, ev) f

-- No element is left.
none_left : {T : Type 0} (count : T → ℕ) (s : List T) (i x total : ℕ) → length s ≤ i → sum count x (drop i s) ≡ total → x ≡ total
unfolding sum
none_left count s i x total h so_far = rw (drop_of_length-le s h) at so_far

pub loop-element-preserved : goal.loop-element-preserved
loop-element-preserved g c =
    more _ _ _ _ _ _ _ _ c.loop-element-test.true c.element-item.is c.count.ensures c.added-x.ensures.value c.loop-element.invariant

pub returns : goal.returns
returns g c = none_left _ _ _ _ _ c.loop-element-test.false c.loop-element.invariant
