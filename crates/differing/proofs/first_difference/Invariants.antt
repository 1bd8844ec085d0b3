-- At each turn both places are those of the moment, and the answer is that of a search from the moment on.
use Prim.Native.Nat.{◌-◌, ◌<◌}
use mathlib.Core.Path.{◌≡◌}
use lib.ListN.{length}
use Rattle.logic.specs.Lasso.{place}
use Rattle.agreement.specs.Comparing.{difference_in, window}
use Rattle.agreement.proofs.Reading.{reading}
use Rattle.differing.proofs.first_difference.Given as goal

abbrev pub invariant-loop-i : goal.invariant-loop-i
invariant-loop-i l = record {
  at_inside : l.at < length l.samples;
  other_inside : l.other < length l.others;
  at_place : l.at ≡ place (length l.samples) l.start l.i;
  other_place : l.other ≡ place (length l.others) l.other_start l.i;
  searched :
      difference_in l.driven (reading l.samples l.start) (reading l.others l.other_start) 0 (window (length l.samples) l.start (length l.others) l.other_start)
      ≡ difference_in l.driven (reading l.samples l.start) (reading l.others l.other_start) l.i (l.moments - l.i);
}
