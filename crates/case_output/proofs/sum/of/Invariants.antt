-- The sum so far goes on over the elements that are left to the sum of all.
use Rattle.std.proofs.Common.{◌≡◌, drop}
use Rattle.case_output.specs.Sums.{sum}
use Rattle.case_output.proofs.sum.of.Given as goal

abbrev pub invariant-loop-element : goal.invariant-loop-element
invariant-loop-element g l = sum g.T.Element.count l.x (drop l.element-index l.s) ≡ sum g.T.Element.count 0 l.s
