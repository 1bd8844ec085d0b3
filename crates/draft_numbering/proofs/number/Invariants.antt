-- The loop's invariant is that of proofs/Going: each turn pushes what the top needs next, or places its word and pops it.
use Rattle.std.proofs.Common.{◌+◌, ◌-◌, ◌*◌, ◌<◌, ◌≤◌, length, get_or}
use Rattle.placing.specs.State.{state}
use Rattle.draft_numbering.proofs.Zeros.{zeros}
use Rattle.draft_numbering.proofs.Going.{Going}
use Rattle.draft_numbering.proofs.number.Given as goal

abbrev pub invariant-loop-i : goal.invariant-loop-i
invariant-loop-i l = record {
  inside : l.root < length l.draft;
  low : get_or l.stack (l.height - 1) 0 + l.height ≤ l.root + 1;
  going : Going l.draft l.root (state l.initial.out l.initial.index) (state l.out l.index) l.numbers l.stack l.height;
}

-- every placed word gives a slot its number, and until then the stack rises
abbrev pub decreases-loop-i : goal.decreases-loop-i
decreases-loop-i l = 2 * zeros l.numbers + (length l.draft + 1 - l.height)
