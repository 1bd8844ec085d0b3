-- The words so far name driven letters only.
use Rattle.letter_checks.proofs.Letters.{Passing}
use Rattle.letter_checks.proofs.check_letters.Given as goal

abbrev pub invariant-loop-i : goal.invariant-loop-i
invariant-loop-i l = Passing l.table l.driven l.i
