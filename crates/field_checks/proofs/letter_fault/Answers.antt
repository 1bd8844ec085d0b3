-- The two tests decide the one check.
use borrow.Author.Tests.{eq-eqb, ne_eqb, le-ltb, lt-ltb}
use Rattle.field_checks.proofs.letter_fault.Goals as goal

pub returns-then-letter-eq0 : goal.returns-then-letter-eq0
returns-then-letter-eq0 c = rw (eq-eqb _ _ c.if-letter-eq0.true)

pub returns-then-letter-gt32 : goal.returns-then-letter-gt32
returns-then-letter-gt32 c = rw (ne_eqb _ _ c.if-letter-eq0.false, lt-ltb _ _ c.if-letter-gt32.true)

pub returns : goal.returns
returns c = rw (ne_eqb _ _ c.if-letter-eq0.false, le-ltb _ _ c.if-letter-gt32.false)
