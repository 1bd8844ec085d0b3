-- Each operator's writer makes the sequence that the operator stands for.
use mathlib.Core.Path.{ap}
use native.Mathlib.Omega.{arith}
use Rattle.operators.specs.Looped.{does}
use Rattle.operand_rows.proofs.write_word.Goals as goal

pub overflow_cast-letter : goal.overflow_cast-letter
overflow_cast-letter c = omega (arith, c.requires.le_letter _ (ap does c.in-Letter.is))

pub write_letter-requires-clause-le_letter : goal.write_letter-requires-clause-le_letter
write_letter-requires-clause-le_letter c = c.requires.le_letter _ (ap does c.in-Letter.is)

pub returns-in-Constant : goal.returns-in-Constant
returns-in-Constant c f g p = rw c.in-Constant.is c.write_constant.ensures

pub returns-in-Letter : goal.returns-in-Letter
returns-in-Letter c f g p = rw c.in-Letter.is c.write_letter.ensures

pub returns-in-Each : goal.returns-in-Each
returns-in-Each c f g p =
    let told = c.in-Each.is in
    let rows = rw told at p in
    rw told (c.write_connective.ensures _ _ rows rows)

pub returns-in-Next : goal.returns-in-Next
returns-in-Next c f g p =
    let told = c.in-Next.is in
    let rows = rw told at p in
    rw told (c.write_next.ensures f g rows)

pub returns-in-Fixpoint : goal.returns-in-Fixpoint
returns-in-Fixpoint c f g p =
    let told = c.in-Fixpoint.is in
    let rows = rw told at p in
    rw told (c.write_fixpoint.ensures _ _ rows.0 rows.1)
