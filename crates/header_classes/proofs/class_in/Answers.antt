use native.Mathlib.Omega.{arith}
use mathlib.Core.Path.{sym, ◌∙◌}
use Rattle.table.specs.Header.{class_of}
use Rattle.header_classes.proofs.Headable.{some, plain-words, last_byte}
use Rattle.header_classes.proofs.class_in.Goals as goal

pub returns-then-is_written : goal.returns-then-is_written
unfolding class_of
returns-then-is_written c = rw (← c.is_written.ensures, c.if-is_written.true)

pub fill-requires : goal.fill-requires
fill-requires c = (plain-words c.requires.0 (sym c.is_written.ensures ∙ c.if-is_written.false), c.requires.1)

pub overflow_sub-result : goal.overflow_sub-result
overflow_sub-result c = some c.requires.0

pub bounds-bytes-words : goal.bounds-bytes-words
bounds-bytes-words c =
    let q = c.requires in
    omega (arith, some q.0, q.1, c.fill.auto.bytes)

pub returns : goal.returns
returns c =
    rw c.fill.ensures (last_byte c.requires.0 (sym c.is_written.ensures ∙ c.if-is_written.false) _)
