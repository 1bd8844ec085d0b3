-- The words, and then their uses by the marks.
use Rattle.std.proofs.lemmas.Result.{err_from_is_err_and}
use Rattle.check_rooms.proofs.fault_in.Goals as goal

pub use_fault-requires : goal.use_fault-requires
use_fault-requires c =
    let read = c.words_fault in
    (rw read.auto.marks c.requires.0.numbers, read.ensures.marked c.in_ok-words_fault.was)

pub returns-in_err-words_fault : goal.returns-in_err-words_fault
returns-in_err-words_fault c =
    let p = err_from_is_err_and c.from_residual.result c.from_residual.ensures.1 in
    rw (p.1, p.2, ← c.words_fault.ensures.answer, c.in_err-words_fault.was)

pub returns : goal.returns
returns c = rw (← c.words_fault.ensures.answer, c.in_ok-words_fault.was) c.use_fault.ensures
