-- The classes, and then the states.
use borrow.Author.Rules.{rules}
use Rattle.class_bytes.proofs.Words.{accepted-plain}
use Rattle.state_numbers.proofs.Counting.{bytes_classed}
use Rattle.state_words.proofs.write.Goals as goal

pub fill-requires : goal.fill-requires
fill-requires c = let q = c.requires in (accepted-plain 16383 _ q.accepted, q.bytes_long)

pub write_all-requires : goal.write_all-requires
write_all-requires c =
    let q = c.requires in
    bytes_classed _ _ _ q.accepted q.bytes_long c.fill.ensures
