-- The classes, and then the numbers.
use borrow.Author.Rules.{rules}
use Rattle.class_bytes.proofs.Words.{accepted-plain}
use Rattle.state_numbers.proofs.Counting.{bytes_classed, all_filled}
use Rattle.state_numbers.proofs.fill.Goals as goal

pub fill-requires : goal.fill-requires
fill-requires c = let q = c.requires in (accepted-plain 16383 _ q.accepted, q.bytes_long)

pub number-requires : goal.number-requires
number-requires c =
    let q = c.requires in
    (bytes_classed _ _ _ q.accepted q.bytes_long c.fill.ensures, q.starts_long)

pub returns : goal.returns
returns c =
    let numbered = c.number in
    let q = c.requires in
    all_filled (bytes_classed _ _ _ q.accepted q.bytes_long c.fill.ensures) numbered.ensures.0 numbered.ensures.1
