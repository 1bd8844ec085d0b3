use Rattle.std.proofs.Common.{◌≡◌, ℕ, ◌+◌, ◌%◌, ◌≤◌, List, ◌++◌, arith, length, take, length-append, length-take-le}
use Rattle.std.proofs.KnownBytes.{Consumes-trans}
use Rattle.console.proofs.input.rest.Goals as goal

-- A piece more than the bytes so far, of which `odd` were beyond whole words.
counted : (bytes piece : List ℕ) (n odd : ℕ) → n ≤ length piece → odd ≡ length bytes % 4 → (odd + n) % 4 ≡ length (bytes ++ take n piece) % 4
counted bytes piece n odd fits so_far = rw (length-append bytes (take n piece), length-take-le n piece fits) (omega arith)

pub loop-preserved : goal.loop-preserved
loop-preserved g c =
    let before = c.loop.invariant in
    let read = c.in_ok-n in
    let piece = c.fill.new.buffer in (
      before.0 ++ take read.n piece,
      Consumes-trans _ _ _ _ _ before.1 read.ensures.bytes,
      counted before.0 piece read.n c.loop.odd read.ensures.bound.0 before.2,
    )
