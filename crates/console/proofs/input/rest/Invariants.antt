-- What is counted is what the bytes that were taken have beyond whole words.
use Rattle.std.proofs.Common.{◌≡◌, ℕ, ◌%◌, List, length}
use Rattle.std.specs.Io.KnownBytes.{Consumes}
use Rattle.console.proofs.input.rest.Given as goal

abbrev pub invariant-loop : goal.invariant-loop
invariant-loop g l =
    (bytes : List ℕ)
    × Consumes (g.R.Read.remaining l.initial.reader) (g.R.Read.remaining l.reader) bytes
    × (l.odd ≡ length bytes % 4)
