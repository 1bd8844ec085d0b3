-- What is missing tells whether the words passed are full.
use mathlib.Core.List.{List}
use Prim.Native.Nat.{ℕ, ◌-◌, ◌^◌}
use lib.ListN.{get_or}
use lib.Bits.{bit_or}
use Rattle.row_words.specs.Row as rows
use Rattle.row_words.proofs.Compared.{Tells}
use Rattle.row_tests.proofs.everywhere.Given as goal

abbrev pub either : List ℕ → List ℕ → ℕ → ℕ
either g p v = bit_or (get_or g v 0) (get_or p v 0)

abbrev pub full : ℕ → ℕ → ℕ
full positions v = 2 ^ rows.filled positions v - 1

abbrev pub invariant-loop-w : goal.invariant-loop-w
invariant-loop-w l = Tells l.missing (either l.g l.p) (full l.positions) l.w
