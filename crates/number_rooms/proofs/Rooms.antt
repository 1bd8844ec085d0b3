-- A room of n slots and an index of m numbers, all of them 0: a draft can be numbered there, and its root's table is what is written.
use Prim.Native.Nat.{ℕ, ◌/◌, ◌≤◌, ◌<◌}
use native.Mathlib.Omega.{arith}
use mathlib.Core.Path.{◌≡◌, sym, ◌∙◌}
use mathlib.Core.List.{List}
use lib.ListN.{length, replicate, length-replicate}
use Rattle.logic.proofs.Numbers.{get_or-zeros}
use Rattle.std.specs.Prelude.{Option, None, Some}
use Rattle.table.specs.Answers.{OrNone}
use Rattle.table.specs.Numbering.{room}
use Rattle.placing.specs.State.{State, state, written, Numbered}
use Rattle.placing.proofs.Written.{written_all}
use Rattle.draft_numbering.specs.Numberable.{Numberable, Rooted}
use Rattle.draft_numbering.proofs.Fresh.{fresh, fresh-numberable}
use Rattle.number_rooms.specs.Rooms.{Asked, Made}

-- an array of n zeros, lent as a slice
pub zeros_long : (n : ℕ) → n ≡ length (replicate {A = ℕ} n 0)
zeros_long n = sym (length-replicate {A = ℕ} n 0)

-- and as long after what it was lent to has written there
pub still_long : (n : ℕ) {k : ℕ} → k ≡ length (replicate {A = ℕ} n 0) → n ≡ k
still_long n same = zeros_long n ∙ sym same

-- a larger room does as well
pub asked_larger : {n m : ℕ} {d out : List ℕ} {root : ℕ} → Asked n d root out → n ≤ m → Asked m d root out
asked_larger q h = record { formula = q.formula; drafted = q.drafted; long = omega (arith, q.long, h); lent = omega (arith, q.lent, h) }

pub numberable : (n m : ℕ) {d out : List ℕ} {root : ℕ} → Asked n d root out → n ≤ 1048576 → room n < m / 2 → m ≤ 32768
    → Numbered (state out (replicate m 0)) × Numberable d root (replicate n 0) (replicate n 0) (written (state out (replicate m 0)))
numberable n m {d} {out} q few places most =
    fresh-numberable {d = replicate n 0} q.formula (omega (arith, zeros_long n)) (omega (arith, zeros_long n, q.long)) q.drafted (fresh n m out (omega (arith, q.lent)) most)

-- what is made of a number, or of none
module _ (m : ℕ) (d : List ℕ) (root : ℕ) (out numbers : List ℕ) (e : State) where
  made : (r : ℕ) → Rooted d root (state out (replicate m 0)) e numbers r → Made d root out e.out r
  made r q = record { written = λ φ drafted small. written_all φ small (q.placed φ drafted) (get_or-zeros m 0) }

  pub all_written : (r : Option ℕ) → OrNone (λ n. Rooted d root (state out (replicate m 0)) e numbers n) r → OrNone (λ n. Made d root out e.out n) r
  all_written None q = made 0 q
  all_written (Some n) q = (q.0, made n q.1)
