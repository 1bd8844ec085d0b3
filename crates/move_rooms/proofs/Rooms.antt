-- What drafting a move is asked with, in a room of a size, and what numbering it writes.
use Prim.Native.Nat.{ℕ, ◌+◌, ◌*◌, ◌≤◌, ◌<◌}
use native.Mathlib.Omega.{arith}
use mathlib.Core.Path.{◌≡◌, refl}
use mathlib.Core.List.{List}
use lib.ListN.{length}
use Rattle.std.specs.Prelude.{Option, None, Some}
use Rattle.logic.specs.Formula.{Formula}
use Rattle.drafts.specs.Drafted.{Drafted}
use Rattle.table.specs.Answers.{OrNone}
use Rattle.automata_tables.specs.Moves.{as_formula, written_at, move_table}
use Rattle.move_roots.specs.Roots.{Drawn}
use Rattle.move_roots.proofs.Roots.{written_small, drafted-short}
use Rattle.number_rooms.specs.Rooms as numbers
use Rattle.move_rooms.specs.Rooms.{Asked, Moved}

-- a draft of n slots for the words of a table, numbered in a room of m slots
module _ (n m : ℕ) (less : n ≤ m) {t out : List ℕ} (q : Asked n t out) where
  pub to_number : {d : List ℕ} {root : ℕ} (φ : Formula) → Drafted d φ root → n ≡ length d → numbers.Asked m d root out
  to_number φ f long = record { formula = φ; drafted = f; long = omega (arith, long); lent = omega (arith, q.few, q.lent) }

  -- what is made of a number, or of none
  module _ (d made : List ℕ) (s v root : ℕ) {bytes starts : List ℕ} {w bit : ℕ} (drawn : Drawn t bytes starts s w bit) (f : Drafted d (as_formula (written_at t s v)) root)
      (h : root < 7 * length t + 7) (long : n ≡ length d) (few : n ≤ 1048576) where
    one_moved : (r : ℕ) → numbers.Made d root out made r → Moved t s v out made r
    unfolding move_table
    one_moved r k = record {
      written = k.written (as_formula (written_at t s v)) f (written_small drawn.kept s v);
      short = drafted-short d d (as_formula (written_at t s v)) (omega arith) refl f h;
    }

    pub moved : (r : Option ℕ) → OrNone (λ r. numbers.Made d root out made r) r → OrNone (λ r. Moved t s v out made r) r
    moved None k = one_moved 0 k
    moved (Some r) k = (k.0, one_moved r k.1)
