-- What drafting a conversion is asked with, in a room of a size, where its root stands, and what numbering that writes.
use Prim.Native.Nat.{ℕ, ◌+◌, ◌*◌, ◌≤◌, ◌<◌}
use native.Mathlib.Omega.{arith}
use mathlib.Core.Path.{◌≡◌}
use mathlib.Core.Bool.{true}
use mathlib.Core.List.{List}
use lib.ListN.{length, replicate, length-replicate}
use Rattle.transforms.specs.Dialect.{dialect}
use Rattle.std.specs.Prelude.{Ok, Option, None, Some}
use Rattle.table.specs.Checks.{checked}
use Rattle.table.specs.Answers.{OrNone}
use Rattle.table.specs.Table.{rule}
use Rattle.table.specs.Steps.{dialect_table}
use Rattle.table.proofs.Accepted.{accepted-well-formed}
use Rattle.numbering.proofs.Accepted.{rule_small}
use Rattle.placing.specs.Written.{Written}
use Rattle.drafts.specs.Drafted.{Drafted}
use Rattle.number_rooms.specs.Rooms as numbers
use Rattle.number_rooms.proofs.Rooms.{still_long}
use Rattle.dialect_slots.specs.Filling.{Room, Filled}
use Rattle.dialect_draft.proofs.Letters.{letters-dialect}
use Rattle.dialect_rooms.specs.Rooms.{Asked}

-- the rule's conversion stands at the last word's slot
root_drafted : (t d : List ℕ) → checked true 16383 t ≡ Ok tt → Filled t d (length t) → Drafted d (dialect (rule t)) (2 * length t + 1)
unfolding rule
root_drafted t d ok f = f.form (length t) (accepted-well-formed true 16383 t ok).some (omega arith)

-- a draft of n slots for the words of a table, numbered in a room for m
module _ (n : ℕ) {t out : List ℕ} (q : Asked n t out) where
  pub room_for : n ≤ 1048576 → Room t (replicate n 0)
  room_for h = record {
    accepted = q.accepted;
    slots = omega (arith, length-replicate {A = ℕ} n 0, q.few);
    few = omega (arith, length-replicate {A = ℕ} n 0);
  }

  module _ {d : List ℕ} (f : Filled t d (length t)) where
    pub to_number : {m : ℕ} → n ≤ m → length d ≡ length (replicate {A = ℕ} n 0) → numbers.Asked m d (2 * length t + 1) out
    to_number h same = record {
      formula = dialect (rule t);
      drafted = root_drafted t d q.accepted f;
      long = omega (arith, still_long n same, h);
      lent = omega (arith, q.few, q.lent, h);
    }

    module _ (made : List ℕ) where
      written : (r : ℕ) → numbers.Made d (2 * length t + 1) out made r → Written (dialect_table t) out made r
      unfolding dialect_table
      written r m = m.written (dialect (rule t)) (root_drafted t d q.accepted f) (letters-dialect (λ p. p < 16384) (rule t) (rule_small true 16383 t q.accepted))

      pub conversion_written : (r : Option ℕ) → OrNone (λ r. numbers.Made d (2 * length t + 1) out made r) r → OrNone (λ r. Written (dialect_table t) out made r) r
      conversion_written None m = written 0 m
      conversion_written (Some r) m = (m.0, written r m.1)
