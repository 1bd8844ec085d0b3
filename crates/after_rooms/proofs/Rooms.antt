-- What drafting a step is asked with, in a room of a size, where its root stands, and what numbering that writes.
use Prim.Native.Nat.{ℕ, ◌+◌, ◌*◌, ◌≤◌, ◌<◌}
use native.Mathlib.Omega.{arith}
use mathlib.Core.Path.{◌≡◌}
use mathlib.Core.Bool.{true}
use mathlib.Core.List.{List}
use lib.ListN.{length, replicate, length-replicate}
use Rattle.transforms.specs.Folding.{fold}
use Rattle.transforms.specs.After.{after}
use Rattle.transforms.proofs.Folding.{fold-letters}
use Rattle.transforms.proofs.After.{after_letters}
use Rattle.std.specs.Prelude.{Ok, Option, None, Some}
use Rattle.table.specs.Checks.{checked}
use Rattle.table.specs.Answers.{OrNone}
use Rattle.table.specs.Table.{rule}
use Rattle.table.specs.Steps.{after_table}
use Rattle.table.proofs.Accepted.{accepted-well-formed}
use Rattle.numbering.proofs.Accepted.{rule_small}
use Rattle.placing.specs.Written.{Written}
use Rattle.drafts.specs.Drafted.{Drafted}
use Rattle.number_rooms.specs.Rooms as numbers
use Rattle.number_rooms.proofs.Rooms.{still_long}
use Rattle.after_draft.specs.Filling.{Room, Filled}
use Rattle.after_rooms.specs.Rooms.{Asked}

-- what remains of the rule stands at the last slot of the last word
root_drafted : {v : ℕ} (t d : List ℕ) → checked true 16383 t ≡ Ok tt → Filled v t d (length t) → Drafted d (fold (after v (rule t))) (3 * length t + 2)
unfolding rule
root_drafted t d ok f = (f.word (length t) (accepted-well-formed true 16383 t ok).some (omega arith)).step

-- a draft of n slots for the words of a table
module _ (n : ℕ) {t out : List ℕ} (q : Asked n t out) where
  pub room_for : n ≤ 1048576 → Room t (replicate n 0)
  room_for h = record {
    accepted = q.accepted;
    slots = omega (arith, length-replicate {A = ℕ} n 0, q.few);
    few = omega (arith, length-replicate {A = ℕ} n 0);
  }

  module _ (v : ℕ) {d : List ℕ} (f : Filled v t d (length t)) where
    pub to_number : length d ≡ length (replicate {A = ℕ} n 0) → numbers.Asked n d (3 * length t + 2) out
    to_number same = record {
      formula = fold (after v (rule t));
      drafted = root_drafted t d q.accepted f;
      long = omega (arith, still_long n same);
      lent = omega (arith, q.few, q.lent);
    }

    module _ (made : List ℕ) where
      written : (r : ℕ) → numbers.Made d (3 * length t + 2) out made r → Written (after_table v t) out made r
      unfolding after_table
      written r m =
          let small = fold-letters (λ p. p < 16384) (after v (rule t)) (after_letters (λ p. p < 16384) v (rule t) (rule_small true 16383 t q.accepted)) in
          m.written (fold (after v (rule t))) (root_drafted t d q.accepted f) small

      pub remainder_written : (r : Option ℕ) → OrNone (λ r. numbers.Made d (3 * length t + 2) out made r) r → OrNone (λ r. Written (after_table v t) out made r) r
      remainder_written None m = written 0 m
      remainder_written (Some r) m = (m.0, written r m.1)
