-- What a plain form is drafted with in a room of a size, where nothing is drafted yet, and what numbering it writes.
use Prim.Native.Nat.{ℕ, ◌+◌, ◌*◌, ◌≤◌, ◌<◌}
use native.Mathlib.Omega.{arith}
use mathlib.Core.Path.{◌≡◌}
use mathlib.Core.Bool.{true, false}
use mathlib.Core.List.{List}
use lib.ListN.{length, replicate, length-replicate}
use Rattle.logic.specs.NegationNormalForm.{plain}
use Rattle.transforms.proofs.Letters.{letters-plain}
use Rattle.logic.proofs.Numbers.{get_or-zeros}
use Rattle.std.specs.Prelude.{Option, None, Some}
use Rattle.table.specs.Answers.{OrNone}
use Rattle.table.specs.Table.{rule}
use Rattle.table.specs.Steps.{plain_table}
use Rattle.numbering.proofs.Accepted.{rule_small}
use Rattle.placing.specs.Written.{Written}
use Rattle.drafts.specs.Drafted.{Drafted}
use Rattle.number_rooms.specs.Rooms as numbers
use Rattle.number_rooms.proofs.Rooms.{still_long}
use Rattle.plain_rooms.specs.Rooms.{Empty, Asked}

-- a draft of n slots for the forms of a table, numbered in a room for m
module _ (n : ℕ) {t out : List ℕ} (q : Asked n t out) where
  pub nothing-drafted : n ≤ 1048576 → Empty t (replicate n 0)
  nothing-drafted h = record {
    limit = q.limit;
    accepted = q.accepted;
    slots = omega (arith, length-replicate {A = ℕ} n 0, q.few);
    few = omega (arith, length-replicate {A = ℕ} n 0);
    empty = get_or-zeros n;
  }

  module _ (d : List ℕ) (root : ℕ) (f : Drafted d (plain true (rule t)) root) where
    pub to_number : {m : ℕ} → n ≤ m → length d ≡ length (replicate {A = ℕ} n 0) → numbers.Asked m d root out
    to_number h same = record { formula = plain true (rule t); drafted = f; long = omega (arith, still_long n same, h); lent = omega (arith, q.few, q.lent, h) }

    module _ (made : List ℕ) where
      written : (r : ℕ) → numbers.Made d root out made r → Written (plain_table t) out made r
      unfolding plain_table
      written r m = m.written (plain true (rule t)) f (letters-plain (λ p. p < 16384) true (rule t) (rule_small false q.limit t q.accepted))

      pub form-written : (r : Option ℕ) → OrNone (λ r. numbers.Made d root out made r) r → OrNone (λ r. Written (plain_table t) out made r) r
      form-written None m = written 0 m
      form-written (Some r) m = (m.0, written r m.1)

-- a table of fewer slots asks for a smaller room
pub asked-fewer : {slots fewer : ℕ} {t out : List ℕ} → Asked slots t out → 2 * length t + 2 ≤ fewer → Asked fewer t out
asked-fewer q h = record { limit = q.limit; accepted = q.accepted; few = h; lent = q.lent }
