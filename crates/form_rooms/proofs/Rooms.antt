-- What a form is asked with in a room, and that it stands at the front of its slice.
use Prim.Native.Nat.{ℕ, ◌/◌, ◌≤◌, ◌<◌}
use native.Mathlib.Omega.{arith}
use mathlib.Core.Path.{refl}
use mathlib.Core.Bool.{true}
use mathlib.Core.List.{List}
use lib.ListN.{replicate, length-replicate}
use Rattle.std.specs.Prelude.{Option, Some, None}
use Rattle.logic.proofs.Numbers.{get_or-zeros}
use Rattle.transforms.specs.NormalForm.{normal_form}
use Rattle.transforms.specs.Folding.{fold}
use Rattle.table.specs.Answers.{OrNone}
use Rattle.table.specs.Table.{rule}
use Rattle.table.specs.Numbering.{build}
use Rattle.table.specs.Steps.{fixpoints, normal_table}
use Rattle.numbering.proofs.Accepted.{rule_small}
use Rattle.placing.specs.State.{State, state, written, Placing}
use Rattle.placing.specs.Written.{Written}
use Rattle.placing.proofs.Putting.{numbered_none}
use Rattle.placing.proofs.Written.{written_all}
use Rattle.form_table.specs.Formable.{Formable}
use Rattle.form_rooms.specs.Rooms.{most_slots, Accepted, Positioned, Sized}
use Rattle.normal_laws.proofs.Promise.{folded_letters}

-- what a form is asked with, in each room
pub formable : {t positions : List ℕ} {bits : ℕ} {out : List ℕ} (slots m words : ℕ) → Positioned t positions bits × Sized t slots out words → slots ≤ most_slots → words < m / 2 → m ≤ 32768
    → Formable t positions bits (replicate slots 0) (replicate slots 0) (replicate slots 0) (replicate slots 0) (state out (replicate m 0))
formable {out = out} slots m words q s h l = record {
  room = record {
    limit = q.0.table.limit;
    accepted = q.0.table.accepted;
    long = rw (length-replicate {A = ℕ} slots 0) q.1.few_slots;
    narrow = rw (length-replicate {A = ℕ} slots 0) (omega arith);
  };
  kept = q.0.kept;
  long = refl;
  numbers_long = omega arith;
  stack_long = omega arith;
  numbered = numbered_none out m (omega (arith, q.1.few_words)) l;
  bits_are = q.0.bits_are;
  few = omega (arith, q.0.bits_are, q.0.table.few);
}

-- the form was placed after no words
formed : {t out : List ℕ} → Accepted t → (m : ℕ) {e : State} {r : ℕ}
    → Placing (state out (replicate m 0)) e (build (written (state out (replicate m 0))) (fold (normal_form (fixpoints t) (rule t)))) r → Written (normal_table t) out e.out r
unfolding normal_table
formed {t} q m p =
    written_all (fold (normal_form (fixpoints t) (rule t))) (folded_letters q.limit t q.accepted (omega (arith, q.short)) (λ p. p < 16384) (rule_small true q.limit t q.accepted)) p (get_or-zeros m 0)

pub formed_all : {t : List ℕ} → Accepted t → (m : ℕ) (e : State) (out : List ℕ) (r : Option ℕ)
    → OrNone (λ n. Placing (state out (replicate m 0)) e (build (written (state out (replicate m 0))) (fold (normal_form (fixpoints t) (rule t)))) n) r
    → OrNone (λ n. Written (normal_table t) out e.out n) r
formed_all q m e out None p = formed q m p
formed_all q m e out (Some n) p = (p.0, formed q m p.1)
