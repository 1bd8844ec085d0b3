-- The first check that applies, of one list of checks after another: where none of the first list applies, the second decides.
use mathlib.Core.Path.{◌≡◌, refl}
use mathlib.Core.Bool.{Bool}
use mathlib.Core.List.{List, ◌++◌}
use Rattle.refusals.specs.declared.Refusal.{Refusal}
use Rattle.refusals.specs.Refusals.{Outcome}
use Rattle.std.specs.Prelude.{Ok, Err}
use Rattle.refusals.specs.Refusals.{Check, first}
use Rattle.refusals.proofs.First.{first_append-accepted, first_append-refused}
use Rattle.field_checks.specs.Field.{and_then, Checked}

pub first_append : (xs ys : List Check) → first (xs ++ ys) ≡ and_then (first xs) (first ys)
first_append xs ys = go (first xs) refl
  where
    go : (o : Outcome) → first xs ≡ o → first (xs ++ ys) ≡ and_then o (first ys)
    go (Ok tt) e = first_append-accepted xs ys e
    go (Err r) e = first_append-refused xs ys r e

-- a refusal leaves nothing to say of marks
pub refused : {cs : List Check} {named m : List Bool} {r : Refusal} → Err r ≡ first cs → Checked cs named (Err r) m
refused e = record { answer = e; passed = λ z. cc }
