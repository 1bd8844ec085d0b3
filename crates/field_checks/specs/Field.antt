-- The checks 8, 5, 6 and 7 of one field of word number n, and what checks that mark on the way tell.
use Rattle.std.specs.Prelude.{ℕ, ◌≡◌, Bool, not, ◌||◌, List, [], ◌∷◌, ltb, leb, eqb}
use Rattle.refusals.specs.declared.Refusal.TheVariants.{OperandZero, OperandNotEarlier, LetterOutOfRange, FieldNotZero}
use Rattle.refusals.specs.Refusals.{Outcome}
use Rattle.std.specs.Prelude.{Ok, Err}
use Rattle.refusals.specs.Refusals.{Check, first, ◌⇒◌}

abbrev pub blank_checks : ℕ → ℕ → List Check
blank_checks a n = (not (eqb a 0) ⇒ FieldNotZero n) ∷ []

abbrev pub operand_checks : ℕ → ℕ → List Check
operand_checks a n = (eqb a 0 ⇒ OperandZero n) ∷ (leb n a ⇒ OperandNotEarlier n) ∷ []

abbrev pub letter_checks : ℕ → ℕ → List Check
letter_checks a n = ((eqb a 0 || ltb 32 a) ⇒ LetterOutOfRange n) ∷ []

-- what is said of two lists of checks, one after the other
abbrev pub and_then : Outcome → Outcome → Outcome
and_then (Ok tt) o = o
and_then (Err r) o = Err r

-- r is what the checks say, and where they all pass the marks are those named
pub record Checked (checks : List Check) (named : List Bool) (r : Outcome) (marks : List Bool) : Type 0 where
  pub answer : r ≡ first checks
  pub passed : r ≡ Ok tt → marks ≡ named
