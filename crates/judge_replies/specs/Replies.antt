-- The answers of the judge and of the row call as numbers: document 01's number and place, and what an accepted call says.
use Rattle.std.specs.Prelude.{ℕ, ◌-◌, ◌*◌, ◌≡◌, Bool}
use Rattle.refusals.specs.Refusals.{Outcome}
use Rattle.std.specs.Prelude.{Ok, Err}
use Rattle.refusals.specs.Refusals.{outcome_number, outcome_place}
use Rattle.row_words.specs.Row.{row_words}
use Rattle.judging.specs.Judging.{JudgeAnswer}
use Rattle.judge_laws.specs.Answers.{said}

-- a judgement's answer in lent numbers
pub record JudgeReply (a : JudgeAnswer) (number : ℕ) (holds : Bool) (moments failing place : ℕ) : Type 0 where
  pub is_number : number ≡ (said a).number
  pub is_holds : holds ≡ (said a).holds
  pub is_moments : moments ≡ (said a).moments
  pub is_failing : failing ≡ (said a).failing
  pub is_place : place ≡ (said a).place

-- where the rule's own row starts among the rows of a scratch, one for each of so many words of a table, which leave out its header, and how long
-- it is; both 0 where there is none
abbrev pub row_from : Outcome → ℕ → ℕ → ℕ
row_from (Ok tt) table samples = (table - 1) * row_words samples
row_from (Err r) table samples = 0

abbrev pub row_length : Outcome → ℕ → ℕ
row_length (Ok tt) samples = row_words samples
row_length (Err r) samples = 0

-- the row call's reply in lent numbers
pub record RowReply (o : Outcome) (table samples number from words place : ℕ) : Type 0 where
  pub is_number : number ≡ outcome_number o
  pub is_from : from ≡ row_from o table samples
  pub is_words : words ≡ row_length o samples
  pub is_place : place ≡ outcome_place o
