-- The answers of the steps as numbers: document 01's number and place, and what an accepted call says.
use Rattle.std.specs.Prelude.{ℕ, ◌≡◌, Bool}
use Rattle.table.specs.Answers.{Answer}
use Rattle.table.specs.Answers.{FormAnswer}
use Rattle.table.specs.Frame.{answer_report, answer_words, form_report, form_words, is_source}

-- a made table's answer in lent numbers: the refusal's two, and the table's length, 0 where there is none
pub record TableReply (a : Answer) (number words place : ℕ) : Type 0 where
  pub is_number : number ≡ (answer_report a).0
  pub is_words : words ≡ answer_words a
  pub is_place : place ≡ (answer_report a).1

-- a form's answer in lent numbers: the refusal's two, whether the form is its source, and its length, 0 where there is none
pub record FormReply (f : FormAnswer) (number : ℕ) (own : Bool) (words place : ℕ) : Type 0 where
  pub is_number : number ≡ (form_report f).0
  pub is_own : own ≡ is_source f
  pub is_words : words ≡ form_words f
  pub is_place : place ≡ (form_report f).1
