-- A step that makes words of a table: check, make, reply.
use Rattle.std.specs.Prelude.{ℕ, Bool, true, false, cond, List, [], ◌++◌, length, drop, replicate, eqb}
use Rattle.refusals.specs.declared.Report.{Report}
use Rattle.refusals.specs.Refusals.{Outcome}
use Rattle.std.specs.Prelude.{Ok, Err}
use Rattle.table.specs.Answers.{Answer}
use Rattle.table.specs.Answers.{FormAnswer}
use Rattle.table.specs.declared.answer.Form.TheVariants as form
use Rattle.table.specs.declared.settings.Limits.{Limits}
use Rattle.refusals.specs.Refusals.{Check, first, report_of, outcome_report, number_of}
use Rattle.table.specs.Limits.{plain_limit, most_words}
use Rattle.table.specs.Header.{headed, body, headed_checks}
use Rattle.table.specs.StepChecks.{limit_checks, fixpoint_checks, result_checks, sample_checks}
use Rattle.table.specs.Steps.{class_bytes, plain_table, is_normal, normal_table, form_table, dialect_table, after_table}

-- what a step checks of what is handed over, before 12, and what it makes of it
pub record Step : Type 0 where
  pub checks : List ℕ → List Check
  pub makes : List ℕ → List ℕ

-- a step by limits that a house states: they are looked at first of all (document 02, N6)
abbrev pub stated : Limits → Step → Step
stated l s = record { checks = λ t. limit_checks l ++ s.checks t; makes = s.makes }

-- the steps of document 01, over tables with their header; the class step makes bytes, one a word, the others a table with its header
abbrev pub class_step : Step
class_step = record { checks = headed_checks true most_words; makes = λ s. class_bytes (body s) }

abbrev pub plain_step : Limits → Step
plain_step l = stated l (record { checks = headed_checks false l.written; makes = λ s. headed (plain_table (body s)) })

-- 11 is looked at of a table that is not its own form, and of no other are words made, so that there is nothing for 12 (document 02, N11)
abbrev pub form_checks : Limits → List ℕ → List Check
form_checks l t = cond (is_normal t) [] (fixpoint_checks l.fixpoints 1 t)

abbrev pub normal_step : Limits → Step
normal_step l = stated l (record {
  checks = λ s. headed_checks true (plain_limit l) s ++ form_checks l (body s);
  makes = λ s. cond (is_normal (body s)) [] (headed (normal_table (body s)));
})

-- document 02, N4
abbrev pub dialect_step : Step
dialect_step = record { checks = headed_checks true most_words; makes = λ s. headed (dialect_table (body s)) }

-- document 02, N12, by a sample and how many letters it drives: 22 and 21 after the checks of the table
abbrev pub after_step : ℕ → ℕ → Step
after_step v driven = record {
  checks = λ s. headed_checks true most_words s ++ sample_checks driven (body s);
  makes = λ s. headed (after_table v (body s));
}

-- 12 is looked at last, for the slice that the words are to be written to
unfoldable pub outcome_of : Step → List ℕ → ℕ → Outcome
outcome_of s t slice = first (s.checks t ++ result_checks (length (s.makes t)) slice)

abbrev pub answer_by : Outcome → ℕ → Answer
answer_by (Ok tt) n = Ok n
answer_by (Err r) n = Err r

unfoldable pub answer_of : Step → List ℕ → ℕ → Answer
answer_of s t slice = answer_by (outcome_of s t slice) (length (s.makes t))

-- accepted: the words at the front, and what stood past them; refused by 12: every word 0; refused otherwise: no change
abbrev pub result_by : Outcome → List ℕ → List ℕ → List ℕ
result_by (Ok tt) made slice = made ++ drop (length made) slice
result_by (Err r) made slice = cond (eqb (number_of r) 12) (replicate (length slice) 0) slice

unfoldable pub result_of : Step → List ℕ → List ℕ → List ℕ
result_of s t slice = result_by (outcome_of s t (length slice)) (s.makes t) slice

-- an answer by document 01's numbers: the refusal's number and place, both 0 where words were made; and how many were
abbrev pub answer_report : Answer → Report
answer_report (Ok n) = outcome_report (Ok tt)
answer_report (Err r) = report_of r

abbrev pub answer_words : Answer → ℕ
answer_words (Ok n) = n
answer_words (Err r) = 0

abbrev pub answer_number : Answer → ℕ
answer_number a = (answer_report a).0

-- the normal-form step's answer: the table that was handed over, of so many words, or so many that were made
abbrev pub form_by : Answer → Bool → ℕ → FormAnswer
form_by (Ok n) true source = Ok (form.Source source)
form_by (Ok n) false source = Ok (form.Made n)
form_by (Err r) own source = Err r

unfoldable pub form_of : Limits → List ℕ → ℕ → FormAnswer
form_of l s slice = form_by (answer_of (normal_step l) s slice) (is_normal (body s)) (length s)

-- the words that are handed back: those of the form with its header; a refusal hands back none
abbrev pub handed_by : FormAnswer → List ℕ → List ℕ
handed_by (Ok (form.Source n)) words = words
handed_by (Ok (form.Made n)) words = words
handed_by (Err r) words = []

unfoldable pub handed : Limits → List ℕ → ℕ → List ℕ
handed l s slice = handed_by (form_of l s slice) (headed (form_table (body s)))

-- a form's answer by document 01's numbers, its length, and whether its source is the form
abbrev pub form_report : FormAnswer → Report
form_report (Ok (form.Source n)) = outcome_report (Ok tt)
form_report (Ok (form.Made n)) = outcome_report (Ok tt)
form_report (Err r) = report_of r

abbrev pub form_words : FormAnswer → ℕ
form_words (Ok (form.Source n)) = n
form_words (Ok (form.Made n)) = n
form_words (Err r) = 0

abbrev pub is_source : FormAnswer → Bool
is_source (Ok (form.Source n)) = true
is_source (Ok (form.Made n)) = false
is_source (Err r) = false

abbrev pub form_number : FormAnswer → ℕ
form_number f = (form_report f).0
