-- What a step answers: how many words it made, or why it made none; and what is answered of a form.
use Rattle.std.specs.Prelude.{ℕ, ◌<◌, Option, Some, None, Result}
use Rattle.refusals.specs.declared.Refusal.{Refusal}
use Rattle.table.specs.declared.answer.Form.{Form}

abbrev pub Answer : Type 0
Answer = Result ℕ Refusal

abbrev pub FormAnswer : Type 0
FormAnswer = Result Form Refusal

-- what is said of a number, 0 where there is none
abbrev pub OrNone : (ℕ → Type 0) → Option ℕ → Type 0
OrNone P None = P 0
OrNone P (Some n) = (0 < n) × P n

abbrev pub or_zero : Option ℕ → ℕ
or_zero None = 0
or_zero (Some n) = n
