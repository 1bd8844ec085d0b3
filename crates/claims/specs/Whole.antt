-- The way from a written table with its header to its form: the plain-form step, and the normal-form step on exactly the table, with its header, that
-- it answered, which is the form's source.
use Rattle.std.specs.Prelude.{ℕ, List}
use Rattle.table.specs.Answers.{Answer}
use Rattle.std.specs.Prelude.{Ok, Err}
use Rattle.table.specs.Answers.{FormAnswer}
use Rattle.table.specs.declared.answer.Form.TheVariants as form
use Rattle.table.specs.declared.settings.Limits.{Limits}
use Rattle.table.specs.Header.{headed, body}
use Rattle.table.specs.Steps.{plain_table}
use Rattle.table.specs.Frame.{plain_step, normal_step, answer_of, result_of, form_of}

abbrev pub form_after : Answer → Limits → List ℕ → ℕ → FormAnswer
form_after (Ok n) l t slice = form_of l (headed (plain_table (body t))) slice
form_after (Err r) l t slice = Err r

-- the answer, by the lengths of the two slices
unfoldable pub whole_form : Limits → List ℕ → ℕ → ℕ → FormAnswer
whole_form l t plainSlice formSlice = form_after (answer_of (plain_step l) t plainSlice) l t formSlice

abbrev pub result_after : Answer → Limits → List ℕ → List ℕ → List ℕ
result_after (Ok n) l t form = result_of (normal_step l) (headed (plain_table (body t))) form
result_after (Err r) l t form = form

-- what the form's slice holds afterwards
unfoldable pub whole_result : Limits → List ℕ → ℕ → List ℕ → List ℕ
whole_result l t plainSlice form = result_after (answer_of (plain_step l) t plainSlice) l t form
