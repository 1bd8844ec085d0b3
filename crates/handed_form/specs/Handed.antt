-- Where the form that is handed back lies.
use Rattle.std.specs.Prelude.{ℕ}
use Rattle.table.specs.Answers.{FormAnswer}
use Rattle.table.specs.declared.answer.Form.TheVariants.{Source, Made}
use Rattle.std.specs.Prelude.{Ok, Err}

-- by block and offset: the source, or the front of the result, of which a refusal hands back an empty part
abbrev pub handed_at : FormAnswer → ℕ × ℕ → ℕ × ℕ → ℕ × ℕ
handed_at (Ok (Source n)) source result = source
handed_at (Ok (Made n)) source result = result
handed_at (Err r) source result = result
