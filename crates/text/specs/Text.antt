-- The step that makes a table of a text, in the frame of the other steps: its checks 25, 20, 19 and 2, and what it makes.
use Rattle.std.specs.Prelude.{ℕ, List, [], ◌∷◌, length, ltb}
use Rattle.std.proofs.Math.Option.{Option, none, some}
use Rattle.logic.specs.Formula.{Formula}
use Rattle.refusals.specs.declared.Refusal.TheVariants.{TooManyWords, NotGrammar, TextTooLong}
use Rattle.table.specs.declared.settings.Limits.{Limits}
use Rattle.refusals.specs.Refusals.{◌⇒◌}
use Rattle.table.specs.Numbering.{table_of}
use Rattle.table.specs.Header.{headed}
use Rattle.table.specs.Frame.{Step, stated}
use Rattle.grammar.specs.Reader.{is_none, reading_of, departure_of}
use Rattle.parsing.specs.Parsed.{most_bytes}

abbrev pub table_by : Option Formula → List ℕ
table_by none = []
table_by (some φ) = table_of φ

-- the words of the formula that a text is related to
unfoldable pub text_table : List ℕ → List ℕ
text_table text = table_by (reading_of text)

-- by a written limit
abbrev pub read_step : ℕ → Step
read_step limit = record {
  checks =
      λ text.
      (ltb most_bytes (length text) ⇒ TextTooLong)
      ∷ (is_none (reading_of text) ⇒ NotGrammar (departure_of text))
      ∷ (ltb limit (length (text_table text)) ⇒ TooManyWords)
      ∷ [];
  makes = λ text. headed (text_table text);
}

-- by the limits of a house
abbrev pub text_step : Limits → Step
text_step l = stated l (read_step l.written)
