-- The bit of a position is the value there.
use mathlib.Core.Path.{◌∙◌}
use Rattle.row_words.proofs.Rows.{row-bit}
use Rattle.row_reading.proofs.holds_at.Goals as goal

pub returns : goal.returns
returns c L f e h = c.bit.ensures ∙ row-bit L f _ e _ h
