-- What comes in at the end is the value at the loop start.
use mathlib.Core.Path.{◌∙◌, ap}
use mathlib.Core.Bool.{Bool}
use native.Mathlib.Omega.{arith}
use Rattle.row_words.specs.Row as rows
use Rattle.row_words.proofs.Rows.{row-bit}
use Rattle.rows.proofs.write_next.Goals as goal

pub returns : goal.returns
returns c F A e =
    let L = c.args.positions in
    c.shift_words.ensures A e
    ∙ ap (λ (b : Bool). rows.row L (rows.next L A b)) (c.bit-end.ensures ∙ row-bit L A _ e c.args.start (omega arith))
