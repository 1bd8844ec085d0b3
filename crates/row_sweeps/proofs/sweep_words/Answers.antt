-- The closing of the goals that have taken in what is carried.
use mathlib.Core.Path.{◌∙◌}
use Rattle.row_words.proofs.Rows.{row_ext}
use Rattle.row_sweeps.proofs.Sweeps.{closed_carried}
use Rattle.row_sweeps.proofs.sweep_words.Goals as goal

pub returns : goal.returns
returns c G P eg ep =
    let a = c.args in
    c.close_words.ensures a.positions _ P (c.carry_words.ensures G P eg ep) ep
    ∙ row_ext a.positions _ _ (closed_carried a.positions G P a.end)
