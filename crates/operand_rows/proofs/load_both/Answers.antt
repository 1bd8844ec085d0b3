-- One row after the other.
use Rattle.operand_rows.proofs.load_both.Goals as goal

pub returns : goal.returns
returns c f g ef eg = (c.load.ensures f g ef eg, c.load-2.ensures f g ef eg)
