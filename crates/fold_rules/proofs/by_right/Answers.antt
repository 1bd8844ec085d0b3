use mathlib.Core.Bool.{true, false}
use Rattle.table.proofs.Shapes.{shape-constant}
use Rattle.fold_rules.proofs.ByKind.{constantly_none}
use Rattle.fold_rules.proofs.by_right.Goals as goal

pub returns-in-1 : goal.returns-in-1
returns-in-1 c = rw (c.in-1.is, shape-constant false) c.on_right.ensures

pub returns-in-2 : goal.returns-in-2
returns-in-2 c = rw (c.in-2.is, shape-constant true) c.on_right-in-2.ensures

pub returns-in_default : goal.returns-in_default
returns-in_default c = rw (constantly_none _ c.args.right c.in_default.in_default-own.rest.0.1 c.in_default.in_default-own.rest.1)
