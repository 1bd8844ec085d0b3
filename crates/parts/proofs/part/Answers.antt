use Rattle.std.proofs.Common.{arith}
use Rattle.logic.specs.Formula.{Formula}
use Rattle.transforms.specs.NormalForm as normal
use Rattle.table.specs.Table.{rule}
use Rattle.table.specs.Steps.{fixpoints}
use Rattle.parts.proofs.Foldable.{narrow, foldable}
use Rattle.parts.proofs.part.Goals as goal

pub overflow_add-root : goal.overflow_add-root
overflow_add-root c =
    let φ : Formula = normal.part (fixpoints c.args.table.now) (rule c.args.table.now) c.args.choice in
    omega (arith, narrow c.requires c.fill-root.new.draft c.fill-root.auto.draft φ c.fill-root.result c.fill-root.ensures.drafted)

pub fold-requires : goal.fold-requires
fold-requires c =
    let φ : Formula = normal.part (fixpoints c.args.table.now) (rule c.args.table.now) c.args.choice in
    foldable c.requires c.fill-root.new.draft c.fill-root.auto.draft φ c.fill-root.result c.fill-root.ensures.drafted

pub returns : goal.returns
returns c =
    let φ : Formula = normal.part (fixpoints c.args.table.now) (rule c.args.table.now) c.args.choice in
    record { drafted = c.fold.ensures.slots φ c.fill-root.result (omega arith) c.fill-root.ensures.drafted; laid = c.fill-root.ensures.laid }
