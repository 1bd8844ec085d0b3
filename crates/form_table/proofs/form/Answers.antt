use Rattle.std.proofs.Common.{false}
use Rattle.logic.specs.Formula.{const}
use Rattle.transforms.specs.NormalForm.{choices}
use Rattle.part_sums.specs.Joining.{joined}
use Rattle.form_table.proofs.Whole.{form-true, placed-true, placed_sum, summed-numbered, ready_first, joinable_first}
use Rattle.form_table.proofs.form.Goals as goal

pub any-requires : goal.any-requires
any-requires c = record {
  ready = ready_first c.requires c.fill_words.auto.draft c.fill_words.ensures;
  bits_value = (c.requires.bits_are, c.requires.few);
}

pub returns-then-any : goal.returns-then-any
returns-then-any c =
    placed-true c.args.table.now (form-true c.args.table.now c.requires.bits_are (c.any.ensures.looked.some c.if-any.true)) _ _ _ c.pack.ensures _ c.put.ensures

pub all-sum-requires : goal.all-sum-requires
all-sum-requires c = record {
  joinable = joinable_first c.requires c.fill_words.auto.draft c.fill_words.ensures c.any.auto.draft c.any.auto.folded c.any.ensures.laid;
  by_index = (c.any.ensures.looked.none c.if-any.false, c.requires.few);
}

pub close-requires : goal.close-requires
close-requires c = summed-numbered _ _ _ c.all-sum.result c.requires.numbered c.all-sum.ensures

pub returns : goal.returns
returns c =
    placed_sum c.args.table.now c.requires.bits_are _ _ _ (c.close.ensures _ (joined c.args.table.now (choices c.args.bits) (const false)) c.all-sum.ensures)
