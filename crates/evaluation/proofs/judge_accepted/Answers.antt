-- The rows are those of the definition, and what is read off the last of them is the reply.
use native.Mathlib.Omega.{arith}
use mathlib.Core.Path.{refl}
use Rattle.judging.proofs.LastRow.{some_word, last_small, last_end, last_for, last_row_lem, accepted-answer}
use Rattle.table_rows.proofs.Parts.{fillable-length}
use Rattle.table_rows.specs.Rows.{Fillable}
use Rattle.evaluation.proofs.judge_accepted.Goals as goal

pub fill_rows-requires : goal.fill_rows-requires
fill_rows-requires c = c.requires

pub row_words-words-requires : goal.row_words-words-requires
row_words-words-requires c = c.requires.few

pub overflow_sub-from : goal.overflow_sub-from
overflow_sub-from c = some_word _ _ _ _ _ _ c.requires refl c.row_words-words.ensures

pub overflow_mul-from : goal.overflow_mul-from
overflow_mul-from c =
    omega (arith, last_small _ _ _ _ _ _ c.requires refl c.row_words-words.ensures)

pub overflow_add-to : goal.overflow_add-to
overflow_add-to c =
    omega (arith, last_small _ _ _ _ _ _ c.requires refl c.row_words-words.ensures)

pub offset_bounds-scratch-from : goal.offset_bounds-scratch-from
offset_bounds-scratch-from c =
    omega (arith, last_small _ _ _ _ _ _ c.requires refl c.row_words-words.ensures)

pub slice_bounds-read_answer-end : goal.slice_bounds-read_answer-end
slice_bounds-read_answer-end c =
    let still-fillable : Fillable c.args.table.now c.args.samples.now c.args.start c.fill_rows.new.scratch = fillable-length _ _ c.fill_rows.auto.scratch c.requires in
    last_end _ _ _ _ _ _ still-fillable refl c.row_words-words.ensures

pub read_answer-requires : goal.read_answer-requires
read_answer-requires c =
    let still-fillable : Fillable c.args.table.now c.args.samples.now c.args.start c.fill_rows.new.scratch = fillable-length _ _ c.fill_rows.auto.scratch c.requires in
    last_for _ _ _ _ _ _ still-fillable refl c.row_words-words.ensures

pub returns : goal.returns
returns c =
    let still-fillable : Fillable c.args.table.now c.args.samples.now c.args.start c.fill_rows.new.scratch = fillable-length _ _ c.fill_rows.auto.scratch c.requires in
    record {
      by_index = λ driven few e.
          accepted-answer _ _ _ driven _ _ _ c.requires.inside few e
          (last_row_lem _ _ _ _ _ _ still-fillable refl c.row_words-words.ensures driven few _ (c.fill_rows.ensures driven few))
          c.read_answer.ensures;
      by_index_2 = c.fill_rows.ensures;
    }
