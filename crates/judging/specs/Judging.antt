-- What a judgement answers, and what it leaves in the scratch and in the tallies: accepted or refused, the whole of each. A table is handed over with its header.
use Rattle.std.specs.Prelude.{ℕ, ◌+◌, ◌-◌, ◌*◌, List, [], length, get_or, set, Result, Ok, Err}
use Rattle.logic.specs.Formula.{Formula}
use Rattle.logic.specs.Lasso.{Lasso}
use Rattle.logic.specs.Truth.{Sequence, truth}
use Rattle.row_words.specs.Row.{row_words, count_true, first_false}
use Rattle.refusals.specs.declared.Refusal.{Refusal}
use Rattle.refusals.specs.Refusals.{Outcome, first}
use Rattle.table.specs.Table.{formulas, rule}
use Rattle.table.specs.Header.{body}
use Rattle.tally.specs.declared.Tally.{Tally}
use Rattle.tally.specs.declared.Desk.{Desk}
use Rattle.judging.specs.declared.answer.Judgement.{Judgement}
use Rattle.judging.specs.declared.answer.Judged.{Judged}
unfoldable pub use Rattle.table_rows.specs.Rows.{lasso_of, row_of}
use Rattle.table_rows.specs.Rows.{rows_then}
use Rattle.tally.specs.Tallies.{none_judged, counted}
use Rattle.judge_conditions.specs.Checks.{row_checks, judge_checks}

-- what a judgement says, or why it is refused
abbrev pub JudgeAnswer : Type 0
JudgeAnswer = Result Judgement Refusal

-- whether the rule holds at position 0, at how many positions, and the first that fails, the number of samples if none
abbrev pub judgement : Sequence → ℕ → JudgeAnswer
judgement f L = Ok (record { holds = f 0; moments = count_true f L; failing = first_false f 0 L })

-- the reply, by what the checks say, with the named desk's tally; a refused judgement hands it back
unfoldable pub reply_by : Outcome → Lasso → Formula → Tally → Judged
reply_by (Ok tt) r φ tally = record { answer = judgement (truth r φ) (length r.samples); tally = counted tally (truth r φ 0) }
reply_by (Err why) r φ tally = record { answer = Err why; tally = tally }

-- the scratch afterwards, by what the checks say; a refusal leaves it as it was
unfoldable pub scratch_after : Outcome → List ℕ → List ℕ → ℕ → ℕ → List ℕ → List ℕ
scratch_after (Ok tt) t samples start driven scratch = rows_then (lasso_of samples start driven) (formulas (body t)) scratch
scratch_after (Err why) t samples start driven scratch = scratch

-- the part that the row call hands back, the last word's row, and its number and place
unfoldable pub last_row : Outcome → List ℕ → List ℕ → ℕ → ℕ → List ℕ
last_row (Ok tt) t samples start driven = row_of (lasso_of samples start driven) (rule (body t))
last_row (Err why) t samples start driven = []

-- where that part lies, by the block and offset of the scratch: past the rows of the words before the last one, 8 bytes a word
unfoldable pub part_at : Outcome → List ℕ → List ℕ → ℕ × ℕ → ℕ × ℕ
part_at (Ok tt) t samples scratch = (scratch.0, (length (body t) - 1) * row_words (length samples) * 8 + scratch.1)
part_at (Err why) t samples scratch = scratch

-- what the checks of the two calls say
unfoldable pub row_outcome : List ℕ → List ℕ → ℕ → ℕ → List ℕ → Outcome
row_outcome t samples start driven scratch = first (row_checks t (length samples) start driven (length scratch))

unfoldable pub judge_outcome : List ℕ → List ℕ → ℕ → ℕ → List ℕ → Desk → Outcome
judge_outcome t samples start driven scratch desk = first (judge_checks t (length samples) start driven (length scratch) desk)

-- the judge's whole reply
unfoldable pub reply : List ℕ → List ℕ → ℕ → ℕ → List ℕ → Desk → Judged
reply t samples start driven scratch desk = reply_by (judge_outcome t samples start driven scratch desk) (lasso_of samples start driven) (rule (body t)) desk.tally

-- the desk of this number, counted from 0, over one tally for each desk
abbrev pub desk_of : List Tally → ℕ → Desk
desk_of tallies n = record { desks = length tallies; number = n; tally = get_or tallies n none_judged }

-- the tallies afterwards, by the answer to a judgement that named the desk of this number: accepted, it is counted in that desk's tally; refused, nothing changes
unfoldable pub tallies_after : JudgeAnswer → List Tally → ℕ → List Tally
tallies_after (Ok j) tallies n = set tallies n (counted (desk_of tallies n).tally j.holds)
tallies_after (Err why) tallies n = tallies
