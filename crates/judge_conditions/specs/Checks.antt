-- The checks of the two calls, in their order: those of their table, 13 to 15, 22, 21, 16, 26, 17.
use Rattle.std.specs.Prelude.{ℕ, ◌*◌, false, List, [], ◌∷◌, ◌++◌, length, ltb, leb, eqb}
use Rattle.row_words.specs.Row.{row_words}
use Rattle.refusals.specs.declared.Refusal.TheVariants.{NoSample, TooManySamples, LoopStartOutside, ScratchTooShort, TallyFull, DeskOutside}
use Rattle.refusals.specs.Refusals.{Check, ◌⇒◌}
use Rattle.table.specs.Header.{body, headed_checks}
use Rattle.table.specs.StepChecks.{driven_checks, letter_checks}
use Rattle.tally.specs.declared.Desk.{Desk}
use Rattle.tally.specs.Tallies.{is_full}

-- 13 to 15, then 22: a recording of so many samples, with its loop start and how many letters it drives
unfoldable pub recording_checks : ℕ → ℕ → ℕ → List Check
recording_checks samples start driven =
    (eqb samples 0 ⇒ NoSample)
    ∷ (ltb 4096 samples ⇒ TooManySamples)
    ∷ (leb samples start ⇒ LoopStartOutside)
    ∷ driven_checks driven

-- 16: the rows of so many words need more than the scratch has
unfoldable pub scratch_checks : ℕ → ℕ → ℕ → List Check
scratch_checks words samples scratch = (ltb scratch (words * row_words samples) ⇒ ScratchTooShort) ∷ []

-- 26: no tally has the desk's number, counted from 0; then 17, of the named desk's tally alone
unfoldable pub desk_checks : Desk → List Check
desk_checks desk = (leb desk.desks desk.number ⇒ DeskOutside) ∷ (is_full desk.tally ⇒ TallyFull) ∷ []

-- the row call, of a table with its header; the letters and the rows are those of its words
unfoldable pub row_checks : List ℕ → ℕ → ℕ → ℕ → ℕ → List Check
row_checks t samples start driven scratch =
    headed_checks false 16383 t
    ++ (recording_checks samples start driven
    ++ (letter_checks driven 1 (body t)
    ++ scratch_checks (length (body t)) samples scratch))

unfoldable pub judge_checks : List ℕ → ℕ → ℕ → ℕ → ℕ → Desk → List Check
judge_checks t samples start driven scratch desk = row_checks t samples start driven scratch ++ desk_checks desk
