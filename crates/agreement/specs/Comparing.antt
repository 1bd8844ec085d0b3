-- Two recordings, read on for ever, held against each other on the letters that they drive: the checks, and the first position that differs.
use Rattle.std.specs.Prelude.{ℕ, zero, suc, ◌+◌, ◌-◌, max, Bool, true, not, cond, ◌&&◌, List, [], ◌∷◌, ◌++◌, length, eqb, Option, None, Some, Result, Ok, Err}
use Rattle.std.specs.Bool.{beq}
use Rattle.refusals.specs.declared.Refusal.{Refusal}
use Rattle.refusals.specs.declared.Refusal.TheVariants.{DrivenCountsDiffer}
use Rattle.refusals.specs.Refusals.{Outcome, Check, ◌⇒◌, first}
use Rattle.logic.specs.Lasso.{Word, Lasso, letter_in, word, lasso_of}
use Rattle.judge_conditions.specs.Checks.{recording_checks}

-- what a comparison answers: no moment that differs where the recordings are the same, or the first that does, or why nothing was compared
abbrev pub Comparison : Type 0
Comparison = Result (Option ℕ) Refusal

-- 27: the driven counts differ
unfoldable pub count_checks : ℕ → ℕ → List Check
count_checks driven driven' = (not (eqb driven driven') ⇒ DrivenCountsDiffer) ∷ []

-- 13 to 15 and 22 of the first recording, the same of the second, then 27; a recording by how many samples it has, its loop start and its driven count
unfoldable pub comparison_checks : ℕ → ℕ → ℕ → ℕ → ℕ → ℕ → List Check
comparison_checks samples start driven samples' start' driven' =
    recording_checks samples start driven ++ (recording_checks samples' start' driven' ++ count_checks driven driven')

-- whether two samples have the same bits of the letters 1 to k
unfoldable pub alike : ℕ → ℕ → ℕ → Bool
alike zero v w = true
alike (suc k) v w = alike k v w && beq (letter_in v (suc k)) (letter_in w (suc k))

-- the first of the n positions from i on at which two words differ on the letters 1 to k
unfoldable pub difference_in : ℕ → Word → Word → ℕ → ℕ → Comparison
difference_in k σ τ i zero = Ok None
difference_in k σ τ i (suc n) = cond (alike k (σ i) (τ i)) (difference_in k σ τ (suc i) n) (Ok (Some i))

-- so many positions stand for all: to the later loop start, and both loops once after it; with L samples and loop start s, L' and s'
abbrev pub window : ℕ → ℕ → ℕ → ℕ → ℕ
window L s L' s' = max s s' + ((L - s) + (L' - s'))

-- two lassos that drive as many letters
unfoldable pub compared : Lasso → Lasso → Comparison
compared r r' = difference_in r.driven (word r) (word r') 0 (window (length r.samples) r.start (length r'.samples) r'.start)

unfoldable pub compared_by : Outcome → Lasso → Lasso → Comparison
compared_by (Ok tt) r r' = compared r r'
compared_by (Err why) r r' = Err why

-- the whole answer, of any samples and numbers
unfoldable pub comparison : List ℕ → ℕ → ℕ → List ℕ → ℕ → ℕ → Comparison
comparison samples start driven samples' start' driven' =
    compared_by (first (comparison_checks (length samples) start driven (length samples') start' driven'))
    (lasso_of samples start driven) (lasso_of samples' start' driven')
