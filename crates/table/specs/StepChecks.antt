-- The checks that stand beside those of a table: 25 of the limits, 18 of a program's input, 11 of a plain table, 12 of a result, 22 and 21 of the letters
-- that are driven.
-- The judge's, 13 to 17, stand with the judge.
use Rattle.std.specs.Prelude.{ℕ, zero, suc, ◌%◌, min, Bool, not, ◌&&◌, cond, List, [], ◌∷◌, ◌++◌, ltb, leb, eqb}
use Rattle.refusals.specs.declared.Refusal.TheVariants.{TooManyFixpoints, ResultTooShort, NotWords, LetterNotDriven, TooManyDriven, LimitsOutside}
use Rattle.refusals.specs.Refusals.{Check, ◌⇒◌}
use Rattle.table.specs.Node.{kind, right}
use Rattle.table.specs.Checks.{is_proposition, holds_right}
use Rattle.table.specs.declared.settings.Limits.{Limits}
use Rattle.table.specs.Limits.{is_permitted, most_words}

-- kinds 8 to 11, the until-like words
abbrev pub is_fixpoint_word : ℕ → Bool
is_fixpoint_word w = leb 8 (kind w) && leb (kind w) 11

-- 25: a limit is outside its range
unfoldable pub limit_checks : Limits → List Check
limit_checks l = (not (is_permitted l) ⇒ LimitsOutside) ∷ []

-- 18: the program's input is not whole words
unfoldable pub input_checks : ℕ → List Check
input_checks bytes = (not (eqb (bytes % 4) 0) ⇒ NotWords) ∷ []

-- whether a result of so many words fits a slice, which counts for a header and the most words of a table
abbrev pub result_fits : ℕ → ℕ → Bool
result_fits words slice = leb words (min slice (suc most_words))

-- 12: it does not
unfoldable pub result_checks : ℕ → ℕ → List Check
result_checks words slice = (not (result_fits words slice) ⇒ ResultTooShort) ∷ []

-- 11: the place of the first until-like word past the limit; words are numbered from n on
unfoldable pub fixpoint_checks : ℕ → ℕ → List ℕ → List Check
fixpoint_checks limit n [] = []
fixpoint_checks zero n (w ∷ ws) = (is_fixpoint_word w ⇒ TooManyFixpoints n) ∷ fixpoint_checks zero (suc n) ws
fixpoint_checks (suc limit) n (w ∷ ws) = cond (is_fixpoint_word w) (fixpoint_checks limit (suc n) ws) (fixpoint_checks (suc limit) (suc n) ws)

-- 22: a driven count over 32
unfoldable pub driven_checks : ℕ → List Check
driven_checks driven = (ltb 32 driven ⇒ TooManyDriven) ∷ []

-- a word names a letter above the driven count
abbrev pub is_undriven : ℕ → ℕ → Bool
is_undriven driven w = is_proposition (holds_right w) && ltb driven (right w)

-- 21: each such word; words are numbered from n on
unfoldable pub letter_checks : ℕ → ℕ → List ℕ → List Check
letter_checks driven n [] = []
letter_checks driven n (w ∷ ws) = (is_undriven driven w ⇒ LetterNotDriven n) ∷ letter_checks driven (suc n) ws

-- of words and a sample: 22, then 21
abbrev pub sample_checks : ℕ → List ℕ → List Check
sample_checks driven t = driven_checks driven ++ letter_checks driven 1 t
