-- Recordings: a word over valuations, looped for ever (an ultimately periodic word, a lasso).
-- Document 01 calls a valuation a sample and a position a moment.
use Rattle.std.specs.Prelude.{ℕ, ◌+◌, ◌-◌, ◌%◌, ◌<◌, ◌≤◌, Bool, cond, List, [], ◌∷◌, length, get_or, ltb}
use Rattle.std.proofs.Math.Decide.{dec_lt, dec_le}
use Rattle.std.proofs.Common.{lit<, lit≤}
use Rattle.logic.specs.Bit.{bit}

-- the valuation at each position, for ever
abbrev pub Word : Type 0
Word = ℕ → ℕ

-- whether letter n holds in a sample: bit n - 1; there is no letter 0
unfoldable pub letter_in : ℕ → ℕ → Bool
letter_in v n = bit v (n - 1)

-- at least one sample, a loop start below their number, and how many letters are driven: letters 1 to that one, at most 32.
-- What is not driven is no reading: specs/Driven.antt says of which formulas a lasso may be asked.
pub record Lasso : Type 0 where
  pub samples : List ℕ
  pub start : ℕ
  pub driven : ℕ
  pub inside : start < length samples
  pub few : driven ≤ 32

-- the sample that a position has, with L samples and loop start s: its own below L, and round the loop after that
unfoldable pub place : ℕ → ℕ → ℕ → ℕ
place L s i = cond (ltb i L) i (s + (i - s) % (L - s))

-- what a lasso reads as, the endless repeat included
unfoldable pub word : Lasso → Word
word r i = get_or r.samples (place (length r.samples) r.start i) 0

-- samples, a loop start and a driven count as a lasso; where the loop start is not below the number of samples or the count is over 32, both of which
-- are refused, a single sample 0 of which nothing is driven
abbrev pub lasso_by : (samples : List ℕ) (start driven : ℕ) → Dec (start < length samples) → Dec (driven ≤ 32) → Lasso
lasso_by samples start driven (yes h) (yes k) = record { samples = samples; start = start; driven = driven; inside = h; few = k }
lasso_by samples start driven (yes h) (no k) = record { samples = 0 ∷ []; start = 0; driven = 0; inside = lit< tt; few = lit≤ tt }
lasso_by samples start driven (no h) k = record { samples = 0 ∷ []; start = 0; driven = 0; inside = lit< tt; few = lit≤ tt }

unfoldable pub lasso_of : List ℕ → ℕ → ℕ → Lasso
lasso_of samples start driven = lasso_by samples start driven (dec_lt start (length samples)) (dec_le driven 32)
