-- The letters that a lasso drives, the formulas that it may be asked about, and samples and lassos that agree on what they drive.
use Rattle.std.specs.Prelude.{ℕ, ◌≤◌, ◌≡◌}
use Rattle.logic.specs.Formula.{Formula}
use Rattle.logic.specs.Letters.{Letters}
use Rattle.logic.specs.Lasso.{Lasso, letter_in, word}

-- letter n is one of the letters 1 to k
abbrev pub Driven : ℕ → ℕ → Type 0
Driven k n = (1 ≤ n) × (n ≤ k)

-- a lasso drives every letter of a formula
abbrev pub Drives : Lasso → Formula → Type 0
Drives r φ = Letters (Driven r.driven) φ

-- samples that have the same driven bits; the other bits may be anything
abbrev pub SameBits : (driven v w : ℕ) → Type 0
SameBits driven v w = (n : ℕ) → Driven driven n → letter_in v n ≡ letter_in w n

-- two lassos, of any numbers of samples and any loop starts, drive the same letters and have the same driven bits at every position;
-- the other bits may be anything
pub record Agree (r r' : Lasso) : Type 0 where
  pub driven : r.driven ≡ r'.driven
  pub bits : (i : ℕ) → SameBits r.driven (word r i) (word r' i)
