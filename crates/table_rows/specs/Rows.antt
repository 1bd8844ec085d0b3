-- The rows of formulas at the start of the scratch.
use Rattle.std.specs.Prelude.{ℕ, ◌*◌, ◌≤◌, ◌<◌, ◌≡◌, false, List, [], ◌∷◌, ◌++◌, length, take, drop}
use Rattle.logic.specs.Formula.{Formula}
use Rattle.logic.specs.Lasso.{Lasso}
unfoldable pub use Rattle.logic.specs.Lasso.{lasso_of}
use Rattle.logic.specs.Truth.{truth}
use Rattle.row_words.specs.Row.{row, row_words}
use Rattle.std.specs.Prelude.{Ok}
use Rattle.table.specs.Checks.{checked}

-- row number j, counted from 0, among rows of so many words
abbrev pub row_number : ℕ → ℕ → List ℕ → List ℕ
row_number words j scratch = take words (drop (j * words) scratch)

-- the row of a formula: its truth at each position below the number of samples
unfoldable pub row_of : Lasso → Formula → List ℕ
row_of r φ = row (length r.samples) (truth r φ)

-- the rows of formulas, one after the other
unfoldable pub rows_of : Lasso → List Formula → List ℕ
rows_of r [] = []
rows_of r (φ ∷ φs) = row_of r φ ++ rows_of r φs

-- rows at the start of the scratch, and past them its own words
unfoldable pub rows_then : Lasso → List Formula → List ℕ → List ℕ
rows_then r φs scratch = rows_of r φs ++ drop (length φs * row_words (length r.samples)) scratch

-- what the filling of rows rests on; how many letters are driven is no part of it
pub record Fillable (t samples : List ℕ) (start : ℕ) (scratch : List ℕ) : Type 0 where
  pub accepted : checked false 16383 t ≡ Ok tt
  pub some : 1 ≤ length samples
  pub few : length samples ≤ 4096
  pub inside : start < length samples
  pub room : length t * row_words (length samples) ≤ length scratch
