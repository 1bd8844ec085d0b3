-- What a table that is being built holds: words that are all apart, and formulas, each at the number of its operator's word.
use Rattle.std.specs.Prelude.{ℕ, pred, ◌<◌, ◌≤◌, ◌≡◌, List, length, get_or}
use Rattle.logic.specs.Formula.{Formula, const, lit, un, bin}
use Rattle.table.specs.Node.{pack, unary_kind, binary_kind}
use Rattle.table.specs.Numbering.{constant_word, literal_word}

-- no two equal words
pub record Distinct (t : List ℕ) : Type 0 where
  pub apart : (i j : ℕ) → i < length t → j < length t → get_or t i 0 ≡ get_or t j 0 → i ≡ j

-- word number n of t, counted from 1, is w
pub record Word (t : List ℕ) (n w : ℕ) : Type 0 where
  pub positive : 0 < n
  pub within : n ≤ length t
  pub is : get_or t (pred n) 0 ≡ w

-- t holds a formula at number n: the word there is its operator's, with the numbers at which t holds its operands
abbrev pub Held : List ℕ → Formula → ℕ → Type 0
Held t (const b) n = Word t n (constant_word b)
Held t (lit b p) n = Word t n (literal_word b p)
Held t (un o a) n = (m : ℕ) × Held t a m × Word t n (pack (unary_kind o) 0 m)
Held t (bin o a b) n = (l : ℕ) × (r : ℕ) × Held t a l × Held t b r × Word t n (pack (binary_kind o) l r)
