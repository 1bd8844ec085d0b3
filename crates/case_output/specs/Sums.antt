-- The sum of a slice, in which the place of every element counts.
use Rattle.std.specs.Prelude.{ℕ, ◌+◌, ◌*◌, ◌%◌, List, [], ◌∷◌}

-- a sum and one element more
abbrev pub added : ℕ → ℕ → ℕ
added x element = (x % 4294967296 * 31 + element % 4294967296) % 4294967296

-- the sum from x on, where each element counts as `count` says
unfoldable pub sum : {T : Type 0} → (T → ℕ) → ℕ → List T → ℕ
sum count x [] = x
sum count x (element ∷ elements) = sum count (added x (count element)) elements
