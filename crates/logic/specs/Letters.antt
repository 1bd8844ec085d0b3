-- The letters of a formula, all of which are as is asked.
use Rattle.std.specs.Prelude.{ℕ, ◌≡◌}
use Rattle.logic.specs.Formula.{Formula, const, lit, un, bin}

abbrev pub Letters : (ℕ → Type 0) → Formula → Type 0
Letters P (const b) = Unit {0}
Letters P (lit b n) = P n
Letters P (un o a) = Letters P a
Letters P (bin o a b) = Letters P a × Letters P b

-- letter m is not among them
abbrev pub Lacks : ℕ → Formula → Type 0
Lacks m φ = Letters (λ n. n ≡ m → ⊥) φ
