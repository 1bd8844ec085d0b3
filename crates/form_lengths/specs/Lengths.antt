-- How long a form can be.
use Rattle.std.specs.Prelude.{ℕ, ◌+◌, ◌*◌, ◌^◌}

-- the most words of a form of n words of which k are until-like
abbrev pub most_words : ℕ → ℕ → ℕ
most_words n k = 2 ^ k * (5 * n + 3 * k + 1) + 2
