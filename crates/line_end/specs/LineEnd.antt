-- The final line end of a text.
use Rattle.std.specs.Prelude.{ℕ, ◌-◌, Bool, cond, List, eqb, length, get_or}

-- whether the byte before the last one is a carriage return (13)
abbrev pub returned : List ℕ → Bool
returned t = eqb (get_or t (length t - 2) 0) 13

-- how many bytes the line end has: a line feed (10), with the carriage return before it if there is one; a text may have none
unfoldable pub line_end : List ℕ → ℕ
line_end t = cond (eqb (get_or t (length t - 1) 0) 10) (cond (returned t) 2 1) 0
