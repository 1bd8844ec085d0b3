-- The limits of the steps, which a house states: how many words a written table may have, and how many of a plain table's may be until-like.
use Rattle.std.specs.Prelude.{ℕ, ◌+◌, ◌*◌, Bool, ◌&&◌, leb}
use Rattle.table.specs.declared.settings.Limits.{Limits}

abbrev pub house : ℕ → ℕ → Limits
house written fixpoints = record { written = written; fixpoints = fixpoints }

-- document 01's, which the program keeps: 64 written words, and eight until-like ones
abbrev pub desk : Limits
desk = house 64 8

-- document 02, N6: the most that a house may state
abbrev pub most : Limits
most = house 256 10

-- at least one written word, and no more than the most of either
abbrev pub is_permitted : Limits → Bool
is_permitted l = leb 1 l.written && (leb l.written most.written && leb l.fixpoints most.fixpoints)

-- the plain form of so many written words has at most so many
abbrev pub plain_limit : Limits → ℕ
plain_limit l = 2 * l.written + 2

-- the largest number that an operand's field can hold, and so the most words of any table
abbrev pub most_words : ℕ
most_words = 16383
