-- What the program prints of a refusal and of a form's words.
use Rattle.std.specs.Prelude.{ℕ, List, [], ◌∷◌, ◌++◌, length, codes, decimal}
use Rattle.listing.specs.Listing.{hex_line}

-- The line of a refusal: its number, and the place of the faulty word or byte.
abbrev pub refused_line : ℕ → ℕ → List ℕ
refused_line number place = codes "refused " ++ decimal number ++ codes " at " ++ decimal place ++ codes "\n"

-- Each word on its line.
unfoldable pub lines : List ℕ → List ℕ
lines [] = []
lines (w ∷ words) = hex_line w ++ lines words

-- How many words there are, and each on its line.
abbrev pub counted_lines : List ℕ → List ℕ
counted_lines words = decimal (length words) ++ codes "\n" ++ lines words
