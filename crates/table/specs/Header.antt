-- The header of a table (document 02, N5): the word before the words, of kind 0, with the class byte of the last word in its left field and the
-- number of words in its right one; and the checks of a table with its header.
use Rattle.std.specs.Prelude.{ℕ, Bool, false, not, ◌||◌, cond, List, [], ◌∷◌, ◌++◌, length, get_or, drop, ltb, leb, eqb}
use Rattle.logic.specs.ClassByte.{class_byte}
use Rattle.refusals.specs.declared.Refusal.TheVariants.{NoWord, TooManyWords, CountDiffers, HeaderWrong}
use Rattle.refusals.specs.Refusals.{Outcome}
use Rattle.refusals.specs.Refusals.{Check, ◌⇒◌, first}
use Rattle.table.specs.Node.{kind, left, right, pack}
use Rattle.table.specs.Table.{rule}
use Rattle.table.specs.Checks.{content_checks}

-- kinds 12 to 15 occur among the words
unfoldable pub is_written : List ℕ → Bool
is_written [] = false
is_written (w ∷ ws) = leb 12 (kind w) || is_written ws

-- the class byte of the last word, 0 where kinds 12 to 15 occur
unfoldable pub class_of : List ℕ → ℕ
class_of t = cond (is_written t) 0 (class_byte (rule t))

unfoldable pub header_of : List ℕ → ℕ
header_of t = pack 0 (class_of t) (length t)

-- words with their header before them
abbrev pub headed : List ℕ → List ℕ
headed t = header_of t ∷ t

-- of what is handed over as a table with its header: the header, 0 where there is none, how many words it tells of, and the words
abbrev pub header : List ℕ → ℕ
header s = get_or s 0 0

abbrev pub count : List ℕ → ℕ
count s = right (header s)

abbrev pub body : List ℕ → List ℕ
body s = drop 1 s

-- 24: the header's kind is not 0, or its class is not the one of the words
unfoldable pub is_misheaded : List ℕ → Bool
is_misheaded s = not (eqb (kind (header s)) 0) || not (eqb (left (header s)) (class_of (body s)))

-- 1 and 2 by the header's count, 23, then the words and their uses, then 24
unfoldable pub headed_checks : Bool → ℕ → List ℕ → List Check
headed_checks plain_only limit s =
    (eqb (count s) 0 ⇒ NoWord)
    ∷ (ltb limit (count s) ⇒ TooManyWords)
    ∷ (not (eqb (count s) (length (body s))) ⇒ CountDiffers)
    ∷ (content_checks plain_only (body s) ++ ((is_misheaded s ⇒ HeaderWrong) ∷ []))

unfoldable pub headed_checked : Bool → ℕ → List ℕ → Outcome
headed_checked plain_only limit s = first (headed_checks plain_only limit s)
