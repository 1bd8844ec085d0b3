-- The table of a form: words as first needed, left operand, right operand, then the word; an identical word is used again.
-- Past 16,383 words an operand's number no longer fits its field. Such a table is never written: it does not fit.
use Rattle.std.specs.Prelude.{ℕ, zero, suc, ◌+◌, min, Bool, cond, List, [], ◌∷◌, ◌++◌, length, leb, eqb}
use Rattle.logic.specs.Formula.{Formula, const, lit, un, bin}
use Rattle.table.specs.Node.{pack, unary_kind, binary_kind}

-- a table, and the number in it of the word that was last asked for
pub record Placed : Type 0 where
  pub table : List ℕ
  pub number : ℕ

-- the number of the first word of a table that is w, counted from n + 1, or 0 where there is none
unfoldable pub find_from : ℕ → List ℕ → ℕ → ℕ
find_from n [] w = 0
find_from n (v ∷ vs) w = cond (eqb v w) (suc n) (find_from (suc n) vs w)

unfoldable pub find : List ℕ → ℕ → ℕ
find t w = find_from 0 t w

abbrev pub place_at : List ℕ → ℕ → ℕ → Placed
place_at t w zero = record { table = t ++ (w ∷ []); number = suc (length t) }
place_at t w (suc n) = record { table = t; number = suc n }

-- a word used again, or put at the end
unfoldable pub put : List ℕ → ℕ → Placed
put t w = place_at t w (find t w)

abbrev pub constant_word : Bool → ℕ
constant_word b = pack (cond b 2 1) 0 0

abbrev pub literal_word : Bool → ℕ → ℕ
literal_word b n = pack (cond b 3 4) 0 n

-- a formula's words, put after those of a table
unfoldable pub build : List ℕ → Formula → Placed
build t (const b) = put t (constant_word b)
build t (lit b n) = put t (literal_word b n)
build t (un o a) = let p = build t a in put p.table (pack (unary_kind o) 0 p.number)
build t (bin o a b) =
    let p = build t a in
    let q = build p.table b in
    put q.table (pack (binary_kind o) p.number q.number)

unfoldable pub table_of : Formula → List ℕ
table_of φ = (build [] φ).table

-- the number of words, without a header, that a slice counts for
abbrev pub room : ℕ → ℕ
room n = min n 16383

-- whether so many words, without a header, fit a slice of n
unfoldable pub fits : ℕ → ℕ → Bool
fits words n = leb words (room n)
