-- The end of an operand: what is open is a stack of words, innermost first, and the prefixes on top of it are put over the operand.
use Rattle.std.specs.Prelude.{ℕ, zero, suc, ◌+◌, ◌≤◌, Bool, ◌&&◌, ◌||◌, cond, ◌≡◌, List, [], ◌∷◌, length, get_or, eqb, leb}
use Rattle.table.specs.Node.{kind, pack}
use Rattle.table.specs.Numbering.{Placed, put}
use Rattle.placing.specs.State as draft
use Rattle.settling.specs.declared.Operand.{Operand}

abbrev pub is_prefix : ℕ → Bool
is_prefix k = eqb k 7 || leb 12 k && leb k 14

-- an operand that has ended: what is still open, and the operand's number in the words so far
pub record Ended : Type 0 where
  pub stack : List ℕ
  pub placed : Placed

-- the words of the prefixes that wait for an operand are put
unfoldable pub settle_words : List ℕ → Placed → Ended
settle_words [] p = record { stack = []; placed = p }
settle_words (e ∷ s) p =
    cond (is_prefix (kind e)) (settle_words s (put p.table (pack (kind e) 0 p.number))) (record { stack = e ∷ s; placed = p })

-- the first entries of a slice, the last of them first
abbrev pub top_first : List ℕ → ℕ → List ℕ
top_first l zero = []
top_first l (suc d) = get_or l d 0 ∷ top_first l d

-- the operand's number, in the words so far
abbrev pub placed_in : draft.State → ℕ → Placed
placed_in s n = record { table = draft.written s; number = n }

-- room for what is open and for the words, each of which took a byte, and for so many words more
pub record Room (stack : List ℕ) (s : draft.State) (depth more : ℕ) : Type 0 where
  pub numbered : draft.Numbered s
  pub long : length stack ≡ 1025
  pub wide : length s.out ≡ 1025
  pub room : depth + draft.count s + more ≤ 1025

-- the operand o, with its stack and its table, is x; no more room is taken than there was
pub record Settles (stack : List ℕ) (e : draft.State) (depth room : ℕ) (o : Operand) (x : Ended) : Type 0 where
  pub numbered : draft.Numbered e
  pub small : o.number ≤ 1025
  pub same : record { stack = top_first stack o.depth; placed = placed_in e o.number } ≡ x
  pub shallow : o.depth ≤ depth
  pub few : o.depth + draft.count e ≤ room
