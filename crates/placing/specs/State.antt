-- The state of a table that is being written to a slice, and what a step that places words makes of it.
use Rattle.std.specs.Prelude.{ℕ, ◌≤◌, ◌<◌, ◌≡◌, Bool, true, false, List, length, take, drop}
use Rattle.table.specs.Numbering.{Placed, room, fits}
use Rattle.lookup.specs.Index.{count_of, half_of, Indexed}
use Rattle.numbering.specs.Held.{Distinct}

-- the slice, and the index of its words that are written
pub record State : Type 0 where
  pub out : List ℕ
  pub index : List ℕ

abbrev pub state : List ℕ → List ℕ → State
state out index = record { out = out; index = index }

-- how many words are written
abbrev pub count : State → ℕ
count s = count_of s.index

-- the table so far
abbrev pub written : State → List ℕ
written s = take (count s) s.out

-- whether a table fits the slice
abbrev pub fits_in : List ℕ → State → Bool
fits_in t s = fits (length t) (length s.out)

-- no more words than the slice counts for, no two equal, all in the index, which has room for as many as the slice counts for
pub record Numbered (s : State) : Type 0 where
  pub within : count s ≤ room (length s.out)
  pub large : room (length s.out) < half_of s.index
  pub distinct : Distinct (written s)
  pub indexed : Indexed (written s) s.index

-- a step from s to e was to make the table and the number p, and answered r: where that table fits the slice it is made, and what stands past
-- it is kept; where it does not, the answer is 0, which numbers no word. Either way the answer is at most the count of the words
pub record Placing (s e : State) (p : Placed) (r : ℕ) : Type 0 where
  pub numbered : Numbered e
  pub long : length e.out ≡ length s.out
  pub within : r ≤ count e
  pub answer : fits_in p.table s ≡ true → r ≡ p.number
  pub table : fits_in p.table s ≡ true → written e ≡ p.table
  pub past : fits_in p.table s ≡ true → drop (count e) e.out ≡ drop (count e) s.out
  pub full : fits_in p.table s ≡ false → r ≡ 0

-- a placed word, and no change where there is no room for it
pub record Putting (s e : State) (p : Placed) (r : ℕ) : Type 0 where
  pub placed : Placing s e p r
  pub unchanged : fits_in p.table s ≡ false → e ≡ s
