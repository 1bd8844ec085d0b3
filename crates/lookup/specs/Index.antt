-- A hash index of the words of a table, by chains, in one list. Words are numbered from 1, so 0 stands for none. The list has the
-- count of words first, then for each word the latest earlier one of its bucket, and in its upper half the latest word of each bucket.
use Rattle.std.specs.Prelude.{ℕ, suc, ◌+◌, ◌-◌, ◌*◌, ◌/◌, ◌%◌, ◌^◌, ◌≤◌, ◌<◌, ◌≡◌, false, cond, List, [], ◌∷◌, length, get_or, take, eqb}
use Rattle.table.specs.Checks.{occurs}

-- 32 bits of a product
unfoldable pub hash_of : ℕ → ℕ
hash_of w = w * 3266489917 % 2 ^ 32

-- which of `half` buckets a word goes to: its hash as a part of 2 ^ 32
unfoldable pub bucket_of : ℕ → ℕ → ℕ
bucket_of half w = hash_of w * half / 2 ^ 32

-- the number of the last word of bucket b, where the words are numbered from n + 1, or else what was found before them
unfoldable pub latest_after : ℕ → ℕ → ℕ → List ℕ → ℕ → ℕ
latest_after half found n [] b = found
latest_after half found n (w ∷ ws) b = latest_after half (cond (eqb (bucket_of half w) b) (suc n) found) (suc n) ws b

-- the number of the last word of t in bucket b, or 0
unfoldable pub latest : ℕ → List ℕ → ℕ → ℕ
latest half t b = latest_after half 0 0 t b

-- how many words are in an index
abbrev pub count_of : List ℕ → ℕ
count_of index = get_or index 0 0

abbrev pub half_of : List ℕ → ℕ
half_of index = length index / 2

pub record Indexed (t index : List ℕ) : Type 0 where
  pub count_at : count_of index ≡ length t
  pub room : length t < half_of index
  pub small : length index ≤ 32768
  pub heads_at : (b : ℕ) → b < half_of index → get_or index (half_of index + b) 0 ≡ latest (half_of index) t b
  pub chain_at : (n : ℕ) → n < length t → get_or index (suc n) 0 ≡ latest (half_of index) (take n t) (bucket_of (half_of index) (get_or t n 0))

-- r is the number of a word of t that is w, or 0 where there is none
pub record Found (t : List ℕ) (w r : ℕ) : Type 0 where
  pub absent : r ≡ 0 → occurs w t ≡ false
  pub present : 0 < r → (r ≤ length t) × (get_or t (r - 1) 0 ≡ w)
