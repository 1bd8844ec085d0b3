-- The three fields of a word: their bounds, and that packing and taking apart undo one another.
use Prim.Native.Nat.{ℕ, ◌^◌, ◌<◌}
use mathlib.Core.Path.{◌≡◌}
use native.Mathlib.Omega.{arith}
use Rattle.table.specs.Node.{kind, left, right, pack}

pub kind_lt : (w : ℕ) → w < 2 ^ 32 → kind w < 16
unfolding kind
kind_lt w h = omega arith

pub left_lt : (w : ℕ) → left w < 2 ^ 14
unfolding left
left_lt w = omega arith

pub right_lt : (w : ℕ) → right w < 2 ^ 14
unfolding right
right_lt w = omega arith

pub kind-pack : (k l r : ℕ) → l < 2 ^ 14 → r < 2 ^ 14 → kind (pack k l r) ≡ k
unfolding kind pack
kind-pack k l r hl hr = omega arith

pub left_pack : (k l r : ℕ) → l < 2 ^ 14 → r < 2 ^ 14 → left (pack k l r) ≡ l
unfolding left pack
left_pack k l r hl hr = omega arith

pub right_pack : (k l r : ℕ) → r < 2 ^ 14 → right (pack k l r) ≡ r
unfolding right pack
right_pack k l r hr = omega arith

pub pack-fields : (w : ℕ) → pack (kind w) (left w) (right w) ≡ w
unfolding kind left right pack
pack-fields w = omega arith
