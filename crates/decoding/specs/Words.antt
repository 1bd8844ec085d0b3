-- Words as bytes, least byte first.
use Rattle.std.specs.Prelude.{ℕ, zero, suc, ◌+◌, ◌*◌, List, [], ◌∷◌, get_or}

-- word number i of some bytes, counted from 0
unfoldable pub word_at : List ℕ → ℕ → ℕ
word_at bs i = get_or bs (4 * i) 0 + get_or bs (4 * i + 1) 0 * 0x100 + get_or bs (4 * i + 2) 0 * 0x10000 + get_or bs (4 * i + 3) 0 * 0x1000000

-- n words from number i on
unfoldable pub decoded : List ℕ → ℕ → ℕ → List ℕ
decoded bs i zero = []
decoded bs i (suc n) = word_at bs i ∷ decoded bs (suc i) n
