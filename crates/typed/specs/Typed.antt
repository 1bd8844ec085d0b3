-- A formula as text, in the notation in which rules are typed, and how many bytes that takes.
use Rattle.std.specs.Prelude.{ℕ, zero, suc, ◌+◌, min, true, false, List, [], ◌∷◌, ◌++◌, length, get_or}
use Rattle.logic.specs.Formula.{Formula, const, lit, un, bin, neg}
use Rattle.table.specs.Node.{kind, right, shape}
use Rattle.layouts.specs.Layout.{layout_of}
use Rattle.layouts.specs.declared.Layout.{Layout}
use Rattle.layouts.specs.declared.Layout.TheVariants.{Constant, Letter, Unary, Binary}
use Rattle.grammar.specs.Grammar.{decimal, constant, letter, prefix, operator, open_bracket, close_bracket, spelling}

-- a denied letter as ! and the letter; one space, byte 32, on either side of a two-sided operator, and no other
unfoldable pub typed : Formula → List ℕ
typed (const b) = spelling (constant b)
typed (lit true n) = spelling (letter n)
typed (lit false n) = spelling (prefix neg) ++ spelling (letter n)
typed (un o a) = spelling (prefix o) ++ typed a
typed (bin o a b) = spelling open_bracket ++ (typed a ++ (32 ∷ spelling (operator o) ++ (32 ∷ typed b ++ spelling close_bracket)))

-- the bytes are counted up to this number, which stands for any above it
abbrev pub most : ℕ
most = 1000000000001

abbrev pub counted : Formula → ℕ
counted φ = min most (length (typed φ))

-- by kind, from 0 on, the bytes of a word without those of its letter's number and its operands
abbrev pub owns : List ℕ
owns = 5 ∷ 5 ∷ 4 ∷ 1 ∷ 2 ∷ 5 ∷ 5 ∷ 1 ∷ 5 ∷ 5 ∷ 5 ∷ 5 ∷ 1 ∷ 1 ∷ 1 ∷ 6 ∷ []

-- the bytes of a word by its layout: its own, those of its letter's number, of its left operand and of its right one
abbrev pub layout_bytes : Layout → ℕ → ℕ → ℕ → ℕ → ℕ
layout_bytes Constant own digits a b = own
layout_bytes Letter own digits a b = own + digits
layout_bytes Unary own digits a b = own + b
layout_bytes Binary own digits a b = own + a + b

-- the bytes of a word, from those of its operands, each counted up to the limit
unfoldable pub word_bytes : ℕ → ℕ → ℕ → ℕ
word_bytes w a b = min most (layout_bytes (layout_of (shape (kind w))) (get_or owns (kind w) 0) (length (decimal (right w))) a b)

-- the bytes of word number n, from those of the words so far; of false where there is none
abbrev pub earlier : List ℕ → ℕ → ℕ
earlier bytes zero = 5
earlier bytes (suc i) = get_or bytes i 5
