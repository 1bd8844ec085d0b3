-- What a byte begins, as the code has it: the symbol's kind, and the bytes that it still lacks.
use Rattle.std.specs.Prelude.{ℕ, ◌+◌, ◌*◌, ◌<◌, cond, List, [], ◌∷◌}
use Rattle.table.specs.Node.{unary_kind, binary_kind}
use Rattle.signs.specs.declared.Sign.{Sign}
use Rattle.signs.specs.declared.Sign.TheVariants.{Blank, Constant, Letter, Prefix, Operator, Open, Close, Unknown}
use Rattle.grammar.specs.Grammar.{Symbol, constant, letter, prefix, operator, open_bracket, close_bracket}
use Rattle.grammar.specs.Reader.{Mark, blank, begins, begins_letter, unknown, other_bytes}

-- bytes in one number, the first lowest
abbrev pub packed : List ℕ → ℕ
packed [] = 0
packed (b ∷ bs) = b + 256 * packed bs

abbrev pub signed_symbol : Symbol → Sign
signed_symbol (constant b) = Constant (cond b 2 1) (packed (other_bytes (constant b)))
signed_symbol (letter n) = Unknown
signed_symbol (prefix o) = Prefix (unary_kind o)
signed_symbol (operator o) = Operator (binary_kind o) (packed (other_bytes (operator o)))
signed_symbol open_bracket = Open
signed_symbol close_bracket = Close

abbrev pub signed : Mark → Sign
signed blank = Blank
signed (begins x) = signed_symbol x
signed begins_letter = Letter
signed unknown = Unknown

-- the kind of a sign is a kind of word
abbrev pub Kinded : Sign → Type 0
Kinded Blank = Unit {0}
Kinded (Constant k left) = k < 16
Kinded Letter = Unit {0}
Kinded (Prefix k) = k < 16
Kinded (Operator k left) = k < 16
Kinded Open = Unit {0}
Kinded Close = Unit {0}
Kinded Unknown = Unit {0}
