-- A word as a line of eight hexadecimal digits, capitals.
use Rattle.std.specs.Prelude.{ℕ, ◌+◌, ◌/◌, ◌%◌, cond, List, [], ◌∷◌, ltb}

-- the ASCII code of a digit below 16: `0` to `9`, then `A` to `F`
unfoldable pub hex_digit : ℕ → ℕ
hex_digit d = cond (ltb d 10) (48 + d) (55 + d)

unfoldable pub hex_line : ℕ → List ℕ
hex_line w =
    hex_digit (w / 0x10000000 % 16) ∷ hex_digit (w / 0x1000000 % 16) ∷ hex_digit (w / 0x100000 % 16) ∷ hex_digit (w / 0x10000 % 16)
    ∷ hex_digit (w / 0x1000 % 16) ∷ hex_digit (w / 0x100 % 16) ∷ hex_digit (w / 0x10 % 16) ∷ hex_digit (w % 16) ∷ 10 ∷ []
