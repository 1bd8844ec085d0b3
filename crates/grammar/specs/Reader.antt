-- A reader of the grammar: a machine that takes one byte after the other, with a stack of what is open.
use Rattle.std.specs.Prelude.{ℕ, zero, suc, ◌+◌, ◌*◌, ◌-◌, Bool, true, false, ◌&&◌, cond, List, [], ◌∷◌, get_or, drop, eqb, leb}
use Rattle.std.proofs.Math.Option.{Option, none, some}
use Rattle.logic.specs.Formula.{Formula, Unary, Binary, const, lit, un, bin, next, neg, finally, globally, conj, disj, until, weak, release, strong, implies}
use Rattle.grammar.specs.Grammar.{Symbol, constant, letter, prefix, operator, open_bracket, close_bracket, spelling}

-- what waits for an operand: a prefix; a bracket, for its left operand; a bracket with its left operand and its operator
pub data Open : Type 0 where
  waiting : Unary → Open
  bracket : Open
  joined : Binary → Formula → Open

-- between two symbols, with what is open, innermost first: an operand is to begin, or has ended, or no rule can come of it any more
pub data Config : Type 0 where
  operand : List Open → Config
  ended : Formula → List Open → Config
  stuck : Config

-- an operand ends, and with it the prefixes that wait for it
unfoldable pub settle : Formula → List Open → Config
settle φ [] = ended φ []
settle φ (waiting o ∷ s) = settle (un o φ) s
settle φ (bracket ∷ s) = ended φ (bracket ∷ s)
settle φ (joined o a ∷ s) = ended φ (joined o a ∷ s)

-- a two-sided operator, or a closing bracket, after an operand
abbrev pub join : Binary → Formula → List Open → Config
join o φ [] = stuck
join o φ (waiting u ∷ s) = stuck
join o φ (bracket ∷ s) = operand (joined o φ ∷ s)
join o φ (joined u a ∷ s) = stuck

abbrev pub close : Formula → List Open → Config
close φ [] = stuck
close φ (waiting u ∷ s) = stuck
close φ (bracket ∷ s) = stuck
close φ (joined o a ∷ s) = settle (bin o a φ) s

-- one symbol
abbrev pub shift : Config → Symbol → Config
shift (operand s) (constant b) = settle (const b) s
shift (operand s) (letter n) = settle (lit true n) s
shift (operand s) (prefix o) = operand (waiting o ∷ s)
shift (operand s) (operator o) = stuck
shift (operand s) open_bracket = operand (bracket ∷ s)
shift (operand s) close_bracket = stuck
shift (ended φ s) (constant b) = stuck
shift (ended φ s) (letter n) = stuck
shift (ended φ s) (prefix o) = stuck
shift (ended φ s) (operator o) = join o φ s
shift (ended φ s) open_bracket = stuck
shift (ended φ s) close_bracket = close φ s
shift stuck x = stuck

-- what a byte is where no symbol is being spelled. A symbol is known by its first byte, a letter only by its last
pub data Mark : Type 0 where
  blank : Mark
  begins : Symbol → Mark
  begins_letter : Mark
  unknown : Mark

-- the symbols that are no letters
abbrev pub signs : List Symbol
signs =
    constant true ∷ constant false
    ∷ prefix neg ∷ prefix next ∷ prefix finally ∷ prefix globally
    ∷ operator conj ∷ operator disj ∷ operator implies
    ∷ operator until ∷ operator weak ∷ operator release ∷ operator strong
    ∷ open_bracket ∷ close_bracket
    ∷ []

abbrev pub first_byte : Symbol → ℕ
first_byte x = get_or (spelling x) 0 0

abbrev pub other_bytes : Symbol → List ℕ
other_bytes x = drop 1 (spelling x)

abbrev pub sign_of : List Symbol → ℕ → Mark
sign_of [] b = unknown
sign_of (x ∷ xs) b = cond (eqb b (first_byte x)) (begins x) (sign_of xs b)

unfoldable pub mark_of : ℕ → Mark
mark_of b = cond (eqb b 32) blank (cond (eqb b 112) begins_letter (sign_of signs b))

-- inside a symbol that is taken for read, with the bytes that it lacks; or after p and the digits of a number
pub data State : Type 0 where
  inside : List ℕ → Config → State
  lettered : ℕ → List Open → State

abbrev pub dead : State
dead = inside [] stuck

abbrev pub going : Config → Bool
going (operand s) = true
going (ended φ s) = true
going stuck = false

-- whether a rule can still come of it
abbrev pub alive : State → Bool
alive (inside left c) = going c
alive (lettered n s) = true

-- a letter's number is whole
abbrev pub of_letter : ℕ → List Open → Config
of_letter zero s = stuck
of_letter (suc n) s = settle (lit true (suc n)) s

abbrev pub begin_letter : Config → State
begin_letter (operand s) = lettered 0 s
begin_letter (ended φ s) = dead
begin_letter stuck = dead

abbrev pub begin : Config → Mark → State
begin c blank = inside [] c
begin c (begins x) = inside (other_bytes x) (shift c x)
begin c begins_letter = begin_letter c
begin c unknown = dead

abbrev pub is_digit : ℕ → Bool
is_digit b = leb 48 b && leb b 57

-- the letters are 1 to 32, so no number goes on after a second digit
abbrev pub grown : ℕ → List Open → State
grown n s = cond (leb 1 n && leb n 32) (lettered n s) dead

-- one byte
unfoldable pub step : State → ℕ → State
step (inside [] c) b = begin c (mark_of b)
step (inside (x ∷ xs) c) b = cond (eqb b x) (inside xs c) dead
step (lettered n s) b = cond (is_digit b) (grown (10 * n + (b - 48)) s) (begin (of_letter n s) (mark_of b))

unfoldable pub run : State → List ℕ → State
run x [] = x
run x (b ∷ bs) = run (step x b) bs

abbrev pub start : State
start = inside [] (operand [])

abbrev pub accepted : Config → Option Formula
accepted (operand s) = none
accepted (ended φ []) = some φ
accepted (ended φ (x ∷ s)) = none
accepted stuck = none

-- what has been read where the text ends
abbrev pub final : State → Option Formula
final (inside [] c) = accepted c
final (inside (x ∷ xs) c) = none
final (lettered n s) = accepted (of_letter n s)

unfoldable pub reading_of : List ℕ → Option Formula
reading_of text = final (run start text)

abbrev pub is_none : Option Formula → Bool
is_none none = true
is_none (some φ) = false

-- the number of the byte, after n that were read, at which no rule can come of it any more, or one past the last
unfoldable pub departure_from : ℕ → State → List ℕ → ℕ
departure_from n x [] = suc n
departure_from n x (b ∷ bs) = cond (alive (step x b)) (departure_from (suc n) (step x b) bs) (suc n)

unfoldable pub departure_of : List ℕ → ℕ
departure_of text = departure_from 0 start text
