-- The grammar of rules typed as text: document 02, N1, as a relation between bytes and formulas. No reader of it is spoken of here.
use Rattle.std.specs.Prelude.{ℕ, suc, ◌+◌, ◌/◌, ◌%◌, ◌≤◌, ◌<◌, Bool, true, false, cond, List, [], ◌∷◌, ◌++◌, ltb, length, take}
use Rattle.logic.specs.Formula.{Formula, Unary, Binary, const, lit, un, bin, next, neg, finally, globally, conj, disj, until, weak, release, strong, implies}

-- true false, p1 p2 .., ! X F G, & | -> U W R M, ( and )
pub data Symbol : Type 0 where
  constant : Bool → Symbol
  letter : ℕ → Symbol
  prefix : Unary → Symbol
  operator : Binary → Symbol
  open_bracket close_bracket : Symbol

-- a number below 100 in decimal, with no leading 0; byte 48 is the digit 0
abbrev pub decimal : ℕ → List ℕ
decimal n = cond (ltb n 10) ((48 + n) ∷ []) ((48 + n / 10) ∷ (48 + n % 10) ∷ [])

-- the bytes of a symbol, in ASCII
abbrev pub spelling : Symbol → List ℕ
spelling (constant true) = 116 ∷ 114 ∷ 117 ∷ 101 ∷ []
spelling (constant false) = 102 ∷ 97 ∷ 108 ∷ 115 ∷ 101 ∷ []
spelling (letter n) = 112 ∷ decimal n
spelling (prefix neg) = 33 ∷ []
spelling (prefix next) = 88 ∷ []
spelling (prefix finally) = 70 ∷ []
spelling (prefix globally) = 71 ∷ []
spelling (operator conj) = 38 ∷ []
spelling (operator disj) = 124 ∷ []
spelling (operator implies) = 45 ∷ 62 ∷ []
spelling (operator until) = 85 ∷ []
spelling (operator weak) = 87 ∷ []
spelling (operator release) = 82 ∷ []
spelling (operator strong) = 77 ∷ []
spelling open_bracket = 40 ∷ []
spelling close_bracket = 41 ∷ []

-- spaces, byte 32, may stand before, between and after symbols, and never inside one
pub data Spelled : List Symbol → List ℕ → Type 0 where
  nothing : Spelled [] []
  space : {ss : List Symbol} {bs : List ℕ} → Spelled ss bs → Spelled ss (32 ∷ bs)
  symbol : (s : Symbol) {ss : List Symbol} {bs : List ℕ} → Spelled ss bs → Spelled (s ∷ ss) (spelling s ++ bs)

-- a constant, a letter p1 to p32, a prefix before a rule, or a two-sided operator between two rules, always in brackets
pub data Rule : List Symbol → Formula → Type 0 where
  constant_rule : (b : Bool) → Rule (constant b ∷ []) (const b)
  letter_rule : (n : ℕ) → 0 < n → n ≤ 32 → Rule (letter n ∷ []) (lit true n)
  prefixed : (o : Unary) {ss : List Symbol} {a : Formula} → Rule ss a → Rule (prefix o ∷ ss) (un o a)
  bracketed : (o : Binary) {ss ts : List Symbol} {a b : Formula} → Rule ss a → Rule ts b
      → Rule (open_bracket ∷ ss ++ (operator o ∷ ts ++ (close_bracket ∷ []))) (bin o a b)

-- a text, its bytes, is a rule
pub record Reads (text : List ℕ) (φ : Formula) : Type 0 where
  pub symbols : List Symbol
  pub spelled : Spelled symbols text
  pub rule : Rule symbols φ

-- some continuation of these bytes is a rule
pub record Viable (bytes : List ℕ) : Type 0 where
  pub continuation : List ℕ
  pub formula : Formula
  pub reads : Reads (bytes ++ continuation) formula

-- a text that is no rule departs from the grammar at byte n, counted from 1: the first after which no continuation could help,
-- or the length plus 1 where the text ends early
pub record Departs (text : List ℕ) (n : ℕ) : Type 0 where
  pub no_rule : (φ : Formula) → Reads text φ → ⊥
  pub before : (m : ℕ) → m < n → Viable (take m text)
  pub here : n ≤ length text → Viable (take n text) → ⊥
  pub within : n ≤ suc (length text)
