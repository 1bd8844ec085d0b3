-- Formulas of linear temporal logic: source 002, Definition 1, with the negation, F, G and implication of written rules.
-- Document 01 calls a formula a rule, and an atomic proposition a letter.
use Rattle.std.specs.Prelude.{ℕ, Bool, true, false}
use Rattle.std.proofs.Math.Bool.{decide, Bool-discrete}
use Rattle.std.proofs.Math.Decide.{ℕ_discrete}

-- X, not, F, G
pub data Unary : Type 0 where
  next neg finally globally : Unary
  deriving Discrete as Unary-discrete

-- and, or, U, W, R, M, implies
pub data Binary : Type 0 where
  conj disj until weak release strong implies : Binary
  deriving Discrete as Binary-discrete

-- U and M are least fixpoints, W and R greatest ones (document 01: the until-like words)
abbrev pub is_least_op : Binary → Bool
is_least_op conj = false
is_least_op disj = false
is_least_op until = true
is_least_op weak = false
is_least_op release = false
is_least_op strong = true
is_least_op implies = false

abbrev pub is_greatest_op : Binary → Bool
is_greatest_op conj = false
is_greatest_op disj = false
is_greatest_op until = false
is_greatest_op weak = true
is_greatest_op release = true
is_greatest_op strong = false
is_greatest_op implies = false

-- and, or
abbrev pub is_junction : Binary → Bool
is_junction conj = true
is_junction disj = true
is_junction until = false
is_junction weak = false
is_junction release = false
is_junction strong = false
is_junction implies = false

-- a constant; a letter (true) or its negation (false), by the letter's number; an operator with its operands
pub data Formula : Type 0 where
  const : Bool → Formula
  lit : Bool → ℕ → Formula
  un : Unary → Formula → Formula
  bin : Binary → Formula → Formula → Formula
  deriving Discrete as Formula-discrete

-- whether two formulas are the same tree
unfoldable pub same : Formula → Formula → Bool
same a b = decide (Formula-discrete Bool-discrete ℕ_discrete Unary-discrete Binary-discrete a b)

-- F a is true U a, and G a is false R a (source 002, below Definition 2)
abbrev pub F : Formula → Formula
F a = bin until (const true) a

abbrev pub G : Formula → Formula
G a = bin release (const false) a
