-- The negation normal form of a formula and of its denial, defined through each other (document 01: plain form, denial).
-- `plain true` is the plain form, and `plain false` the plain form of the denial.
use Rattle.std.specs.Prelude.{Bool, true, false, not, ◌&&◌}
use Rattle.std.specs.Bool.{beq}
use Rattle.logic.specs.Formula.{Formula, Unary, Binary, const, lit, un, bin, next, neg, finally, globally, conj, disj, until, weak, release, strong, implies}

-- and with or, U with R, W with M; no plain word is an implication
abbrev pub dual : Binary → Binary
dual conj = disj
dual disj = conj
dual until = release
dual weak = strong
dual release = until
dual strong = weak
dual implies = implies

-- an operator as wanted, or as denied
abbrev pub signed : Bool → Binary → Binary
signed true o = o
signed false o = dual o

unfoldable pub plain : Bool → Formula → Formula
plain p (const b) = const (beq p b)
plain p (lit b n) = lit (beq p b) n
plain p (un next a) = un next (plain p a)
plain p (un neg a) = plain (not p) a
plain p (un finally a) = bin (signed p until) (const p) (plain p a)
plain p (un globally a) = bin (signed p release) (const (not p)) (plain p a)
plain p (bin conj a b) = bin (signed p conj) (plain p a) (plain p b)
plain p (bin disj a b) = bin (signed p disj) (plain p a) (plain p b)
plain p (bin until a b) = bin (signed p until) (plain p a) (plain p b)
plain p (bin weak a b) = bin (signed p weak) (plain p a) (plain p b)
plain p (bin release a b) = bin (signed p release) (plain p a) (plain p b)
plain p (bin strong a b) = bin (signed p strong) (plain p a) (plain p b)
plain p (bin implies a b) = bin (signed p disj) (plain (not p) a) (plain p b)

-- the operators of plain formulas
abbrev pub plain_unary : Unary → Bool
plain_unary next = true
plain_unary neg = false
plain_unary finally = false
plain_unary globally = false

abbrev pub plain_binary : Binary → Bool
plain_binary conj = true
plain_binary disj = true
plain_binary until = true
plain_binary weak = true
plain_binary release = true
plain_binary strong = true
plain_binary implies = false

-- a formula with no not, F, G and implies
unfoldable pub is_plain : Formula → Bool
is_plain (const b) = true
is_plain (lit b n) = true
is_plain (un o a) = plain_unary o && is_plain a
is_plain (bin o a b) = plain_binary o && is_plain a && is_plain b
