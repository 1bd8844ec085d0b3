-- The step by a sample (document 02, N12): the formula that remains, as the after function of source 000 has it (Definition 7, and below it for F
-- and G; not and implies go down into their operands).
use Rattle.std.specs.Prelude.{ℕ}
use Rattle.std.specs.Bool.{beq}
use Rattle.logic.specs.Formula.{Formula, Unary, Binary, const, lit, un, bin, next, neg, finally, globally, conj, disj, until, weak, release, strong, implies}
use Rattle.logic.specs.Lasso.{letter_in}

-- an operator over its operand a, with the operand's step a'
abbrev pub after_unary : Unary → Formula → Formula → Formula
after_unary next a a' = a
after_unary neg a a' = un neg a'
after_unary finally a a' = bin disj a' (un finally a)
after_unary globally a a' = bin conj a' (un globally a)

-- an operator over the steps a' and b' of its operands; w is the word itself
abbrev pub after_binary : Binary → Formula → Formula → Formula → Formula
after_binary conj a' b' w = bin conj a' b'
after_binary disj a' b' w = bin disj a' b'
after_binary until a' b' w = bin disj b' (bin conj a' w)
after_binary weak a' b' w = bin disj b' (bin conj a' w)
after_binary release a' b' w = bin conj b' (bin disj a' w)
after_binary strong a' b' w = bin conj b' (bin disj a' w)
after_binary implies a' b' w = bin implies a' b'

-- what remains of a formula after the sample v; a letter is whether it holds there
unfoldable pub after : ℕ → Formula → Formula
after v (const b) = const b
after v (lit b n) = const (beq b (letter_in v n))
after v (un o a) = after_unary o a (after v a)
after v (bin o a b) = after_binary o (after v a) (after v b) (bin o a b)
