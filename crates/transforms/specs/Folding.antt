-- Folding (document 02, N8): where a word has a constant for an operand it may be one of its operands; and a formula folded from its leaves upward.
use Rattle.std.specs.Prelude.{Bool, true, false}
use Rattle.logic.specs.Formula.{Formula, Unary, Binary, const, lit, un, bin, next, neg, finally, globally, conj, disj, until, weak, release, strong, implies}

-- which of its operands a word is, or that it stands
pub data Fold : Type 0 where
  left right stands : Fold

-- what a constant on the left makes of a word: and, or as usual; false U b is b, false W b is b, true W b is true; true R b is b; false M b is
-- false, true M b is b
abbrev pub on_left : Binary → Bool → Fold
on_left conj false = left
on_left conj true = right
on_left disj false = right
on_left disj true = left
on_left until false = right
on_left until true = stands
on_left weak false = right
on_left weak true = left
on_left release false = stands
on_left release true = right
on_left strong false = left
on_left strong true = right
on_left implies c = stands

-- what a constant on the right makes of a word: and, or as usual; U and R give it; a W true is true; a M false is false
abbrev pub on_right : Binary → Bool → Fold
on_right conj false = right
on_right conj true = left
on_right disj false = left
on_right disj true = right
on_right until c = right
on_right weak false = stands
on_right weak true = right
on_right release c = right
on_right strong false = right
on_right strong true = stands
on_right implies c = stands

-- what a word's only operand makes of it: X of a constant is the constant
abbrev pub on_operand : Unary → Bool → Fold
on_operand next c = right
on_operand neg c = stands
on_operand finally c = stands
on_operand globally c = stands

-- what a formula makes of the word that has it for an operand: only constants do
abbrev pub by_constant : (Bool → Fold) → Formula → Fold
by_constant f (const c) = f c
by_constant f (lit b n) = stands
by_constant f (un o a) = stands
by_constant f (bin o a b) = stands

-- the first of two, where it does not leave the word standing; where both do not, they come to the same
abbrev pub or_else : Fold → Fold → Fold
or_else left f = left
or_else right f = right
or_else stands f = f

-- an operand, or the word
abbrev pub pick {ℓ} : {A : Type ℓ} → Fold → A → A → A → A
pick left a b w = a
pick right a b w = b
pick stands a b w = w

-- a word over operands that are folded
unfoldable pub fold_unary : Unary → Formula → Formula
fold_unary o a = pick (by_constant (on_operand o) a) a a (un o a)

unfoldable pub fold_binary : Binary → Formula → Formula → Formula
fold_binary o a b = pick (or_else (by_constant (on_left o) a) (by_constant (on_right o) b)) a b (bin o a b)

unfoldable pub fold : Formula → Formula
fold (const b) = const b
fold (lit b n) = lit b n
fold (un o a) = fold_unary o (fold a)
fold (bin o a b) = fold_binary o (fold a) (fold b)
