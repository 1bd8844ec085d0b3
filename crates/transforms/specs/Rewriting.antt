-- The three rewritings of source 002: φ[M]Π₁ (Definition 10), φ[N]Σ₁ (Definition 12) and φ[M]Σ₂ (Definition 22).
-- Document 01 calls them the steady form by M, the recurring form by N and the opening form by M.
-- A set of formulas is a test. What an operator becomes is given by what its operands become.
use Rattle.std.specs.Prelude.{Bool, true, false, cond}
use Rattle.logic.specs.Formula.{Formula, Binary, const, lit, un, bin, conj, disj, until, weak, release, strong, implies, G}

-- a U b becomes a W b, and a M b becomes a R b, if chosen; else either becomes false
abbrev pub steady_op : Bool → Binary → Formula → Formula → Formula
steady_op m conj a b = bin conj a b
steady_op m disj a b = bin disj a b
steady_op m until a b = cond m (bin weak a b) (const false)
steady_op m weak a b = bin weak a b
steady_op m release a b = bin release a b
steady_op m strong a b = cond m (bin release a b) (const false)
steady_op m implies a b = bin implies a b

unfoldable pub steady : (Formula → Bool) → Formula → Formula
steady M (const b) = const b
steady M (lit b n) = lit b n
steady M (un o a) = un o (steady M a)
steady M (bin o a b) = steady_op (M (bin o a b)) o (steady M a) (steady M b)

-- a W b and a R b become true if chosen; else a U b and a M b
abbrev pub recurring_op : Bool → Binary → Formula → Formula → Formula
recurring_op n conj a b = bin conj a b
recurring_op n disj a b = bin disj a b
recurring_op n until a b = bin until a b
recurring_op n weak a b = cond n (const true) (bin until a b)
recurring_op n release a b = cond n (const true) (bin strong a b)
recurring_op n strong a b = bin strong a b
recurring_op n implies a b = bin implies a b

unfoldable pub recurring : (Formula → Bool) → Formula → Formula
recurring N (const b) = const b
recurring N (lit b n) = lit b n
recurring N (un o a) = un o (recurring N a)
recurring N (bin o a b) = recurring_op (N (bin o a b)) o (recurring N a) (recurring N b)

-- a W b becomes a U (b or G a'), and a R b becomes (a or G b') M b, with a' and b' the steady forms
abbrev pub opening_op : Binary → Formula → Formula → Formula → Formula → Formula
opening_op conj a b a' b' = bin conj a b
opening_op disj a b a' b' = bin disj a b
opening_op until a b a' b' = bin until a b
opening_op weak a b a' b' = bin until a (bin disj b (G a'))
opening_op release a b a' b' = bin strong (bin disj a (G b')) b
opening_op strong a b a' b' = bin strong a b
opening_op implies a b a' b' = bin implies a b

unfoldable pub opening : (Formula → Bool) → Formula → Formula
opening M (const b) = const b
opening M (lit b n) = lit b n
opening M (un o a) = un o (opening M a)
opening M (bin o a b) = opening_op o (opening M a) (opening M b) (steady M a) (steady M b)
