-- The dialect without W and M (document 02, N4): a W b is b R (a or b), and a M b is b U (a and b).
use Rattle.std.specs.Prelude.{Bool, true, false, ◌&&◌}
use Rattle.logic.specs.Formula.{Formula, Binary, const, lit, un, bin, conj, disj, until, weak, release, strong, implies}

-- an operator, over operands that are converted
abbrev pub dialect_op : Binary → Formula → Formula → Formula
dialect_op conj a b = bin conj a b
dialect_op disj a b = bin disj a b
dialect_op until a b = bin until a b
dialect_op weak a b = bin release b (bin disj a b)
dialect_op release a b = bin release a b
dialect_op strong a b = bin until b (bin conj a b)
dialect_op implies a b = bin implies a b

unfoldable pub dialect : Formula → Formula
dialect (const b) = const b
dialect (lit b n) = lit b n
dialect (un o a) = un o (dialect a)
dialect (bin o a b) = dialect_op o (dialect a) (dialect b)

-- the operators that the dialect has
abbrev pub free_op : Binary → Bool
free_op conj = true
free_op disj = true
free_op until = true
free_op weak = false
free_op release = true
free_op strong = false
free_op implies = true

-- a formula with no W and no M
unfoldable pub is_free : Formula → Bool
is_free (const b) = true
is_free (lit b n) = true
is_free (un o a) = is_free a
is_free (bin o a b) = free_op o && is_free a && is_free b
