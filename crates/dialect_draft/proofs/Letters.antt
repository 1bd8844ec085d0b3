-- The letters of a formula's conversion are the formula's.
use Prim.Native.Nat.{ℕ}
use Rattle.logic.specs.Formula.{Formula, Binary, const, lit, un, bin, conj, disj, until, weak, release, strong, implies}
use Rattle.logic.specs.Letters.{Letters}
use Rattle.transforms.specs.Dialect.{dialect, dialect_op}

letters_op : (Q : ℕ → Type 0) (o : Binary) (a b : Formula) → Letters Q a → Letters Q b → Letters Q (dialect_op o a b)
letters_op Q conj a b p q = (p, q)
letters_op Q disj a b p q = (p, q)
letters_op Q until a b p q = (p, q)
letters_op Q weak a b p q = (q, (p, q))
letters_op Q release a b p q = (p, q)
letters_op Q strong a b p q = (q, (p, q))
letters_op Q implies a b p q = (p, q)

pub letters-dialect : (Q : ℕ → Type 0) (φ : Formula) → Letters Q φ → Letters Q (dialect φ)
unfolding dialect
letters-dialect Q (const b) l = l
letters-dialect Q (lit b n) l = l
letters-dialect Q (un o a) l = letters-dialect Q a l
letters-dialect Q (bin o a b) l = letters_op Q o (dialect a) (dialect b) (letters-dialect Q a l.0) (letters-dialect Q b l.1)
