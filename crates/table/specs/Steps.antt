-- What each step makes of a table: the class bytes, the plain form's table, the normal form's table and the table of the dialect without W and M;
-- and which tables are their own form.
use Rattle.std.specs.Prelude.{ℕ, Bool, true, cond, List, map}
use Rattle.logic.specs.Bit.{bit}
use Rattle.logic.specs.Formula.{Formula}
use Rattle.logic.specs.ClassByte.{class_byte}
use Rattle.logic.specs.NegationNormalForm.{plain}
use Rattle.transforms.specs.NormalForm.{keep, is_fixpoint, normal_form}
use Rattle.transforms.specs.Dialect.{dialect}
use Rattle.transforms.specs.Folding.{fold}
use Rattle.transforms.specs.After.{after}
use Rattle.table.specs.Table.{formulas, rule}
use Rattle.table.specs.Numbering.{table_of}

-- one byte a word
unfoldable pub class_bytes : List ℕ → List ℕ
class_bytes t = map class_byte (formulas t)

unfoldable pub plain_table : List ℕ → List ℕ
plain_table t = table_of (plain true (rule t))

-- the until-like words of a plain table, numbered from bit 0 upward in rising word number
unfoldable pub fixpoints : List ℕ → List Formula
fixpoints t = keep is_fixpoint (formulas t)

-- the normal form is folded before it is numbered (document 02, N8)
unfoldable pub normal_table : List ℕ → List ℕ
normal_table t = table_of (fold (normal_form (fixpoints t) (rule t)))

-- the class byte of the rule has bit 6, Delta-2 (document 02, N11)
unfoldable pub is_normal : List ℕ → Bool
is_normal t = bit (class_byte (rule t)) 6

-- the form of a plain table: the table itself, or its normal form's
unfoldable pub form_table : List ℕ → List ℕ
form_table t = cond (is_normal t) t (normal_table t)

unfoldable pub dialect_table : List ℕ → List ℕ
dialect_table t = table_of (dialect (rule t))

-- what remains of the rule after a sample, folded as forms are (document 02, N12)
unfoldable pub after_table : ℕ → List ℕ → List ℕ
after_table v t = table_of (fold (after v (rule t)))
