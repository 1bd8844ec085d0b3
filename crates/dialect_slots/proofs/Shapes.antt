-- The conversion of a word by the word's shape, where it keeps its operator.
use Prim.Native.Nat.{ℕ, ◌<◌, ◌≤◌}
use native.Mathlib.Omega.{arith}
use mathlib.Core.Path.{◌≡◌, refl}
use mathlib.Core.Bool.{true, false}
use mathlib.Core.List.{List}
use Rattle.logic.specs.Formula.{Formula, Binary, bin, next, neg, finally, globally, conj, disj, until, weak, release, strong, implies}
use Rattle.transforms.specs.Dialect.{dialect, dialect_op}
use Rattle.table.specs.Node.{Shape, none, constant, letter, unary, binary, right_field, kind_of}
use Rattle.table.specs.Table.{formula_by}
use Rattle.table.specs.Checks.{is_blank}
use Rattle.slots.specs.Slot.{pack}
use Rattle.drafts.specs.Drafted.{SlotIs, Drafted}

-- a constant or a letter, at a slot with its kind and its field
pub leaf_by : (s : Shape) (n : ℕ) (a b : Formula) {d : List ℕ} {i : ℕ} → 0 < kind_of s → kind_of s < 5 → n < 16384
    → (is_blank (right_field s) ≡ true → n ≡ 0) → SlotIs d i (pack (kind_of s) 0 n) → Drafted d (dialect (formula_by s n a b)) i
unfolding dialect
leaf_by none n a b g h f z q = absurd (omega arith)
leaf_by (constant c) n a b g h f z q = rw (z refl) at q
leaf_by (letter c) n a b g h f z q = (f, q)
leaf_by (unary next) n a b g h f z q = absurd (omega arith)
leaf_by (unary neg) n a b g h f z q = absurd (omega arith)
leaf_by (unary finally) n a b g h f z q = absurd (omega arith)
leaf_by (unary globally) n a b g h f z q = absurd (omega arith)
leaf_by (binary conj) n a b g h f z q = absurd (omega arith)
leaf_by (binary disj) n a b g h f z q = absurd (omega arith)
leaf_by (binary until) n a b g h f z q = absurd (omega arith)
leaf_by (binary weak) n a b g h f z q = absurd (omega arith)
leaf_by (binary release) n a b g h f z q = absurd (omega arith)
leaf_by (binary strong) n a b g h f z q = absurd (omega arith)
leaf_by (binary implies) n a b g h f z q = absurd (omega arith)

-- a plain kind above the constants and letters and other than X, W and M
pub record IsKept (k : ℕ) : Type 0 where
  pub above : 5 ≤ k
  pub plain : k < 12
  pub no_next : k ≡ 7 → ⊥
  pub no_weak : k ≡ 9 → ⊥
  pub no_strong : k ≡ 11 → ⊥

-- and, or, U or R: the operator, which the conversion keeps
pub record Kept (s : Shape) : Type 0 where
  pub operator : Binary
  pub is : s ≡ binary operator
  pub form : (a b : Formula) → dialect_op operator a b ≡ bin operator a b

pub kept_by : (s : Shape) → IsKept (kind_of s) → Kept s
kept_by none c = absurd (omega (arith, c.above))
kept_by (constant true) c = absurd (omega (arith, c.above))
kept_by (constant false) c = absurd (omega (arith, c.above))
kept_by (letter true) c = absurd (omega (arith, c.above))
kept_by (letter false) c = absurd (omega (arith, c.above))
kept_by (unary next) c = absurd (c.no_next refl)
kept_by (unary neg) c = absurd (omega (arith, c.plain))
kept_by (unary finally) c = absurd (omega (arith, c.plain))
kept_by (unary globally) c = absurd (omega (arith, c.plain))
kept_by (binary conj) c = record { operator = conj; is = refl; form = λ a b. refl }
kept_by (binary disj) c = record { operator = disj; is = refl; form = λ a b. refl }
kept_by (binary until) c = record { operator = until; is = refl; form = λ a b. refl }
kept_by (binary weak) c = absurd (c.no_weak refl)
kept_by (binary release) c = record { operator = release; is = refl; form = λ a b. refl }
kept_by (binary strong) c = absurd (c.no_strong refl)
kept_by (binary implies) c = absurd (omega (arith, c.plain))
