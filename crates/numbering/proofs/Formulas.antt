-- From words to formulas: in a table whose operands are earlier words, the formula that is held at a number is the one that the word there stands for.
use Prim.Native.Nat.{ℕ, zero, suc, ◌≤◌, ◌<◌}
use native.Mathlib.Nat.{not-suc-le-zero}
use native.Mathlib.Omega.{arith}
use mathlib.Core.Path.{◌≡◌, ap, ap₂, ◌∙◌}
use mathlib.Core.Bool.{true}
use mathlib.Core.List.{List}
use lib.ListN.{length, get_or}
use Rattle.logic.specs.Formula.{Formula, const, lit, un, bin}
use Rattle.table.specs.Node.{left, right}
use Rattle.table.specs.Table.{formula_of, word_formula, formulas}
use Rattle.table.specs.Checks.{is_operand, holds_left, holds_right}
use Rattle.table.proofs.Formulas.{formula_of-word, word_formula-constant, word_formula-literal, word_formula-unary, word_formula-binary}
use Rattle.numbering.specs.Held.{Word, Held}
use Rattle.logic.specs.Letters.{Letters}
use Rattle.numbering.proofs.Building.{held_within}

-- operands are earlier words
pub record Ordered (t : List ℕ) : Type 0 where
  pub left_earlier : (i : ℕ) → i < length t → is_operand (holds_left (get_or t i 0)) ≡ true → left (get_or t i 0) ≤ i
  pub right_earlier : (i : ℕ) → i < length t → is_operand (holds_right (get_or t i 0)) ≡ true → right (get_or t i 0) ≤ i

pub word_formula_lem : (t : List ℕ) → Ordered t → (n w : ℕ) → Word t n w → formula_of (formulas t) n ≡ word_formula (formulas t) w
unfolding formula_of word_formula
word_formula_lem t o zero w r = absurd (not-suc-le-zero r.positive)
word_formula_lem t o (suc i) w r = formula_of-word t i r.within (o.left_earlier i r.within) (o.right_earlier i r.within) ∙ ap (word_formula (formulas t)) r.is

-- a held formula is the one that the word at its number stands for
pub held_formula : (t : List ℕ) → Ordered t → length t < 16384 → (φ : Formula) (n : ℕ) → Letters (λ p. p < 16384) φ → Held t φ n → formula_of (formulas t) n ≡ φ
held_formula t o k (const b) n s h = word_formula_lem t o n _ h ∙ word_formula-constant (formulas t) b
held_formula t o k (lit b p) n s h = word_formula_lem t o n _ h ∙ word_formula-literal (formulas t) b p s
held_formula t o k (un q a) n s h =
    word_formula_lem t o n _ h.2
    ∙ word_formula-unary (formulas t) q h.0 (omega (arith, held_within t a h.0 h.1))
    ∙ ap (un q) (held_formula t o k a h.0 s h.1)
held_formula t o k (bin q a b) n s h =
    word_formula_lem t o n _ h.4
    ∙ word_formula-binary (formulas t) q h.0 h.1 (omega (arith, held_within t a h.0 h.2)) (omega (arith, held_within t b h.1 h.3))
    ∙ ap₂ (bin q) (held_formula t o k a h.0 s.0 h.2) (held_formula t o k b h.1 s.1 h.3)
