-- What the row of a word holds is the truth of its formula, below the number of samples; and where the word's operands are.
use Prim.Native.Nat.{ℕ, ◌≤◌, ◌<◌}
use mathlib.Core.Path.{◌≡◌, refl, sym, ap, ◌∙◌}
use mathlib.Core.Bool.{Bool, true, false, cond}
use mathlib.Core.List.{List}
use native.Mathlib.Omega.{arith}
use lib.ListN.{length}
use borrow.Author.Tests.{lt-ltb, eq-eqb, ne_eqb}
use Rattle.logic.specs.Formula.{Formula, Unary, Binary}
use Rattle.logic.specs.Lasso.{Lasso, place, word}
use Rattle.logic.specs.Truth.{Operation, unary_operation, binary_operation, looped, truth}
use Rattle.logic.proofs.Lasso.Sweep.{applied-looped}
use Rattle.row_words.specs.Row.{row}
use Rattle.row_words.proofs.Rows.{row_ext}
use Rattle.table.specs.Node.{Shape, none, constant, letter, unary, binary, kind, left, right, shape, left_field, right_field}
use Rattle.table.specs.Table.{formula_by, formula_of, word_formula}
use Rattle.table.specs.Checks.{is_blank, is_operand, is_proposition}
use Rattle.table.proofs.Accepted.{WellFormedWord}
use Rattle.table_rows.specs.Rows.{row_of}
use Rattle.operators.specs.Looped.{literally, operation, meaning, row_by}
use Rattle.row_filling.specs.Filling.{first_operand}

-- the number of an earlier word
abbrev pub Earlier : ℕ → ℕ → Type 0
Earlier n m = (1 ≤ m) × (m < n)

module _ (earlier : List ℕ) (n w : ℕ) (formed : WellFormedWord false earlier n w) where
  -- the one operand stands on both sides, and of two the first on the left
  first_of_one : (o : Unary) → shape (kind w) ≡ unary o → first_operand w ≡ right w
  unfolding first_operand
  first_of_one o e = ap (λ (b : Bool). cond b (right w) (left w)) (eq-eqb (left w) 0 (formed.blank_left (ap (λ (k : Shape). is_blank (left_field k)) e)))

  left_of_two : (o : Binary) → shape (kind w) ≡ binary o → Earlier n (left w)
  left_of_two o e = formed.operand_left (ap (λ (k : Shape). is_operand (left_field k)) e)

  first_of_two : (o : Binary) → shape (kind w) ≡ binary o → first_operand w ≡ left w
  unfolding first_operand
  first_of_two o e = ap (λ (b : Bool). cond b (right w) (left w)) (ne_eqb (left w) 0 (λ q. omega (arith, left_of_two o e)))

  -- what an operation reads
  pub operands-earlier : (o : Operation) → operation o ≡ meaning (shape (kind w)) → Earlier n (first_operand w) × Earlier n (right w)
  operands-earlier o m = go (shape (kind w)) refl m
    where
      right_of : (k : Shape) → shape (kind w) ≡ k → is_operand (right_field k) ≡ true → Earlier n (right w)
      right_of k e h = formed.operand_right (ap (λ (x : Shape). is_operand (right_field x)) e ∙ h)

      go : (k : Shape) → shape (kind w) ≡ k → operation o ≡ meaning k → Earlier n (first_operand w) × Earlier n (right w)
      go none e d = absurd (let z : ◌≡◌ {A = ℕ} 0 1 = cc in omega arith)
      go (constant c) e d = absurd (let z : ◌≡◌ {A = ℕ} 0 1 = cc in omega arith)
      go (letter c) e d = absurd (let z : ◌≡◌ {A = ℕ} 0 1 = cc in omega arith)
      go (unary u) e d = (rw (first_of_one u e) (right_of (unary u) e refl), right_of (unary u) e refl)
      go (binary u) e d = (rw (first_of_two u e) (left_of_two u e), right_of (binary u) e refl)

  pub letter-known : (c : Bool) → literally c ≡ meaning (shape (kind w)) → (1 ≤ right w) × (right w ≤ 32)
  letter-known c m = go (shape (kind w)) refl m
    where
      go : (k : Shape) → shape (kind w) ≡ k → literally c ≡ meaning k → (1 ≤ right w) × (right w ≤ 32)
      go none e d = absurd (let z : ◌≡◌ {A = ℕ} 0 1 = cc in omega arith)
      go (constant b) e d = absurd (let z : ◌≡◌ {A = ℕ} 0 1 = cc in omega arith)
      go (letter b) e d = formed.letter (ap (λ (k : Shape). is_proposition (right_field k)) e)
      go (unary u) e d = absurd (let z : ◌≡◌ {A = ℕ} 0 1 = cc in omega arith)
      go (binary u) e d = absurd (let z : ◌≡◌ {A = ℕ} 0 1 = cc in omega arith)

  -- the row of the word's formula
  pub word_row : (r : Lasso) (φs : List Formula)
      → row (length r.samples) (row_by (length r.samples) r.start r.samples (meaning (shape (kind w))) (right w)
      (truth r (formula_of φs (first_operand w))) (truth r (formula_of φs (right w))))
      ≡ row_of r (word_formula φs w)
  unfolding row_of word_formula truth word place
  word_row r φs = row_ext (length r.samples) _ _ (λ i h. sym (go i h (shape (kind w)) refl))
    where
      A : Formula
      A = formula_of φs (left w)

      B : Formula
      B = formula_of φs (right w)

      go : (i : ℕ) → i < length r.samples → (k : Shape) → shape (kind w) ≡ k
          → truth r (formula_by k (right w) A B) i
          ≡ row_by (length r.samples) r.start r.samples (meaning k) (right w) (truth r (formula_of φs (first_operand w))) (truth r B) i
      go i h none e = refl
      go i h (constant c) e = refl
      go i h (letter c) e = rw (lt-ltb i (length r.samples) h)
      go i h (unary o) e =
          applied-looped r (unary_operation o) B B i h
          ∙ ap (λ (m : ℕ). looped (length r.samples) r.start (unary_operation o) (truth r (formula_of φs m)) (truth r B) i) (sym (first_of_one o e))
      go i h (binary o) e =
          applied-looped r (binary_operation o) A B i h
          ∙ ap (λ (m : ℕ). looped (length r.samples) r.start (binary_operation o) (truth r (formula_of φs m)) (truth r B) i) (sym (first_of_two o e))
