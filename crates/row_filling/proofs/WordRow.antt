-- One word's turn: its operands' rows stand in the scratch, and its own row is put into its part.
use Prim.Native.Nat.{ℕ, zero, suc, ◌+◌, ◌-◌, ◌*◌, ◌≤◌, ◌<◌}
use mathlib.Core.Path.{◌≡◌, sym, ap, ap₂, subst, ◌∙◌}
use mathlib.Core.Bool.{Bool, false}
use mathlib.Core.List.{List, [], ◌∷◌, ◌++◌}
use native.Mathlib.Numerals.{add-one}
use native.Mathlib.Nat.{mul-le-mul_right, le_trans}
use native.Mathlib.Omega.{arith}
use lib.ListN.{length, get_or, take, drop}
use lib.Seq.{take_all, take-suc, length-take-le}
use Rattle.logic.specs.Formula.{Formula, const}
use Rattle.logic.specs.Lasso.{Lasso}
use Rattle.logic.specs.Truth.{Sequence, Operation, truth}
use Rattle.row_words.specs.Row.{row, row_words}
use Rattle.table.specs.Node.{kind, right, shape}
use Rattle.table.specs.Table.{formula_of, word_formula, formulas}
use Rattle.table.proofs.Formulas.{length-formulas, formula_at}
use Rattle.table.proofs.Accepted.{WellFormedWord, accepted-well-formed}
use Rattle.operators.specs.declared.operator.Operator.{Operator}
use Rattle.table_rows.specs.Rows.{lasso_of, row_number, row_of, rows_then, Fillable}
use Rattle.operand_rows.specs.Operands.{Standing, Prepared}
use Rattle.row_filling.specs.Filling.{first_operand}
use Rattle.operators.specs.Looped.{Meaning, literally, operation, meaning, does, row_by}
use Rattle.row_filling.proofs.Looped.{Earlier, operands-earlier, letter-known, word_row}
use Rattle.table_rows.proofs.Rows.{width, row_part, rows_then_over, rows_then_more}
use Rattle.table_rows.proofs.Parts.{Inside, lasso_inside, part_end}

-- the row of an earlier word
operand_row : (r : Lasso) (φs : List Formula) (s : List ℕ) (n : ℕ) → s ≡ rows_then r φs s → 1 ≤ n → n ≤ length φs
    → row_number (width r) (n - 1) s ≡ row_of r (formula_of φs n)
unfolding rows_then formula_of
operand_row r φs s zero e h l = absurd (omega arith)
operand_row r φs s (suc n) e h l =
    let d : suc n - 1 ≡ n = omega arith in
    rw d (ap (row_number (width r) n) e ∙ row_part r φs n (drop (length φs * width r) s) (omega arith))

-- the list with a row of so many words put into part n
abbrev with_row : ℕ → ℕ → List ℕ → List ℕ → List ℕ
with_row n words s e = take (n * words) s ++ (e ++ drop words (drop (n * words) s))

module _ (t samples : List ℕ) (start j : ℕ) (s : List ℕ) (words : ℕ) (h : j < length t)
    (facts : Fillable t samples start s) (wide : words ≡ row_words (length samples)) where
  formed : WellFormedWord false (take j t) (suc j) (get_or t j 0)
  formed = (accepted-well-formed false 16383 t facts.accepted).word j h

  pub start_inside : start < length samples
  start_inside = facts.inside

  -- what the word's operator reads, and the word's letter
  module _ (op : Operator) (means : does op ≡ meaning (shape (kind (get_or t j 0)))) (l n : ℕ) (el : l ≡ first_operand (get_or t j 0)) (er : n ≡ right (get_or t j 0)) where
    earlier : (o : Operation) → does op ≡ operation o → Earlier (suc j) l × Earlier (suc j) n
    earlier o e = rw (el, er) (operands-earlier (take j t) (suc j) (get_or t j 0) formed o (sym e ∙ means))

    pub standing : (o : Operation) → does op ≡ operation o → Standing l (row_words (length samples)) s × Standing n (row_words (length samples)) s
    standing o e = (stands l (earlier o e).0, stands n (earlier o e).1)
      where
        stands : (m : ℕ) → Earlier (suc j) m → Standing m (row_words (length samples)) s
        stands m e =
            let below : m ≤ j = omega arith in
            record { some = e.0; room = subst (λ (x : ℕ). m * x ≤ length s) wide (le_trans (mul-le-mul_right words below) (omega (arith, part_end t samples start j s words h facts wide))) }

    pub letter_in : (c : Bool) → does op ≡ literally c → (1 ≤ n) × (n ≤ 32)
    letter_in c e = rw er (letter-known (take j t) (suc j) (get_or t j 0) formed c (sym e ∙ means))

    -- the word's row in its part, from what is read and what the writer promises
    pub row-filled : (a b e : List ℕ)
        → ((f g : Sequence)
        → ((o : Operation) → does op ≡ operation o
        → (row_number (row_words (length samples)) (l - 1) s ≡ row (length samples) f) × (row_number (row_words (length samples)) (n - 1) s ≡ row (length samples) g))
        → Prepared op (length samples) f g a b)
        → ((f g : Sequence) → Prepared op (length samples) f g a b
        → e ≡ row (length samples) (row_by (length samples) start samples (does op) n f g))
        → (driven : ℕ) → driven ≤ 32 → s ≡ rows_then (lasso_of samples start driven) (take j (formulas t)) s
        → take (j * words) s ++ (e ++ drop (j * words + words - j * words) (drop (j * words) s))
        ≡ rows_then (lasso_of samples start driven) (take (j + 1) (formulas t)) s
    unfolding row_of
    row-filled a b e prepared promised driven few so_far =
        let w : ℕ = get_or t j 0 in
        let φs : List Formula = take j (formulas t) in
        let m : length φs ≡ j = length-take-le j (formulas t) (omega (arith, length-formulas t)) in
        let i : Inside samples start driven = lasso_inside samples start driven facts.inside few in
        let r : Lasso = record { samples = samples; start = start; driven = driven; inside = i.0; few = i.1 } in
        let stands : s ≡ rows_then r φs s = subst (λ (x : Lasso). s ≡ rows_then x φs s) i.2 so_far in
        let f : Sequence = truth r (formula_of φs (first_operand w)) in
        let g : Sequence = truth r (formula_of φs (right w)) in
        let read : (k : ℕ) → Earlier (suc j) k → row_number (row_words (length samples)) (k - 1) s ≡ row_of r (formula_of φs k)
        = λ k d. operand_row r φs s k stands d.0 (omega (arith, d.1)) in
        let rows = prepared f g (λ o d. (
          read l (earlier o d).0 ∙ ap (λ (x : ℕ). row_of r (formula_of φs x)) el,
          read n (earlier o d).1 ∙ ap (λ (x : ℕ). row_of r (formula_of φs x)) er,
        )) in
        let written : e ≡ row_of r (word_formula φs w) =
        promised f g rows
        ∙ ap₂ (λ (x : Meaning) (y : ℕ). row (length samples) (row_by (length samples) start samples x y f g)) means er
        ∙ word_row (take j t) (suc j) w formed r φs
        in
        let more : φs ++ (word_formula φs w ∷ []) ≡ take (j + 1) (formulas t) =
        ap (λ (φ : Formula). φs ++ (φ ∷ [])) (sym (formula_at t j h))
        ∙ sym (take-suc (formulas t) j (const false) (omega (arith, length-formulas t)))
        ∙ ap (λ (x : ℕ). take x (formulas t)) (sym (add-one j))
        in
        let rest : j * words + words - j * words ≡ words = omega arith in
        ap (λ (x : ℕ). take (j * words) s ++ (e ++ drop x (drop (j * words) s))) rest
        ∙ ap₂ (λ (x : ℕ) (y : List ℕ). with_row x words s y) (sym m) written
        ∙ ap₂ (λ (x : ℕ) (y : List ℕ). with_row (length φs) x y (row_of r (word_formula φs w))) wide stands
        ∙ rows_then_more r φs (word_formula φs w) s
        ∙ ap₂ (λ (x : Lasso) (y : List Formula). rows_then x y s) (sym i.2) more

-- ---- the turns one after another

module _ (r : Lasso) (t s u : List ℕ) (j : ℕ) (h : j ≤ length t) (e : u ≡ rows_then r (take j (formulas t)) s) where
  length_first : length (take j (formulas t)) ≡ j
  length_first = length-take-le j (formulas t) (omega (arith, length-formulas t))

  pub rows_stand : u ≡ rows_then r (take j (formulas t)) u
  rows_stand =
      e
      ∙ sym (rows_then_over r (take j (formulas t)) (take j (formulas t)) s (omega arith))
      ∙ ap (rows_then r (take j (formulas t))) (sym e)

  pub rows_next : (v : List ℕ) → j < length t → v ≡ rows_then r (take (j + 1) (formulas t)) u → v ≡ rows_then r (take (j + 1) (formulas t)) s
  rows_next v k d =
      let m : length (take (j + 1) (formulas t)) ≡ j + 1 = length-take-le (j + 1) (formulas t) (omega (arith, length-formulas t)) in
      d
      ∙ ap (rows_then r (take (j + 1) (formulas t))) e
      ∙ rows_then_over r (take j (formulas t)) (take (j + 1) (formulas t)) s (omega (arith, m, length_first))

  pub rows_all : length t ≤ j → u ≡ rows_then r (formulas t) s
  rows_all k = e ∙ ap (λ (φs : List Formula). rows_then r φs s) (take_all j (formulas t) (omega (arith, length-formulas t)))
