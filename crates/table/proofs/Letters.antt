-- The letters that the words of a table name, and those of its formulas.
use Prim.Native.Nat.{ℕ, zero, suc, ◌+◌, ◌≤◌, ◌<◌}
use mathlib.Core.Path.{◌≡◌, refl, sym, ap, subst, ◌∙◌}
use mathlib.Core.Bool.{Bool, true, false, false≢true}
use mathlib.Core.List.{List, [], ◌∷◌}
use native.Mathlib.Omega.{arith}
use native.Mathlib.Nat.{add-zero}
use lib.ListN.{length, get_or}
use borrow.Author.Tests.{ltb-false, le-ltb}
use Rattle.logic.specs.Formula.{Formula}
use Rattle.logic.specs.Letters.{Letters}
use Rattle.logic.specs.Driven.{Driven}
use Rattle.refusals.specs.declared.Refusal.{Refusal}
use Rattle.refusals.specs.declared.Refusal.TheVariants.{LetterNotDriven}
use Rattle.std.specs.Prelude.{Ok, Err}
use Rattle.refusals.specs.Refusals.{first, decide_by}
use Rattle.table.specs.Node.{Shape, none, constant, letter, unary, binary, kind, left, right, shape, left_field, right_field}
use Rattle.table.specs.Table.{formulas, formula_of, formula_by}
use Rattle.table.specs.Checks.{is_operand, is_proposition, holds_right}
use Rattle.table.specs.StepChecks.{is_undriven, letter_checks}
use Rattle.refusals.proofs.First.{first_passed, passed_first}
use Rattle.table.proofs.Accepted.{WellFormed, accepted-formula, and-false, and_false-second}

-- ---- from words to formulas

module _ (P : ℕ → Type 0) where
  letters_by : (s : Shape) (n : ℕ) (a b : Formula) → (is_proposition (right_field s) ≡ true → P n)
      → (is_operand (left_field s) ≡ true → Letters P a) → (is_operand (right_field s) ≡ true → Letters P b) → Letters P (formula_by s n a b)
  letters_by none n a b f g h = tt
  letters_by (constant c) n a b f g h = tt
  letters_by (letter c) n a b f g h = f refl
  letters_by (unary o) n a b f g h = h refl
  letters_by (binary o) n a b f g h = (g refl, h refl)

  -- the letter of a letter's word is among those of its formula
  pub letter_by : (s : Shape) (n : ℕ) (a b : Formula) → is_proposition (right_field s) ≡ true → Letters P (formula_by s n a b) → P n
  letter_by none n a b e l = absurd (false≢true e)
  letter_by (constant c) n a b e l = absurd (false≢true e)
  letter_by (letter c) n a b e l = l
  letter_by (unary o) n a b e l = absurd (false≢true e)
  letter_by (binary o) n a b e l = absurd (false≢true e)

  module _ {plain_only : Bool} {limit : ℕ} {t : List ℕ} (f : WellFormed plain_only limit t)
      (all : (i : ℕ) → i < length t → is_proposition (holds_right (get_or t i 0)) ≡ true → P (right (get_or t i 0))) where
    -- a word's formula has the letters of its own word and of earlier ones
    letters_step : (j : ℕ) → j ≤ length t → ((k : ℕ) → k < j → Letters P (formula_of (formulas t) k)) → Letters P (formula_of (formulas t) j)
    unfolding formula_of
    letters_step zero l g = tt
    letters_step (suc i) l g =
        let w : ℕ = get_or t i 0 in
        let q = f.word i l in
        subst (Letters P) (sym (accepted-formula f i l)) (
        letters_by (shape (kind w)) (right w) (formula_of (formulas t) (left w)) (formula_of (formulas t) (right w)) (all i l)
        (λ e. g (left w) (q.operand_left e).1)
        (λ e. g (right w) (q.operand_right e).1)
        )

    letters_to : (n j : ℕ) → j ≤ n → j ≤ length t → Letters P (formula_of (formulas t) j)
    letters_to zero j h l = letters_step j l (λ k g. absurd (omega arith))
    letters_to (suc n) j h l = letters_step j l (λ k g. letters_to n k (omega arith) (omega arith))

    -- what is so of every letter that a word names is so of every letter of every formula
    pub formula-letters : (j : ℕ) → j ≤ length t → Letters P (formula_of (formulas t) j)
    formula-letters j l = letters_to j j (omega arith) l

-- ---- check 21

-- its place is the lowest word that names a letter above the count
pub lowest : (k n : ℕ) (ws : List ℕ) (r : Refusal) → first (letter_checks k n ws) ≡ Err r
    → (i : ℕ) × (i < length ws) × (r ≡ LetterNotDriven (n + i)) × (is_undriven k (get_or ws i 0) ≡ true) × ((j : ℕ) → j < i → is_undriven k (get_or ws j 0) ≡ false)
unfolding letter_checks
lowest k n [] r e = absurd (let z : ◌≡◌ {A = ℕ} 0 1 = cc in omega arith)
lowest k n (w ∷ ws) r e = go (is_undriven k w) refl e (lowest k (suc n) ws r)
  where
    go : (b : Bool) → is_undriven k w ≡ b → decide_by b (LetterNotDriven n) (first (letter_checks k (suc n) ws)) ≡ Err r
        → (first (letter_checks k (suc n) ws) ≡ Err r
        → (i : ℕ) × (i < length ws) × (r ≡ LetterNotDriven (suc n + i)) × (is_undriven k (get_or ws i 0) ≡ true) × ((j : ℕ) → j < i → is_undriven k (get_or ws j 0) ≡ false))
        → (i : ℕ) × (i < suc (length ws)) × (r ≡ LetterNotDriven (n + i)) × (is_undriven k (get_or (w ∷ ws) i 0) ≡ true) × ((j : ℕ) → j < i → is_undriven k (get_or (w ∷ ws) j 0) ≡ false)
    go true u d rest = let same : r ≡ LetterNotDriven n = cc in (zero, omega arith, same ∙ ap LetterNotDriven (sym (add-zero n)), u, λ j h. absurd (omega arith))
    go false u d rest =
        let p = rest d in
        let place : suc n + p.0 ≡ n + suc p.0 = omega arith in
        (suc p.0, omega (arith, p.1), p.2 ∙ ap LetterNotDriven place, p.3, earlier p)
      where
        earlier : (p : (i : ℕ) × (i < length ws) × (r ≡ LetterNotDriven (suc n + i)) × (is_undriven k (get_or ws i 0) ≡ true) × ((j : ℕ) → j < i → is_undriven k (get_or ws j 0) ≡ false))
            → (j : ℕ) → j < suc p.0 → is_undriven k (get_or (w ∷ ws) j 0) ≡ false
        earlier p zero h = u
        earlier p (suc j) h = p.4 j (omega arith)

-- each word that names a letter names one of the first k
abbrev pub WordsDriven : ℕ → List ℕ → Type 0
WordsDriven k ws = (i : ℕ) → i < length ws → is_proposition (holds_right (get_or ws i 0)) ≡ true → right (get_or ws i 0) ≤ k

pub words-driven : (k n : ℕ) (ws : List ℕ) → first (letter_checks k n ws) ≡ Ok tt → WordsDriven k ws
unfolding letter_checks
words-driven k n [] e i h = absurd (omega arith)
words-driven k n (w ∷ ws) e zero h = λ p. ltb-false k (right w) (and_false-second _ _ (first_passed (letter_checks k n (w ∷ ws)) e).0 p)
words-driven k n (w ∷ ws) e (suc i) h =
    words-driven k (suc n) ws (passed_first (letter_checks k (suc n) ws) (first_passed (letter_checks k n (w ∷ ws)) e).1) i (omega arith)

pub driven-words : (k n : ℕ) (ws : List ℕ) → WordsDriven k ws → first (letter_checks k n ws) ≡ Ok tt
unfolding letter_checks
driven-words k n [] f = refl
driven-words k n (w ∷ ws) f =
    passed_first (letter_checks k n (w ∷ ws)) (
      and-false _ _ (λ e. le-ltb k (right w) (f zero (omega arith) e)),
      first_passed (letter_checks k (suc n) ws) (driven-words k (suc n) ws (λ i h. f (suc i) (omega arith))),
    )

-- a table that 21 passes has formulas of driven letters alone
pub formulas-driven : {plain_only : Bool} {limit : ℕ} {t : List ℕ} → WellFormed plain_only limit t → (k : ℕ) → first (letter_checks k 1 t) ≡ Ok tt
    → (j : ℕ) → j ≤ length t → Letters (Driven k) (formula_of (formulas t) j)
formulas-driven {t = t} f k e = formula-letters (Driven k) f (λ i h p. (((f.word i h).letter p).0, words-driven k 1 t e i h p))
