-- What the plain-form step promises of every accepted table: its plain form means the same over every lasso at every position, is itself an
-- accepted plain table, and has at most two words for each written one and two more.
use Prim.Native.Nat.{ℕ, zero, suc, ◌+◌, ◌*◌, ◌≤◌, ◌<◌, min}
use native.Mathlib.Omega.{arith}
use mathlib.Core.Path.{◌≡◌, refl, sym, ap₂, ◌∙◌, subst}
use mathlib.Core.Logic.{◌↔◌}
use mathlib.Core.Bool.{Bool, true, false, not}
use mathlib.Core.List.{List, ◌++◌}
use lib.ListN.{length, get_or, take, drop}
use borrow.Author.Tests.{le-leb}
use Rattle.logic.specs.Formula.{Formula, const, lit, un, bin, next, neg, finally, globally, conj, disj, until, weak, release, strong, implies}
use Rattle.logic.specs.Lasso.{Lasso, word}
use Rattle.logic.specs.Semantics.{Holds}
use Rattle.logic.specs.NegationNormalForm.{plain}
use Rattle.logic.proofs.Lasso.Duality as duality
use Rattle.std.specs.Prelude.{Ok}
use Rattle.table.specs.Node.{Shape, none, constant, letter, unary, binary, kind, left, right, shape, left_field, right_field}
use Rattle.table.specs.Table.{formulas, formula_of, formula_by, rule}
use Rattle.table.specs.Checks.{is_operand, checked}
use Rattle.table.specs.Steps.{plain_table}
use Rattle.table.specs.declared.settings.Limits.{Limits}
use Rattle.refusals.specs.Refusals.{first}
use Rattle.table.specs.Limits.{is_permitted}
use Rattle.table.specs.Header.{headed, body, headed_checks, headed_checked}
use Rattle.table.specs.StepChecks.{result_fits}
use Rattle.table.specs.Frame.{plain_step, answer_of, result_of}
use Rattle.table.proofs.Stated.{permitted, permitted-checks}
use Rattle.table.proofs.Frame.{made_answer, made_result}
use Rattle.table.proofs.Accepted.{WellFormedWord, accepted-well-formed, accepted-formula}
use Rattle.table.proofs.Header.{accepted-headed}
use Rattle.table.proofs.Letters.{formula-letters}
use Rattle.numbering.specs.Held.{Distinct, Held}
use Rattle.logic.specs.Letters.{Letters}
use Rattle.numbering.proofs.Building.{table_of-distinct}
use Rattle.numbering.proofs.Built.{Built, Hereditary, table_of-built, made_held, held_once}
use Rattle.numbering.proofs.Used.{rule-table_of}
use Rattle.numbering.proofs.Accepted.{plain_small, accepted-table_of}
use Rattle.plain_laws.specs.Forms.{form_of, slot_of}
use Rattle.plain_laws.proofs.Slots.{slot_same, slot_bounds}
use Rattle.logic.proofs.Pigeonhole.{pigeonhole}
use Rattle.transforms.proofs.Letters.{letters-plain}

-- the letters of a formula are 1 to 32
abbrev Lettered : Formula → Type 0
Lettered = Letters (λ p. (0 < p) × (p ≤ 32))

-- a formula is one of the forms of the words of t; the forms of word 0, which stands for false, are the constants
abbrev FormOf : List ℕ → Formula → Type 0
FormOf t φ = (p : Bool) × (j : ℕ) × (j ≤ length t) × (φ ≡ form_of p t j)

abbrev Operands : List ℕ → Formula → Type 0
Operands t (const b) = Unit {0}
Operands t (lit b n) = Unit {0}
Operands t (un o a) = FormOf t a
Operands t (bin o a b) = FormOf t a × FormOf t b

constant-form : (t : List ℕ) (b : Bool) → FormOf t (const b)
unfolding plain formula_of
constant-form t true = (false, 0, omega arith, refl)
constant-form t false = (true, 0, omega arith, refl)

-- the operands of a word's forms are forms of words, given that for the words before it
operands_by : (t : List ℕ) (p : Bool) (s : Shape) (n l r : ℕ)
    → (is_operand (left_field s) ≡ true → l ≤ length t) → (is_operand (right_field s) ≡ true → r ≤ length t)
    → (is_operand (right_field s) ≡ true → Operands t (form_of (not p) t r))
    → Operands t (plain p (formula_by s n (formula_of (formulas t) l) (formula_of (formulas t) r)))
unfolding plain
operands_by t p none n l r f g h = tt
operands_by t p (constant c) n l r f g h = tt
operands_by t p (letter c) n l r f g h = tt
operands_by t p (unary next) n l r f g h = (p, r, g refl, refl)
operands_by t p (unary neg) n l r f g h = h refl
operands_by t p (unary finally) n l r f g h = (constant-form t p, (p, r, g refl, refl))
operands_by t p (unary globally) n l r f g h = (constant-form t (not p), (p, r, g refl, refl))
operands_by t p (binary conj) n l r f g h = ((p, l, f refl, refl), (p, r, g refl, refl))
operands_by t p (binary disj) n l r f g h = ((p, l, f refl, refl), (p, r, g refl, refl))
operands_by t p (binary until) n l r f g h = ((p, l, f refl, refl), (p, r, g refl, refl))
operands_by t p (binary weak) n l r f g h = ((p, l, f refl, refl), (p, r, g refl, refl))
operands_by t p (binary release) n l r f g h = ((p, l, f refl, refl), (p, r, g refl, refl))
operands_by t p (binary strong) n l r f g h = ((p, l, f refl, refl), (p, r, g refl, refl))
operands_by t p (binary implies) n l r f g h = ((not p, l, f refl, refl), (p, r, g refl, refl))

module _ (limit : ℕ) (t : List ℕ) (ok : checked false limit t ≡ Ok tt) where
  well-formed : (i : ℕ) → i < length t → WellFormedWord false (take i t) (suc i) (get_or t i 0)
  well-formed = (accepted-well-formed false limit t ok).word

  formula : (i : ℕ) → i < length t
      → formula_of (formulas t) (suc i)
      ≡ formula_by (shape (kind (get_or t i 0))) (right (get_or t i 0)) (formula_of (formulas t) (left (get_or t i 0))) (formula_of (formulas t) (right (get_or t i 0)))
  unfolding formula_of
  formula i h = accepted-formula (accepted-well-formed false limit t ok) i h

  -- what holds of a word's forms once it holds of those of all earlier words
  operands_step : (p : Bool) (j : ℕ) → j ≤ length t → ((q : Bool) (k : ℕ) → k < j → Operands t (form_of q t k)) → Operands t (form_of p t j)
  unfolding formula_of plain
  operands_step p zero l f = tt
  operands_step p (suc i) l f =
      let w : ℕ = get_or t i 0 in
      let q = well-formed i l in
      subst (λ (φ : Formula). Operands t (plain p φ)) (sym (formula i l)) (
      operands_by t p (shape (kind w)) (right w) (left w) (right w)
      (λ e. omega (arith, (q.operand_left e).1))
      (λ e. omega (arith, (q.operand_right e).1))
      (λ e. f (not p) (right w) (q.operand_right e).1)
      )

  operands_to : (n : ℕ) (p : Bool) (j : ℕ) → j ≤ n → j ≤ length t → Operands t (form_of p t j)
  operands_to zero p j h l = operands_step p j l (λ q k g. absurd (omega arith))
  operands_to (suc n) p j h l = operands_step p j l (λ q k g. operands_to n q k (omega arith) (omega arith))

  operands_of : (φ : Formula) → FormOf t φ → Operands t φ
  operands_of φ f = subst (Operands t) (sym f.3) (operands_to (length t) f.0 f.1 f.2 f.2)

  forms_hereditary : Hereditary (FormOf t)
  forms_hereditary = record {
    under = λ o a f. operands_of (un o a) f;
    first = λ o a b f. (operands_of (bin o a b) f).0;
    second = λ o a b f. (operands_of (bin o a b) f).1;
  }

module _ (limit : ℕ) (t : List ℕ) (ok : checked false limit t ≡ Ok tt) where
  rule-form : plain true (rule t) ≡ form_of true t (length t)
  unfolding rule
  rule-form = refl

  letters : Lettered (plain true (rule t))
  unfolding rule
  letters =
      let f = accepted-well-formed false limit t ok in
      letters-plain (λ p. (0 < p) × (p ≤ 32)) true _ (formula-letters (λ p. (0 < p) × (p ≤ 32)) f (λ i h. (f.word i h).letter) (length t) (omega arith))

  forms : Built (FormOf t) (plain_table t)
  unfolding plain_table
  forms = table_of-built (forms_hereditary limit t ok) (plain true (rule t)) (true, length t, omega arith, rule-form)

  -- which form a word of the plain form's table is
  code : (i : ℕ) → i < length (plain_table t) → ℕ
  code i h = let f = (forms.formula i h).2 in slot_of f.0 f.1

  apart : Distinct (plain_table t)
  unfolding plain_table
  apart = table_of-distinct (plain true (rule t))

  code_below : (i : ℕ) (h : i < length (plain_table t)) → code i h < 2 * length t + 2
  unfolding code
  code_below i h = let f = (forms.formula i h).2 in omega (arith, (slot_bounds f.0 f.1).1, f.2)

  code_apart : (i j : ℕ) (h : i < length (plain_table t)) (l : j < length (plain_table t)) → code i h ≡ code j l → i ≡ j
  unfolding code
  code_apart i j h l e =
      let a = forms.formula i h in
      let b = forms.formula j l in
      let s = slot_same a.2.0 b.2.0 a.2.1 b.2.1 e in
      let same : b.0 ≡ a.0 = b.2.3 ∙ sym (a.2.3 ∙ ap₂ (λ (p : Bool) (n : ℕ). form_of p t n) s.0 s.1) in
      let n : suc i ≡ suc j = held_once (plain_table t) a.0 (suc i) (suc j) apart (made_held _ i h a.0 a.1) (subst (λ (φ : Formula). Held (plain_table t) φ (suc j)) same (made_held _ j l b.0 b.1)) in
      omega arith

  -- no more than one word for each of the two forms of each written word, and the constants
  pub plain-length : length (plain_table t) ≤ 2 * length t + 2
  plain-length = pigeonhole (2 * length t + 2) (length (plain_table t)) code code_below code_apart

  pub plain-short : length (plain_table t) ≤ 2 * limit + 2
  plain-short = omega (arith, plain-length, (accepted-well-formed false limit t ok).few)

  -- the limit leaves room in the fields of a word for every number
  module _ (small : limit ≤ 8190) where
    -- it passes the checks 1 to 10 of every step whose limit is two words for each written one and two more, also where that step takes plain tables only
    pub plain-accepted : (plain_only : Bool) (next-limit : ℕ) → 2 * limit + 2 ≤ next-limit → next-limit ≤ 16383 → checked plain_only next-limit (plain_table t) ≡ Ok tt
    unfolding plain_table
    plain-accepted b next-limit h l = accepted-table_of b next-limit (plain true (rule t)) (duality.plain-is_plain true (rule t), letters) (omega (arith, plain-short)) l

    -- its rule is the plain form of the rule
    pub plain-rule : rule (plain_table t) ≡ plain true (rule t)
    unfolding plain_table
    plain-rule = rule-table_of (plain true (rule t)) (plain_small (plain true (rule t)) letters) (omega (arith, plain-short))

    -- over every lasso and at every position it holds exactly when the written rule does
    pub plain-holds : (r : Lasso) (i : ℕ) → Holds (word r) (rule (plain_table t)) i ↔ Holds (word r) (rule t) i
    plain-holds r i = rw plain-rule (duality.plain-holds r true (rule t) i)

    -- what is so of every letter of the written rule is so of every letter of its plain form
    pub plain-letters : (Q : ℕ → Type 0) → Letters Q (rule t) → Letters Q (rule (plain_table t))
    plain-letters Q l = subst (Letters Q) (sym plain-rule) (letters-plain Q true (rule t) l)

-- a slice of two words for each written one and two more, and the header, is long enough, so the step answers the form and puts it at the front
module _ (l : Limits) (p : is_permitted l ≡ true) (t : List ℕ) (ok : headed_checked false l.written t ≡ Ok tt) (result : List ℕ)
    (long : 2 * length (body t) + 3 ≤ length result) where
  long_enough : result_fits (length (headed (plain_table (body t)))) (length result) ≡ true
  long_enough =
      let words = (accepted-headed false l.written t ok).words in
      le-leb (suc (length (plain_table (body t)))) (min (length result) 16384)
      (omega (arith, plain-length l.written (body t) words, plain-short l.written (body t) words, (permitted l p).written, long))

  passes : first ((plain_step l).checks t) ≡ Ok tt
  unfolding headed_checked
  passes = permitted-checks l (headed_checks false l.written t) p ∙ ok

  pub plain-answered : answer_of (plain_step l) t (length result) ≡ Ok (length (headed (plain_table (body t))))
  plain-answered = made_answer (plain_step l) t result passes long_enough

  pub plain-written : result_of (plain_step l) t result ≡ headed (plain_table (body t)) ++ drop (length (headed (plain_table (body t)))) result
  plain-written = made_result (plain_step l) t result passes long_enough
