-- What the checks 1 to 10 accept: the well-formed tables, and no others.
use Prim.Native.Nat.{ℕ, zero, suc, ◌+◌, ◌-◌, ◌<◌, ◌≤◌}
use mathlib.Core.Path.{◌≡◌, refl, ap, sym, ◌∙◌, subst₂}
use mathlib.Core.Bool.{Bool, true, false, not, ◌&&◌, ◌||◌, or-true}
use mathlib.Core.List.{List, [], ◌∷◌, ◌++◌, append_assoc, append-nil}
use native.Mathlib.Omega.{arith}
use native.Mathlib.Nat.{add-zero, zero-add}
use lib.ListN.{length, get_or, take, length-append}
use lib.Seq.{get_or-take, length-take-le}
use lib.Dec.{eqb}
use borrow.Author.Tests.{ltb-false, leb-false, eqb-true, eqb-false, le-ltb, lt-leb, ne_eqb, eq-eqb, not-false}
use Rattle.refusals.specs.declared.Refusal.{Refusal}
use Rattle.std.specs.Prelude.{Ok}
use Rattle.refusals.specs.Refusals.{first, number_of}
use Rattle.logic.specs.Formula.{const}
use Rattle.table.specs.Node.{kind, left, right, shape}
use Rattle.table.specs.Table.{formula_of, formula_by, formulas}
use Rattle.table.specs.Checks.{is_blank, is_operand, is_proposition, holds_left, holds_right, occurs, uses, used, word_checks, words_checks, use_checks, content_checks, table_checks, checked}
use Rattle.table.proofs.Formulas.{formula_of-word}
use Rattle.refusals.proofs.First.{Passed, first_passed, passed_first, first_append_both, AllRefusals, all_refusals_append}

-- word number n, after the earlier words: its kind, its fields by what they hold, and that it is new
pub record WellFormedWord (plain_only : Bool) (earlier : List ℕ) (n w : ℕ) : Type 0 where
  pub kinded : 0 < kind w
  pub plain : plain_only ≡ true → kind w < 12
  pub blank_left : is_blank (holds_left w) ≡ true → left w ≡ 0
  pub blank_right : is_blank (holds_right w) ≡ true → right w ≡ 0
  pub operand_left : is_operand (holds_left w) ≡ true → (0 < left w) × (left w < n)
  pub operand_right : is_operand (holds_right w) ≡ true → (0 < right w) × (right w < n)
  pub letter : is_proposition (holds_right w) ≡ true → (0 < right w) × (right w ≤ 32)
  pub new : occurs w earlier ≡ false

-- the tables that a step with a limit accepts
pub record WellFormed (plain_only : Bool) (limit : ℕ) (t : List ℕ) : Type 0 where
  pub some : 0 < length t
  pub few : length t ≤ limit
  pub word : (j : ℕ) → j < length t → WellFormedWord plain_only (take j t) (suc j) (get_or t j 0)
  pub all_used : (n : ℕ) → 0 < n → n < length t → used n t ≡ true

-- a conjunction is false where its second part is, whenever the first is true
pub and-false : (a b : Bool) → (a ≡ true → b ≡ false) → (a && b) ≡ false
and-false true b h = h refl
and-false false b h = refl

pub and_false-second : (a b : Bool) → (a && b) ≡ false → a ≡ true → b ≡ false
and_false-second true b h e = h
and_false-second false b h e = cc

or-false : (a b : Bool) → a ≡ false → b ≡ false → (a || b) ≡ false
or-false true b h k = cc
or-false false b h k = k

or_false_first : (a b : Bool) → (a || b) ≡ false → a ≡ false
or_false_first true b h = h
or_false_first false b h = refl

or_false-second : (a b : Bool) → (a || b) ≡ false → b ≡ false
or_false-second true b h = cc
or_false-second false b h = h

pos_of_eqb : (n : ℕ) → eqb n 0 ≡ false → 0 < n
pos_of_eqb n h = omega (arith, eqb-false n 0 h)

eqb_of_pos : (n : ℕ) → 0 < n → eqb n 0 ≡ false
eqb_of_pos n h = ne_eqb n 0 (λ e. omega arith)

word-well-formed : (plain_only : Bool) (earlier : List ℕ) (n w : ℕ)
    → first (word_checks plain_only earlier n w) ≡ Ok tt → WellFormedWord plain_only earlier n w
unfolding word_checks
word-well-formed plain_only earlier n w e =
    let p : Passed (word_checks plain_only earlier n w) = first_passed (word_checks plain_only earlier n w) e in
    let fields = p.1.1 in
    let operands = fields.1 in
    record {
      kinded = pos_of_eqb (kind w) p.0;
      plain = λ h. leb-false 12 (kind w) (and_false-second _ _ p.1.0 h);
      blank_left = λ h. eqb-true (left w) 0 (not-false _ (and_false-second _ _ (or_false_first _ _ fields.0) h));
      blank_right = λ h. eqb-true (right w) 0 (not-false _ (and_false-second _ _ (or_false-second (is_blank (holds_left w) && not (eqb (left w) 0)) _ fields.0) h));
      operand_left = λ h. (pos_of_eqb (left w) (and_false-second _ _ operands.0 h), leb-false n (left w) (and_false-second _ _ operands.1.0 h));
      operand_right = λ h. (pos_of_eqb (right w) (and_false-second _ _ operands.1.1.0 h), leb-false n (right w) (and_false-second _ _ operands.1.1.1.0 h));
      letter = λ h.
          let q = and_false-second _ _ operands.1.1.1.1.0 h in
          (pos_of_eqb (right w) (or_false_first _ _ q), ltb-false 32 (right w) (or_false-second (eqb (right w) 0) _ q));
      new = operands.1.1.1.1.1.0;
    }

word_checks-accepted : (plain_only : Bool) (earlier : List ℕ) (n w : ℕ)
    → WellFormedWord plain_only earlier n w → first (word_checks plain_only earlier n w) ≡ Ok tt
unfolding word_checks
word_checks-accepted plain_only earlier n w f =
    passed_first (word_checks plain_only earlier n w) (
      eqb_of_pos (kind w) f.kinded,
      (
        and-false _ _ (λ h. lt-leb 12 (kind w) (f.plain h)),
        (
          or-false _ _ (and-false _ _ (λ h. ap not (eq-eqb (left w) 0 (f.blank_left h)))) (and-false _ _ (λ h. ap not (eq-eqb (right w) 0 (f.blank_right h)))),
          (
            and-false _ _ (λ h. eqb_of_pos (left w) (f.operand_left h).0),
            (
              and-false _ _ (λ h. lt-leb n (left w) (f.operand_left h).1),
              (
                and-false _ _ (λ h. eqb_of_pos (right w) (f.operand_right h).0),
                (
                  and-false _ _ (λ h. lt-leb n (right w) (f.operand_right h).1),
                  (
                    and-false _ _ (λ h. or-false _ _ (eqb_of_pos (right w) (f.letter h).0) (le-ltb 32 (right w) (f.letter h).1)),
                    (f.new, tt),
                  ),
                ),
              ),
            ),
          ),
        ),
      ),
    )

-- each of the words from some place on is well formed after those before it
WordsFrom : Bool → List ℕ → List ℕ → Type 0
WordsFrom plain_only earlier ws =
    (j : ℕ) → j < length ws → WellFormedWord plain_only (earlier ++ take j ws) (suc (length earlier + j)) (get_or ws j 0)

renamed : {plain_only : Bool} {e e' : List ℕ} {n n' w : ℕ} → e ≡ e' → n ≡ n' → WellFormedWord plain_only e n w → WellFormedWord plain_only e' n' w
renamed {plain_only} {w = w} p q f = subst₂ (λ (l : List ℕ) (m : ℕ). WellFormedWord plain_only l m w) p q f

next_place : (earlier : List ℕ) (w j : ℕ) → suc (length (earlier ++ (w ∷ [])) + j) ≡ suc (length earlier + suc j)
next_place earlier w j = omega (arith, length-append earlier (w ∷ []))

words-well-formed : (plain_only : Bool) (earlier ws : List ℕ)
    → first (words_checks plain_only earlier ws) ≡ Ok tt → WordsFrom plain_only earlier ws
unfolding words_checks WordsFrom
words-well-formed plain_only earlier [] e j h = absurd (omega arith)
words-well-formed plain_only earlier (w ∷ ws) e zero h =
    let both = (first_append_both (word_checks plain_only earlier (suc (length earlier)) w) (words_checks plain_only (earlier ++ (w ∷ [])) ws)).0 e in
    renamed (sym (append-nil earlier)) (ap suc (sym (add-zero (length earlier)))) (word-well-formed plain_only earlier (suc (length earlier)) w both.0)
words-well-formed plain_only earlier (w ∷ ws) e (suc j) h =
    let both = (first_append_both (word_checks plain_only earlier (suc (length earlier)) w) (words_checks plain_only (earlier ++ (w ∷ [])) ws)).0 e in
    renamed (append_assoc earlier (w ∷ []) (take j ws)) (next_place earlier w j) (words-well-formed plain_only (earlier ++ (w ∷ [])) ws both.1 j (omega arith))

words_checks-accepted : (plain_only : Bool) (earlier ws : List ℕ)
    → WordsFrom plain_only earlier ws → first (words_checks plain_only earlier ws) ≡ Ok tt
unfolding words_checks WordsFrom
words_checks-accepted plain_only earlier [] f = refl
words_checks-accepted plain_only earlier (w ∷ ws) f =
    (first_append_both (word_checks plain_only earlier (suc (length earlier)) w) (words_checks plain_only (earlier ++ (w ∷ [])) ws)).1 (
      word_checks-accepted plain_only earlier (suc (length earlier)) w (renamed (append-nil earlier) (ap suc (add-zero (length earlier))) (f zero (omega arith))),
      words_checks-accepted plain_only (earlier ++ (w ∷ [])) ws
          (λ j h. renamed (sym (append_assoc earlier (w ∷ []) (take j ws))) (sym (next_place earlier w j)) (f (suc j) (omega arith))),
    )

uses-well-formed : (t : List ℕ) (n k : ℕ) → first (use_checks t n k) ≡ Ok tt → (i : ℕ) → i < k → used (n + i) t ≡ true
unfolding use_checks
uses-well-formed t n zero e i h = absurd (omega arith)
uses-well-formed t n (suc k) e zero h = rw (add-zero n) (not-false _ (first_passed (use_checks t n (suc k)) e).0)
uses-well-formed t n (suc k) e (suc i) h =
    let rest : first (use_checks t (suc n) k) ≡ Ok tt = passed_first (use_checks t (suc n) k) (first_passed (use_checks t n (suc k)) e).1 in
    let place : n + suc i ≡ suc n + i = omega arith in
    rw place (uses-well-formed t (suc n) k rest i (omega arith))

use_checks-accepted : (t : List ℕ) (n k : ℕ) → ((i : ℕ) → i < k → used (n + i) t ≡ true) → first (use_checks t n k) ≡ Ok tt
unfolding use_checks
use_checks-accepted t n zero f = refl
use_checks-accepted t n (suc k) f =
    let here : used n t ≡ true = rw add-zero at (f zero (omega arith)) in
    let rest : first (use_checks t (suc n) k) ≡ Ok tt =
    use_checks-accepted t (suc n) k (λ i h. let place : suc n + i ≡ n + suc i = omega arith in rw place (f (suc i) (omega arith))) in
    passed_first (use_checks t n (suc k)) (ap not here, first_passed (use_checks t (suc n) k) rest)

-- acceptance gives a well-formed table
pub accepted-well-formed : (plain_only : Bool) (limit : ℕ) (t : List ℕ) → checked plain_only limit t ≡ Ok tt → WellFormed plain_only limit t
unfolding checked table_checks WordsFrom
accepted-well-formed plain_only limit t e =
    let p : Passed (table_checks plain_only limit t) = first_passed (table_checks plain_only limit t) e in
    let rest = (first_append_both (words_checks plain_only [] t) (use_checks t 1 (length t - 1))).0 (passed_first (words_checks plain_only [] t ++ use_checks t 1 (length t - 1)) p.1.1) in
    record {
      some = pos_of_eqb (length t) p.0;
      few = ltb-false limit (length t) p.1.0;
      word = λ j h. renamed refl (ap suc (zero-add j)) (words-well-formed plain_only [] t rest.0 j h);
      all_used = λ n h k.
          let place : n ≡ 1 + (n - 1) = omega arith in
          rw place (uses-well-formed t 1 (length t - 1) rest.1 (n - 1) (omega arith));
    }

-- so a plain table of the steps that take any has at most 16,383 words
pub table-few : (t : List ℕ) → checked true 16383 t ≡ Ok tt → length t ≤ 16383
table-few t e = (accepted-well-formed true 16383 t e).few

-- and a well-formed table is accepted
pub well-formed-accepted : (plain_only : Bool) (limit : ℕ) (t : List ℕ) → WellFormed plain_only limit t → checked plain_only limit t ≡ Ok tt
unfolding checked table_checks WordsFrom
well-formed-accepted plain_only limit t f =
    let words : first (words_checks plain_only [] t) ≡ Ok tt =
    words_checks-accepted plain_only [] t (λ j h. renamed refl (ap suc (sym (zero-add j))) (f.word j h)) in
    let uses : first (use_checks t 1 (length t - 1)) ≡ Ok tt = use_checks-accepted t 1 (length t - 1) (λ i h. f.all_used (1 + i) (omega arith) (omega arith)) in
    let rest = (first_append_both (words_checks plain_only [] t) (use_checks t 1 (length t - 1))).1 (words, uses) in
    passed_first (table_checks plain_only limit t)
    (eqb_of_pos (length t) f.some, (le-ltb limit (length t) f.few, first_passed (words_checks plain_only [] t ++ use_checks t 1 (length t - 1)) rest))

-- a number that does not occur in a list stands nowhere in it
pub occurs_none : (w : ℕ) (l : List ℕ) → occurs w l ≡ false → (i : ℕ) → i < length l → get_or l i 0 ≡ w → ⊥
unfolding occurs
occurs_none w [] e i h = absurd (omega arith)
occurs_none w (v ∷ l) e zero h = eqb-false v w (or_false_first _ _ e)
occurs_none w (v ∷ l) e (suc i) h = occurs_none w l (or_false-second (eqb v w) _ e) i (omega arith)

pub none_occurs : (w : ℕ) (l : List ℕ) → ((i : ℕ) → i < length l → get_or l i 0 ≡ w → ⊥) → occurs w l ≡ false
unfolding occurs
none_occurs w [] f = refl
none_occurs w (v ∷ l) f =
    or-false _ _ (ne_eqb v w (f zero (omega arith))) (none_occurs w l (λ i h. f (suc i) (omega arith)))

pub occurs_at : (w : ℕ) (l : List ℕ) (i : ℕ) → i < length l → get_or l i 0 ≡ w → occurs w l ≡ true
unfolding occurs
occurs_at w [] i h e = absurd (omega arith)
occurs_at w (v ∷ l) zero h e = rw (eq-eqb v w e) refl
occurs_at w (v ∷ l) (suc i) h e = rw (occurs_at w l i (omega arith) e) (or-true (eqb v w))

-- a word with n for an operand, wherever it stands, makes n used
pub uses-used : (n : ℕ) (t : List ℕ) (i : ℕ) → i < length t → uses n (get_or t i 0) ≡ true → used n t ≡ true
unfolding used
uses-used n [] i h e = absurd (omega arith)
uses-used n (w ∷ t) zero h e = rw e
uses-used n (w ∷ t) (suc i) h e = rw (uses-used n t i (omega arith) e) (or-true (uses n w))

module _ {plain_only : Bool} {limit : ℕ} {t : List ℕ} (f : WellFormed plain_only limit t) where
  -- no two words of an accepted table are the same
  pub words-differ : (i j : ℕ) → i < j → j < length t → get_or t i 0 ≡ get_or t j 0 → ⊥
  words-differ i j h k e =
      occurs_none (get_or t j 0) (take j t) (f.word j k).new i (omega (arith, length-take-le j t (omega arith))) (get_or-take j t i 0 h ∙ e)

  -- the formula of each word of an accepted table, from the formulas of the words that its operands name
  pub accepted-formula : (j : ℕ) → j < length t
      → get_or (formulas t) j (const false)
      ≡ formula_by
      (shape (kind (get_or t j 0)))
      (right (get_or t j 0))
      (formula_of (formulas t) (left (get_or t j 0)))
      (formula_of (formulas t) (right (get_or t j 0)))
  accepted-formula j h =
      formula_of-word t j h
      (λ e. omega (arith, ((f.word j h).operand_left e).1))
      (λ e. omega (arith, ((f.word j h).operand_right e).1))

-- words and their uses are refused by one of the numbers 3 to 10, so never because a result is too short
abbrev pub OfWords : Refusal → Type 0
OfWords r = number_of r ≤ 10

words_refusals : (plain_only : Bool) (earlier ws : List ℕ) → AllRefusals OfWords (words_checks plain_only earlier ws)
unfolding words_checks word_checks
words_refusals plain_only earlier [] = tt
words_refusals plain_only earlier (w ∷ ws) =
    all_refusals_append OfWords
    (word_checks plain_only earlier (suc (length earlier)) w)
    (words_checks plain_only (earlier ++ (w ∷ [])) ws)
    (omega arith)
    (words_refusals plain_only (earlier ++ (w ∷ [])) ws)

use_refusals : (t : List ℕ) (n k : ℕ) → AllRefusals OfWords (use_checks t n k)
unfolding use_checks
use_refusals t n zero = tt
use_refusals t n (suc k) = (omega arith, use_refusals t (suc n) k)

pub content_refusals : (plain_only : Bool) (t : List ℕ) → AllRefusals OfWords (content_checks plain_only t)
content_refusals plain_only t =
    all_refusals_append OfWords (words_checks plain_only [] t) (use_checks t 1 (length t - 1)) (words_refusals plain_only [] t) (use_refusals t 1 (length t - 1))
