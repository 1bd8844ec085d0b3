-- What is kept of every accepted table whose conversion fits (`specs/Converted`): first of its words, then of the table with its header.
use Prim.Native.Nat.{ℕ, zero, suc, ◌+◌, ◌*◌, ◌≤◌, ◌<◌, min}
use native.Mathlib.Omega.{arith}
use mathlib.Core.Path.{◌≡◌, refl, sym, ap, ap₂, ◌∙◌}
use mathlib.Core.Bool.{true, ◌&&◌}
use mathlib.Core.List.{List, ◌++◌}
use lib.ListN.{length, get_or, take, drop}
use lib.Dec.{T}
use borrow.Author.Tests.{le-leb, leb-true}
use Rattle.logic.specs.Formula.{Formula, Binary, conj, disj, until, weak, release, strong, implies}
use Rattle.logic.specs.ClassByte.{class_byte}
use Rattle.logic.specs.Letters.{Letters}
use Rattle.transforms.specs.Dialect.{dialect, free_op, is_free}
use Rattle.logic.proofs.Tests.{T_and}
use Rattle.transforms.proofs.Letters.{letters-sub}
use Rattle.transforms.proofs.Dialect as law
use Rattle.std.specs.Prelude.{Ok}
use Rattle.table.specs.Node.{Shape, none, constant, letter, unary, binary, kind, left, right, shape, kind_of, binary_kind, left_field, right_field}
use Rattle.table.specs.Table.{formulas, formula_of, formula_by, rule}
use Rattle.table.specs.Checks.{is_operand, checked}
use Rattle.table.specs.Header.{headed, body, headed_checked}
use Rattle.table.specs.StepChecks.{result_fits}
use Rattle.table.specs.Numbering.{table_of}
use Rattle.table.specs.Steps.{dialect_table}
use Rattle.table.specs.Frame.{dialect_step, answer_of, result_of}
use Rattle.table.proofs.Accepted.{WellFormed, accepted-well-formed, accepted-formula}
use Rattle.table.proofs.Shapes.{kind_of-shape}
use Rattle.table.proofs.Header.{accepted-headed, headed-accepted}
use Rattle.table.proofs.Frame.{Answered, answered, made_answer, made_result}
use Rattle.numbering.proofs.Building.{held_within}
use Rattle.numbering.proofs.Built.{table_of-built, table_of-ordered}
use Rattle.numbering.proofs.Formulas.{held_formula}
use Rattle.numbering.proofs.Used.{rule-table_of, table_of_held}
use Rattle.numbering.proofs.Subformulas.{word-sub}
use Rattle.numbering.proofs.Accepted.{Plain, plain_small, accepted-table_of}
use Rattle.normal_laws.proofs.Subformulas.{rule-plain}
use Rattle.dialect_laws.specs.Converted.{Free, Counterpart, Converted}
use Rattle.dialect_laws.proofs.Length.{dialect-short}
use Rattle.dialect_draft.proofs.Letters.{letters-dialect}
use Rattle.dialect_laws.proofs.Operands.{sub_held, free_hereditary, made_other}

-- a word's formula is free of W and M where its operands' are, and its kind is neither 9 nor 11
free_by : (s : Shape) → (kind_of s ≡ 9 → ⊥) → (kind_of s ≡ 11 → ⊥) → (n : ℕ) (a b : Formula)
    → (is_operand (left_field s) ≡ true → T (is_free a)) → (is_operand (right_field s) ≡ true → T (is_free b)) → T (is_free (formula_by s n a b))
unfolding is_free
free_by none p q n a b f g = tt
free_by (constant c) p q n a b f g = tt
free_by (letter c) p q n a b f g = tt
free_by (unary o) p q n a b f g = g refl
free_by (binary o) p q n a b f g = (T_and (free_op o && is_free a) (is_free b)).1 ((T_and (free_op o) (is_free a)).1 (operator o p q, f refl), g refl)
  where
    operator : (o : Binary) → (binary_kind o ≡ 9 → ⊥) → (binary_kind o ≡ 11 → ⊥) → T (free_op o)
    operator conj p q = tt
    operator disj p q = tt
    operator until p q = tt
    operator weak p q = absurd (p refl)
    operator release p q = tt
    operator strong p q = absurd (q refl)
    operator implies p q = tt

module _ (t : List ℕ) (ok : checked true 16383 t ≡ Ok tt) where
  table : WellFormed true 16383 t
  table = accepted-well-formed true 16383 t ok

  -- every word of a table without W and M stands for a formula without them
  word-free : Free t → (n j : ℕ) → j ≤ n → j ≤ length t → T (is_free (formula_of (formulas t) j))
  unfolding formula_of is_free
  word-free f zero zero h l = tt
  word-free f zero (suc i) h l = absurd (omega arith)
  word-free f (suc n) zero h l = tt
  word-free f (suc n) (suc i) h l =
      let w : ℕ = get_or t i 0 in
      let x = table.word i l in
      let kinds : kind_of (shape (kind w)) ≡ kind w = kind_of-shape (kind w) (omega (arith, x.plain refl)) in
      rw (accepted-formula table i l)
      (free_by (shape (kind w)) (rw kinds (f.no_weak i l)) (rw kinds (f.no_strong i l)) (right w) _ _
      (λ e. word-free f n (left w) (omega (arith, (x.operand_left e).1)) (omega (arith, (x.operand_left e).1)))
      (λ e. word-free f n (right w) (omega (arith, (x.operand_right e).1)) (omega (arith, (x.operand_right e).1))))

  pub rule-free : Free t → T (is_free (rule t))
  unfolding rule
  rule-free f = word-free f (length t) (length t) (omega arith) (omega arith)

  plain : Plain (rule t)
  plain = rule-plain (omega arith) table

  small : Letters (λ p. p < 16384) (rule t)
  small = plain_small (rule t) plain.1

  converted_plain : Plain (dialect (rule t))
  converted_plain = (law.dialect-plain (rule t) plain.0, letters-dialect (λ p. (0 < p) × (p ≤ 32)) (rule t) plain.1)

  converted_small : Letters (λ p. p < 16384) (dialect (rule t))
  converted_small = letters-dialect (λ p. p < 16384) (rule t) small

  -- the numbers of its words fit their fields
  module _ (few : length (dialect_table t) ≤ 16383) where
    pub dialect-accepted : checked true 16383 (dialect_table t) ≡ Ok tt
    unfolding dialect_table
    dialect-accepted = accepted-table_of true 16383 (dialect (rule t)) converted_plain few (omega arith)

    pub dialect-rule : rule (dialect_table t) ≡ dialect (rule t)
    unfolding dialect_table
    dialect-rule = rule-table_of (dialect (rule t)) converted_small (omega arith)

    dialect-free : Free (dialect_table t)
    unfolding dialect_table
    dialect-free =
        let built = table_of-built free_hereditary (dialect (rule t)) (law.dialect-free (rule t), converted_small) in record {
          no_weak = λ i h. let f = built.formula i h in (made_other (table_of (dialect (rule t))) (omega arith) i f.0 f.2 f.1).0;
          no_strong = λ i h. let f = built.formula i h in (made_other (table_of (dialect (rule t))) (omega arith) i f.0 f.2 f.1).1;
        }

    counterpart : (j : ℕ) → 0 < j → j ≤ length t → Counterpart t (dialect_table t) j
    unfolding dialect_table
    counterpart j p h =
        let φ : Formula = formula_of (formulas t) j in
        let u : List ℕ = table_of (dialect (rule t)) in
        let s = word-sub table j p h in
        let held = sub_held u s (length u) (table_of_held (dialect (rule t)) converted_small (omega arith)) in
        let within = held_within u (dialect φ) held.0 held.1 in
        let is : formula_of (formulas u) held.0 ≡ dialect φ =
        held_formula u (table_of-ordered (dialect (rule t)) converted_small (omega arith)) (omega arith) (dialect φ) held.0
        (letters-dialect (λ n. n < 16384) φ (letters-sub (λ n. n < 16384) s small)) held.1 in
        record { number = held.0; positive = within.0; inside = within.1; formula = is; byte = ap class_byte is ∙ law.dialect-byte φ }

    again : dialect_table (dialect_table t) ≡ dialect_table t
    unfolding dialect_table
    again = ap (λ (φ : Formula). table_of (dialect φ)) dialect-rule ∙ ap table_of (law.dialect-twice (rule t))

-- the table that is made of an accepted one
module _ (s : List ℕ) (ok : headed_checked true 16383 s ≡ Ok tt) where
  given : checked true 16383 (body s) ≡ Ok tt
  given = (accepted-headed true 16383 s ok).words

  pub dialect_converted : length (dialect_table (body s)) ≤ 16383 → Converted s (headed (dialect_table (body s)))
  dialect_converted few = record {
    words = refl;
    accepted = headed-accepted true 16383 (dialect_table (body s)) (omega arith) (dialect-accepted (body s) given few);
    free = dialect-free (body s) given few;
    holds = λ r i. rw (dialect-rule (body s) given few) (law.dialect-holds r (rule (body s)) i);
    counterpart = counterpart (body s) given few;
    kept = λ f. dialect-rule (body s) given few ∙ law.dialect_kept (rule (body s)) (rule-free (body s) given f);
    again = ap headed (again (body s) given few);
  }

  -- at most 8,190 words are always converted in a slice of two words for each of them, two more, and the header
  pub dialect-answered : (slice : List ℕ) → length (body s) ≤ 8190 → 2 * length (body s) + 3 ≤ length slice
      → answer_of dialect_step s (length slice) ≡ Ok (suc (length (dialect_table (body s))))
  unfolding headed_checked
  dialect-answered slice h l =
      made_answer dialect_step s slice ok (le-leb (suc (length (dialect_table (body s)))) (min (length slice) 16384) (omega (arith, dialect-short (body s) given)))

-- of every answered call: the header and the words at the front of the slice
module _ (s slice : List ℕ) (n : ℕ) (made : answer_of dialect_step s (length slice) ≡ Ok n) where
  answer : Answered dialect_step s slice n
  answer = answered dialect_step s slice n made

  accepted : headed_checked true 16383 s ≡ Ok tt
  unfolding headed_checked
  accepted = answer.accepted

  inside : n ≤ min (length slice) 16384
  inside = leb-true n (min (length slice) 16384) answer.fitting

  pub made_converted : Converted s (take n (result_of dialect_step s slice))
  made_converted = rw answer.front (dialect_converted s accepted (omega (arith, answer.long, inside)))

  -- converting them once more answers the same length, and puts the same words into every slice that they fit
  module _ (next : List ℕ) (long : n ≤ length next) where
    u : List ℕ
    u = take n (result_of dialect_step s slice)

    again_long : length (headed (dialect_table (body u))) ≡ n
    unfolding u
    again_long = ap length made_converted.again ∙ ap length answer.front ∙ sym answer.long

    again_fits : result_fits (length (headed (dialect_table (body u)))) (length next) ≡ true
    again_fits = le-leb (length (headed (dialect_table (body u)))) (min (length next) 16384) (omega (arith, again_long, inside))

    again_accepted : headed_checked true 16383 u ≡ Ok tt
    unfolding u
    again_accepted = made_converted.accepted

    pub again_answer : answer_of dialect_step (take n (result_of dialect_step s slice)) (length next) ≡ Ok n
    unfolding u headed_checked
    again_answer = made_answer dialect_step u next again_accepted again_fits ∙ ap Ok again_long

    pub again_result : result_of dialect_step (take n (result_of dialect_step s slice)) next ≡ take n (result_of dialect_step s slice) ++ drop n next
    unfolding u headed_checked
    again_result =
        made_result dialect_step u next again_accepted again_fits
        ∙ ap₂ (λ (w : List ℕ) (m : ℕ). w ++ drop m next) made_converted.again again_long
