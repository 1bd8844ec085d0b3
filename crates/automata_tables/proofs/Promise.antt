-- What holds of the automaton of every accepted plain table whose rule is in Δ₂ (`specs/Recognises`), of its words and of the table with its header.
use Prim.Native.Nat.{ℕ, zero, suc, pred, ◌+◌, ◌≤◌, ◌<◌}
use native.Mathlib.Omega.{arith}
use native.Mathlib.Nat.{zero-add}
use native.Mathlib.Decide.{ℕ_discrete, dec_lt}
use mathlib.Core.Path.{◌≡◌, refl, sym, ap, ap₂, subst, ◌∙◌}
use mathlib.Core.Logic.Iff
use mathlib.Core.Bool.{Bool, true, false, cond}
use mathlib.Core.List.{List, [], ◌∷◌, Memᴰ}
use lib.ListN.{length, get_or, get_or-eq_default}
use lib.Dec.{eqb}
use Rattle.logic.specs.Formula.{const}
use Rattle.logic.specs.Lasso.{word}
use Rattle.logic.specs.Letters.{Letters}
use Rattle.logic.specs.Hierarchy.{Δ₂}
use Rattle.std.specs.Prelude.{Ok}
use Rattle.table.specs.Node.{kind}
use Rattle.table.specs.Table.{formulas, formula_of, rule}
use Rattle.table.specs.Checks.{checked}
use Rattle.table.specs.Header.{body, headed_checked}
use Rattle.table.specs.Numbering.{table_of}
use Rattle.table.proofs.Accepted.{WellFormed, accepted-well-formed}
use Rattle.table.proofs.Fields.{kind-pack, left_pack, right_pack}
use Rattle.table.proofs.Formulas.{length-formulas}
use Rattle.table.proofs.Header.{accepted-headed}
use Rattle.numbering.proofs.Used.{rule-table_of}
use Rattle.normal_laws.proofs.Distinct.{formulas-differ}
use Rattle.normal_laws.proofs.Subformulas.{complete, inside}
use Rattle.automata.specs.Positive.{Positive, constant, atom, and, or, renamed, Subset, Minimal}
use Rattle.automata.proofs.Renaming.{Renames, accepts-renamed, renames_back, changes_renamed}
use Rattle.automata_laws.specs.StateClass.{StateClass, sigma₁, pi₁, sigma₂, pi₂, class_bit, is_pi, every}
use Rattle.automata_laws.specs.FormulaAutomaton.{State, combination, move_of, formula_automaton}
use Rattle.automata_laws.proofs.Closed.{start_closed, move_closed}
use Rattle.automata_laws.proofs.Once.{state_same}
use Rattle.automata_laws.proofs.Promise.{recognises}
use Rattle.automata_tables.specs.States.{state_word, state_words, states, number_from, number_of, no_state, state_at, is_state}
use Rattle.automata_tables.specs.Moves.{start_of, move_at, table_automaton, written_at, as_formula, move_table, as_positive}
use Rattle.automata_tables.specs.Recognises.{Tells, Recognises}
use Rattle.automata_tables.proofs.Numbers.{NoRepeat, places_norepeat, at_mem, number-found, number_at}
use Rattle.automata_tables.proofs.States.{mem_classes, classes_mem, states_mem, mem_states, states-norepeat, words-length, states-few, At, word_at}

-- a class's bit fits its field, and the kind of a state's word is 1 or 0
bit_small : (Γ : StateClass) → class_bit Γ < 16384
bit_small sigma₁ = omega arith
bit_small pi₁ = omega arith
bit_small sigma₂ = omega arith
bit_small pi₂ = omega arith

one_by : (b : Bool) → eqb (cond b 1 0) 1 ≡ b
one_by true = refl
one_by false = refl

-- numbers are at most as many as the states
number-few : (n : ℕ) (l : List State) (q : State) → number_from n l q ≤ n + length l
unfolding number_from
number-few n [] q = omega arith
number-few n (p ∷ ps) q = go (is_state p q) (number-few (suc n) ps q)
  where
    go : (b : Bool) → number_from (suc n) ps q ≤ suc n + length ps → cond b (suc n) (number_from (suc n) ps q) ≤ n + suc (length ps)
    go true h = omega arith
    go false h = omega arith

-- a positive formula as a formula, and read again
read_again : (θ : Positive ℕ) → as_positive (as_formula θ) ≡ θ
read_again (constant b) = refl
read_again (atom n) = refl
read_again (and a b) = ap₂ and (read_again a) (read_again b)
read_again (or a b) = ap₂ or (read_again a) (read_again b)

small_letters : (f : State → ℕ) → ((q : State) → f q < 16384) → (θ : Positive State) → Letters (λ p. p < 16384) (as_formula (renamed f θ))
small_letters f h (constant b) = tt
small_letters f h (atom q) = h q
small_letters f h (and a b) = (small_letters f h a, small_letters f h b)
small_letters f h (or a b) = (small_letters f h a, small_letters f h b)

module _ (limit : ℕ) (t : List ℕ) (ok : checked true limit t ≡ Ok tt) (small : limit ≤ 16383) where
  formed : WellFormed true limit t
  formed = accepted-well-formed true limit t ok

  norepeat : NoRepeat (states t)
  unfolding states
  norepeat =
      states-norepeat (formulas t)
      (places_norepeat (formulas t) (const false) (λ i j h k e. formulas-differ formed i j (omega (arith, length-formulas t)) (omega (arith, length-formulas t)) e))

  long : length (state_words t) ≡ length (states t)
  unfolding state_words states
  long = words-length _ (formulas t)

  -- the states of the automaton of the rule are those listed
  listed : (q : State) → (formula_automaton (rule t)).IsState q → Memᴰ q (states t)
  unfolding states
  listed q s = mem_states q (formulas t) (complete small formed q.formula s.0) (mem_classes q.formula q.class s.1 s.2)

  of_listed : (q : State) → Memᴰ q (states t) → (formula_automaton (rule t)).IsState q
  unfolding states
  of_listed q m =
      let k = states_mem (formulas t) m in
      let c = classes_mem q.formula q.class k.1 in
      (inside small formed q.formula k.0, c.0, c.1)

  -- the number of a state
  abbrev Numbered : State → Type 0
  Numbered q = (i : ℕ) × (i < length (states t)) × (number_of t q ≡ suc i) × (get_or (states t) i no_state ≡ q)

  numbered : (q : State) → (formula_automaton (rule t)).IsState q → Numbered q
  unfolding number_of
  numbered q s = let k = number-found 0 (states t) q (listed q s) in (k.0, k.1, k.2 ∙ ap suc (zero-add k.0), k.3)

  -- the state at a place has the number after it
  pub number_back : (i : ℕ) → i < length (states t) → number_of t (get_or (states t) i no_state) ≡ suc i
  unfolding number_of
  number_back i h = number_at 0 (states t) norepeat i h ∙ ap suc (zero-add i)

  -- what the word of a number tells
  word-tells : (i : ℕ) → i < length (states t) → Tells t (get_or (state_words t) i 0) (get_or (states t) i no_state)
  unfolding state_words states formula_of
  word-tells i h = subst (Tells t (get_or (state_words t) i 0)) (sym a.is_state) (subst (λ (w : ℕ). Tells t w q) (sym a.is_word) tells)
    where
      a : At 1 (formulas t) i
      a = word_at 1 (formulas t) i h

      q : State
      q = record { formula = get_or (formulas t) a.word (const false); class = a.class }

      j : ℕ
      j = 1 + a.word

      next : j ≡ suc a.word
      next = omega arith

      fits : j < 16384
      fits = omega (arith, a.inside, length-formulas t, formed.few)

      tells : Tells t (state_word j a.class) q
      tells = record {
        accepting = kind-pack (cond (is_pi a.class) 1 0) (class_bit a.class) j (bit_small a.class) fits;
        class = left_pack (cond (is_pi a.class) 1 0) (class_bit a.class) j (bit_small a.class) fits;
        formula = ap (formula_of (formulas t)) (right_pack (cond (is_pi a.class) 1 0) (class_bit a.class) j fits ∙ next);
      }

  names : Renames (formula_automaton (rule t)) (table_automaton t) (number_of t) (state_at (states t))
  unfolding start_of move_at state_at
  names = record {
    inside = λ q s. let k = numbered q s in (omega (arith, k.2), omega (arith, k.1, k.2, long));
    back = back;
    start = refl;
    move = λ q s i. ap (λ (p : State). renamed (number_of t) (move_of p.formula p.class s)) (back q i);
    accepting = λ q s.
        let k = numbered q s in
        ap (λ (n : ℕ). eqb (kind (get_or (state_words t) (pred n) 0)) 1) k.2
        ∙ ap (λ (x : ℕ). eqb x 1) (word-tells k.0 k.1).accepting
        ∙ one_by (is_pi (get_or (states t) k.0 no_state).class)
        ∙ ap (λ (p : State). is_pi p.class) k.3;
    start_closed = start_closed (rule t);
    move_closed = move_closed (rule t);
  }
    where
      back : (q : State) → (formula_automaton (rule t)).IsState q → state_at (states t) (number_of t q) ≡ q
      back q s = let k = numbered q s in ap (state_at (states t)) k.2 ∙ k.3

  onto : (n : ℕ) → (table_automaton t).IsState n → (q : State) × (formula_automaton (rule t)).IsState q × (number_of t q ≡ n)
  onto zero s = absurd (omega (arith, s.0))
  onto (suc i) s =
      let h : i < length (states t) = omega (arith, s.1, long) in
      (get_or (states t) i no_state, of_listed (get_or (states t) i no_state) (at_mem (states t) no_state i h), number_back i h)

  -- a number that is no state's never moves
  only : (n s : ℕ) (S : Subset ℕ) → Minimal S ((table_automaton t).move n s) → (table_automaton t).IsState n
  unfolding move_at state_at move_of
  only zero s S m = absurd m.model
  only (suc i) s S m = go (dec_lt i (length (states t)))
    where
      go : Dec (i < length (states t)) → (0 < suc i) × (suc i ≤ length (state_words t))
      go (yes h) = (omega arith, omega (arith, long))
      go (no f) =
          absurd (subst (λ (q : State). Minimal S (renamed (number_of t) (move_of q.formula q.class s))) (get_or-eq_default (states t) no_state (omega (arith, f))) m).model

  -- the words of the start and of the moves
  read : (θ : Positive State) → length (state_words t) ≤ 16383 → length (table_of (as_formula (renamed (number_of t) θ))) ≤ 16383
      → as_positive (rule (table_of (as_formula (renamed (number_of t) θ)))) ≡ renamed (number_of t) θ
  unfolding number_of
  read θ h k =
      ap as_positive (rule-table_of (as_formula (renamed (number_of t) θ)) (small_letters (number_of t) (λ q. omega (arith, number-few 0 (states t) q, long)) θ) (omega arith))
      ∙ read_again (renamed (number_of t) θ)

  written : (n s : ℕ) → length (state_words t) ≤ 16383 → length (move_table t n s) ≤ 16383 → as_positive (rule (move_table t n s)) ≡ written_at t n s
  unfolding move_table start_of move_at
  written zero s = read (combination every (rule t))
  written (suc i) s = let q : State = state_at (states t) (suc i) in read (move_of q.formula q.class s)

  pub table-recognises : Δ₂ (rule t) → Recognises t
  unfolding state_at state_words states
  table-recognises second = record {
    accepts = λ r. Iff.trans (
      accepts-renamed state_same (state_at (states t)) (number_of t) (table_automaton t) (formula_automaton (rule t)) (renames_back (formula_automaton (rule t)) (table_automaton t) (number_of t) (state_at (states t)) names onto) (word r),
      accepts-renamed ℕ_discrete (number_of t) (state_at (states t)) (formula_automaton (rule t)) (table_automaton t) names (word r),
    ) ((recognises (rule t) second).accepts r);
    once = changes_renamed state_same ℕ_discrete (number_of t) (state_at (states t)) (formula_automaton (rule t)) (table_automaton t)
        (renames_back (formula_automaton (rule t)) (table_automaton t) (number_of t) (state_at (states t)) names onto) only (recognises (rule t) second).once;
    few = omega (arith, long, states-few (formulas t));
    told = λ n p h. by_number n p h;
    written = written;
  }
    where
      by_number : (n : ℕ) → 0 < n → n ≤ length (state_words t) → Tells t (get_or (state_words t) (pred n) 0) (state_at (states t) n)
      by_number zero p h = absurd (omega arith)
      by_number (suc i) p h = word-tells i (omega (arith, long))

-- the same of an accepted table with its header
pub headed-recognises : (limit : ℕ) (s : List ℕ) → headed_checked true limit s ≡ Ok tt → limit ≤ 16383 → Δ₂ (rule (body s)) → Recognises (body s)
headed-recognises limit s ok small second = table-recognises limit (body s) (accepted-headed true limit s ok).words small second
