-- The states of words one after another: how many stand before those of a word, and which stand there.
use Prim.Native.Nat.{ℕ, zero, suc, ◌+◌, ◌-◌, ◌≤◌, ◌<◌}
use native.Mathlib.Omega.{arith}
use native.Mathlib.Nat.{add-zero, add-suc}
use mathlib.Core.Path.{◌≡◌, refl, sym, ap, ◌∙◌}
use mathlib.Core.Bool.{true, false}
use mathlib.Core.List.{List, [], ◌∷◌, ◌++◌, map, append_assoc, append-nil}
use lib.ListN.{length, get_or, take, drop, length-append, length-map, take-append-drop, get_or-append}
use lib.Seq.{take-suc, take_all, length-take-le, get_or-append-add}
use lib.Dec.{T}
use Rattle.logic.specs.Formula.{Formula, const}
use Rattle.logic.specs.ClassByte.{class_byte}
use Rattle.std.specs.Prelude.{Ok}
use Rattle.table.specs.Node.{kind}
use Rattle.table.specs.Checks.{checked}
use Rattle.table.specs.Table.{formulas, formula_of}
use Rattle.table.proofs.Formulas.{length-formulas}
use Rattle.table.proofs.Accepted.{WellFormed, accepted-well-formed, accepted-formula}
use Rattle.normal_laws.proofs.Distinct.{formulas-differ}
use Rattle.automata_laws.specs.StateClass.{StateClass, sigma₁, is_smallest}
use Rattle.automata_laws.specs.FormulaAutomaton.{State, is_proper}
use Rattle.automata_tables.specs.States.{classes_of, state_word, words_from, state_words, states_from, states, no_state, number_of}
use Rattle.automata_tables.proofs.Numbers.{NoRepeat, places_norepeat, number_at}
use Rattle.automata_tables.proofs.States.{states-norepeat, words-length}
use Rattle.state_classes.specs.Classes.{is_proper_kind}
use Rattle.state_classes.specs.Kept.{word_of, offset}
use Rattle.state_classes.proofs.Smallest.{proper-kind, class-place}
use Rattle.state_numbers.specs.Numbered.{states_before}

abbrev own : Formula → List State
own φ = map (λ Γ. record { formula = φ; class = Γ }) (classes_of φ)

states-append : (φs ψs : List Formula) → states_from (φs ++ ψs) ≡ states_from φs ++ states_from ψs
unfolding states_from
states-append [] ψs = refl
states-append (φ ∷ φs) ψs = ap (λ (l : List State). own φ ++ l) (states-append φs ψs) ∙ sym (append_assoc (own φ) (states_from φs) (states_from ψs))

words_append : (j : ℕ) (φs ψs : List Formula) → words_from j (φs ++ ψs) ≡ words_from j φs ++ words_from (j + length φs) ψs
unfolding words_from
words_append j [] ψs = rw add-zero
words_append j (φ ∷ φs) ψs =
    let here : List ℕ = map (state_word j) (classes_of φ) in
    let step : suc j + length φs ≡ j + suc (length φs) = omega arith in
    ap (λ (l : List ℕ). here ++ l) (words_append (suc j) φs ψs ∙ ap (λ (n : ℕ). words_from (suc j) φs ++ words_from n ψs) step)
    ∙ sym (append_assoc here (words_from (suc j) φs) (words_from (j + suc (length φs)) ψs))

-- a place in a list that is mapped
pub map_at : {A B : Type 0} (f : A → B) (l : List A) (i : ℕ) (a : A) (b : B) → i < length l → get_or (map f l) i b ≡ f (get_or l i a)
map_at f [] i a b h = absurd (omega arith)
map_at f (x ∷ l) zero a b h = refl
map_at f (x ∷ l) (suc i) a b h = map_at f l i a b (omega arith)

-- those of one formula more
states_one : (φ : Formula) → states_from (φ ∷ []) ≡ own φ
unfolding states_from
states_one φ = append-nil (own φ)

words_one : (j : ℕ) (φ : Formula) → words_from j (φ ∷ []) ≡ map (state_word j) (classes_of φ)
unfolding words_from
words_one j φ = append-nil (map (state_word j) (classes_of φ))

module _ (t : List ℕ) where
  -- the states of the first i words, and of one more
  abbrev φs : List Formula
  φs = formulas t

  at : (i : ℕ) → i < length t → take (suc i) φs ≡ take i φs ++ (word_of t (suc i) ∷ [])
  unfolding formula_of
  at i h = take-suc φs i (const false) (omega (arith, length-formulas t))

  take-length : (i : ℕ) → i ≤ length t → length (take i φs) ≡ i
  take-length i h = length-take-le i φs (omega (arith, length-formulas t))

  pub words_more : (i : ℕ) → i < length t → words_from 1 (take (suc i) φs) ≡ words_from 1 (take i φs) ++ map (state_word (suc i)) (classes_of (word_of t (suc i)))
  words_more i h =
      let e : 1 + length (take i φs) ≡ suc i = omega (arith, take-length i (omega arith)) in
      ap (words_from 1) (at i h)
      ∙ words_append 1 (take i φs) (word_of t (suc i) ∷ [])
      ∙ ap (λ (n : ℕ). words_from 1 (take i φs) ++ words_from n (word_of t (suc i) ∷ [])) e
      ∙ ap (λ (l : List ℕ). words_from 1 (take i φs) ++ l) (words_one (suc i) (word_of t (suc i)))

  states_more : (i : ℕ) → i < length t → states_from (take (suc i) φs) ≡ states_from (take i φs) ++ own (word_of t (suc i))
  states_more i h = ap states_from (at i h) ∙ states-append (take i φs) (word_of t (suc i) ∷ []) ∙ ap (λ (l : List State). states_from (take i φs) ++ l) (states_one (word_of t (suc i)))

  pub before_none : states_before t 0 ≡ 0
  unfolding states_from
  before_none = refl

  pub before_more : (i : ℕ) → i < length t → states_before t (suc i) ≡ states_before t i + length (classes_of (word_of t (suc i)))
  before_more i h =
      ap length (states_more i h) ∙ length-append (states_from (take i φs)) (own (word_of t (suc i)))
      ∙ ap (λ (n : ℕ). states_before t i + n) (length-map (classes_of (word_of t (suc i))) (λ Γ. record { formula = word_of t (suc i); class = Γ }))

  pub before_all : states_before t (length t) ≡ length (state_words t)
  unfolding state_words
  before_all = ap (λ (l : List Formula). length (states_from l)) (take_all (length t) φs (omega (arith, length-formulas t))) ∙ sym (words-length 1 φs)

  pub words_all : words_from 1 (take (length t) φs) ≡ state_words t
  unfolding state_words
  words_all = ap (words_from 1) (take_all (length t) φs (omega (arith, length-formulas t)))

  pub words_before : (i : ℕ) → length (words_from 1 (take i φs)) ≡ states_before t i
  words_before i = words-length 1 (take i φs)

  -- what stands at a place of a word's states
  pub state_at_lem : (i k : ℕ) → i < length t → k < length (classes_of (word_of t (suc i)))
      → get_or (states_from φs) (states_before t i + k) no_state ≡ record { formula = word_of t (suc i); class = get_or (classes_of (word_of t (suc i))) k sigma₁ }
  state_at_lem i k h l =
      let ψ : Formula = word_of t (suc i) in
      let split : take (suc i) φs ++ drop (suc i) φs ≡ φs = take-append-drop (suc i) φs in
      let inside : states_before t i + k < length (states_from (take (suc i) φs)) = omega (arith, before_more i h) in
      ap (λ (l : List Formula). get_or (states_from l) (states_before t i + k) no_state) (sym split)
      ∙ ap (λ (l : List State). get_or l (states_before t i + k) no_state) (states-append (take (suc i) φs) (drop (suc i) φs))
      ∙ get_or-append (states_from (take (suc i) φs)) (states_from (drop (suc i) φs)) no_state (states_before t i + k) inside
      ∙ ap (λ (l : List State). get_or l (states_before t i + k) no_state) (states_more i h)
      ∙ get_or-append-add (states_from (take i φs)) (own ψ) k no_state
      ∙ map_at (λ Γ. record { formula = ψ; class = Γ }) (classes_of ψ) k sigma₁ no_state l

  before_rises : (i n : ℕ) → i + n ≤ length t → states_before t i ≤ states_before t (i + n)
  before_rises i zero h = rw add-zero (omega arith)
  before_rises i (suc n) h = rw (add-suc i n) (omega (arith, before_rises i n (omega arith), before_more (i + n) (omega arith)))

  pub before_most : (i : ℕ) → i ≤ length t → states_before t i ≤ length (state_words t)
  before_most i h =
      let e : i + (length t - i) ≡ length t = omega arith in
      omega (arith, before_rises i (length t - i) (omega arith), before_all, ap (states_before t) e)

-- of an accepted plain table
module _ (t : List ℕ) (ok : checked true 16383 t ≡ Ok tt) where
  well : WellFormed true 16383 t
  well = accepted-well-formed true 16383 t ok

  -- a word's kind is proper exactly where its formula is
  pub proper-word : (i : ℕ) → i < length t → is_proper_kind (kind (get_or t i 0)) ≡ is_proper (word_of t (suc i))
  unfolding formula_of
  proper-word i h = rw (accepted-formula well i h) (proper-kind (kind (get_or t i 0)) _ _ _ (well.word i h).kinded ((well.word i h).plain refl))

  none_twice : NoRepeat (states t)
  unfolding states
  none_twice = states-norepeat (formulas t) (places_norepeat (formulas t) (const false) (λ i j hi hj e. formulas-differ well i j (omega (arith, length-formulas t)) (omega (arith, length-formulas t)) e))

  -- a state's number: those of the words before, and its place among its word's own
  pub number_is : (i : ℕ) (Γ : StateClass) → i < length t → T (is_proper (word_of t (suc i))) → T (is_smallest (word_of t (suc i)) Γ)
      → number_of t (record { formula = word_of t (suc i); class = Γ }) ≡ states_before t i + offset Γ (class_byte (word_of t (suc i)))
  unfolding number_of states state_words
  number_is i Γ h p s =
      let ψ : Formula = word_of t (suc i) in
      let k = class-place ψ Γ p s in
      let here : get_or (states_from (formulas t)) (states_before t i + k.place) no_state ≡ record { formula = ψ; class = Γ } =
      state_at_lem t i k.place h k.inside ∙ ap (λ (Δ : StateClass). record { formula = ψ; class = Δ }) k.there in
      let inside : states_before t i + k.place < length (states_from (formulas t)) =
      omega (arith, before_more t i h, k.inside, before_most t (suc i) h, words-length 1 (formulas t)) in
      ap (number_of t) (sym here) ∙ number_at 0 (states_from (formulas t)) none_twice (states_before t i + k.place) inside ∙ omega (arith, k.next)
