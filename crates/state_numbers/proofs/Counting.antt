-- The numbers of states as they are kept, word by word, and read.
use Prim.Native.Nat.{ℕ, zero, suc, pred, ◌+◌, ◌-◌, ◌*◌, ◌≤◌, ◌<◌}
use native.Mathlib.Omega.{arith}
use native.Mathlib.Numerals.{add-one}
use native.Mathlib.Decide.{ℕ_discrete}
use mathlib.Core.Path.{◌≡◌, refl, sym, ap, ◌∙◌}
use mathlib.Core.Bool.{Bool, true, false, cond}
use mathlib.Core.List.{List, [], ◌++◌, map}
use lib.ListN.{length, get_or, drop, set, length-append, length-map, length-set, get_or-append}
use lib.Seq.{get_or-set_same, get_or-set_other}
use lib.Dec.{T}
use Rattle.logic.specs.Formula.{Formula}
use Rattle.logic.specs.ClassByte.{class_byte}
use Rattle.std.specs.Prelude.{Ok}
use Rattle.table.specs.Node.{kind}
use Rattle.table.specs.Checks.{checked}
use Rattle.table.specs.Table.{formulas, formula_of}
use Rattle.table.specs.Steps.{class_bytes}
use Rattle.table.proofs.Accepted.{accepted-well-formed}
use Rattle.class_bytes.proofs.Words.{length-class_bytes, class_bytes_at}
use Rattle.automata_laws.specs.StateClass.{StateClass, sigma₁, class_bit, every, is_smallest, smallest_in}
use Rattle.automata_laws.specs.FormulaAutomaton.{is_proper}
use Rattle.automata_tables.specs.States.{classes_of, state_words, states, states_from, number_of, state_at, no_state}
use Rattle.automata_tables.proofs.Numbers.{at_mem}
use Rattle.automata_tables.proofs.States.{classes_mem}
use Rattle.state_classes.specs.Classes.{smallest_bits, class_bits}
use Rattle.state_classes.specs.Kept.{word_of, offset}
use Rattle.state_classes.proofs.Smallest.{smallest_bits_lem, class_bits_lem, bits-few}
use Rattle.state_numbers.specs.Numbered.{Classed, states_before, Started, Numbered, Filled, InWord, Found}
use Rattle.state_numbers.proofs.States.{before_none, before_more, before_all, map_at, state_at_lem, proper-word, number_is}

-- the bytes that are filled
pub bytes_classed : (t bytes filled : List ℕ) → checked true 16383 t ≡ Ok tt → length t ≤ length bytes → filled ≡ class_bytes t ++ drop (length t) bytes → Classed t filled
unfolding formula_of
bytes_classed t bytes filled ok h e = record {
  accepted = ok;
  bytes_long = rw e (omega (arith, length-append (class_bytes t) (drop (length t) bytes), length-class_bytes t));
  byte = λ i l. rw e (get_or-append (class_bytes t) (drop (length t) bytes) 0 i (omega (arith, length-class_bytes t)) ∙ class_bytes_at t i l);
}

-- a word has as many states as its kind and byte tell
pub word_count : {t bytes : List ℕ} → Classed t bytes → (i : ℕ) {k n : ℕ} → i < length t → k ≡ kind (get_or t i 0) → n ≡ length (class_bits k (get_or bytes i 0))
    → n ≡ length (classes_of (word_of t (suc i)))
word_count {t} {bytes} q i {k} {n} h d e =
    let φ : Formula = word_of t (suc i) in
    e ∙ rw (q.byte i h, d) (ap length (class_bits_lem (kind (get_or t i 0)) φ (proper-word t q.accepted i h)) ∙ length-map (classes_of φ) class_bit)

pub count-few : (k byte : ℕ) {n : ℕ} → n ≡ length (class_bits k byte) → n ≤ 2
count-few k byte e = omega (arith, bits-few k byte)

pub classed-few : {t bytes : List ℕ} → Classed t bytes → length t ≤ 16383
classed-few {t} q = (accepted-well-formed true 16383 t q.accepted).few

-- the first i words are passed
pub record Counting (t starts : List ℕ) (total i : ℕ) : Type 0 where
  pub within : i ≤ length t
  pub long : length t < length starts
  pub few : total ≤ 2 * i
  pub so_far : total ≡ states_before t i
  pub start : (k : ℕ) → k < i → get_or starts (suc k) 0 ≡ states_before t k

pub counting_none : (t starts : List ℕ) → length t < length starts → Counting t starts 0 0
counting_none t starts h = record { within = omega arith; long = h; few = omega arith; so_far = sym (before_none t); start = λ k l. absurd (omega arith) }

pub counting_more : {t bytes starts : List ℕ} {total i k n : ℕ} → Classed t bytes → Counting t starts total i → i < length t
    → k ≡ kind (get_or t i 0) → n ≡ length (class_bits k (get_or bytes i 0)) → Counting t (set starts (i + 1) total) (total + n) (i + 1)
counting_more {t} {bytes} {starts} {total} {i} {k} {n} c q h d e = record {
  within = omega arith;
  long = simp length-set q.long;
  few = omega (arith, q.few, count-few k (get_or bytes i 0) e);
  so_far = rw add-one (omega (arith, q.so_far, before_more t i h, word_count c i h d e));
  start = λ k l. go k (ℕ_discrete k i) l;
}
  where
    go : (k : ℕ) → Dec (k ≡ i) → k < i + 1 → get_or (set starts (i + 1) total) (suc k) 0 ≡ states_before t k
    go k (yes s) l = rw (s, add-one i) (get_or-set_same starts (suc i) total 0 (omega (arith, q.long)) ∙ q.so_far)
    go k (no d) l = get_or-set_other starts (i + 1) (suc k) total 0 (λ s. d (omega arith)) ∙ q.start k (omega (arith, d))

pub counting_all : {t starts : List ℕ} {total i : ℕ} → Counting t starts total i → length t ≤ i → (total ≡ length (state_words t)) × Started t starts
counting_all {t} {starts} {total} {i} q h =
    let e : i ≡ length t = omega (arith, q.within) in
    (q.so_far ∙ ap (states_before t) e ∙ before_all t, record { long = q.long; start = λ k l. q.start k (omega arith) })

-- what is kept then
pub all_filled : {t bytes starts : List ℕ} {total : ℕ} → Classed t bytes → total ≡ length (state_words t) → Started t starts → Filled t bytes starts total
all_filled {t} {bytes} {starts} {total} c e s = record {
  all = e;
  numbered = λ few. record {
    kept = record {
      bytes_long = c.bytes_long;
      starts_long = s.long;
      few = omega (arith, e);
      byte = c.byte;
      number = number;
    };
    started = s;
  };
}
  where
    number : (j : ℕ) (Γ : StateClass) → 0 < j → j ≤ length t → T (is_proper (word_of t j)) → T (is_smallest (word_of t j) Γ)
        → number_of t (record { formula = word_of t j; class = Γ }) ≡ get_or starts j 0 + offset Γ (class_byte (word_of t j))
    number zero Γ l h p m = absurd (omega arith)
    number (suc i) Γ l h p m = number_is t c.accepted i Γ h p m ∙ ap (λ (n : ℕ). n + offset Γ (class_byte (word_of t (suc i)))) (sym (s.start i h))

-- the word of a state's number is looked for from the last one down
pub some_before : (t : List ℕ) (state n : ℕ) → 0 < state → state ≤ states_before t n → 0 < n
some_before t state zero h l = absurd (omega (arith, before_none t))
some_before t state (suc n) h l = omega arith

pub start_at : {t starts : List ℕ} → Started t starts → (n : ℕ) → 0 < n → n ≤ length t → get_or starts n 0 ≡ states_before t (pred n)
start_at q zero p h = absurd (omega arith)
start_at q (suc i) p h = q.start i h

-- how many there are of a word
in_word : {t : List ℕ} {n w : ℕ} → InWord t n w → states_before t w ≡ states_before t (pred w) + length (classes_of (word_of t w))
in_word {t} {n} {w = zero} q = absurd (omega (arith, q.positive))
in_word {t} {n} {w = suc i} q = before_more t i q.within

-- the classes of a formula that has a state
some-proper : (φ : Formula) (k : ℕ) → k < length (classes_of φ) → classes_of φ ≡ smallest_in every φ
some-proper φ k = go (is_proper φ)
  where
    go : (b : Bool) → k < length (cond b (smallest_in every φ) []) → cond b (smallest_in every φ) [] ≡ smallest_in every φ
    go true h = refl
    go false h = absurd (omega arith)

here : (t : List ℕ) (w : ℕ) → 0 < w → w ≤ length t → (k : ℕ) → k < length (classes_of (word_of t w))
    → get_or (states_from (formulas t)) (states_before t (pred w) + k) no_state ≡ record { formula = word_of t w; class = get_or (classes_of (word_of t w)) k sigma₁ }
here t zero p h k l = absurd (omega arith)
here t (suc i) p h k l = state_at_lem t i k h l

-- the place of a state among those of its word
module _ {t bytes starts : List ℕ} (q : Numbered t bytes starts) {n w : ℕ} (f : InWord t n w) where
  pub start_of : get_or starts w 0 ≡ states_before t (pred w)
  start_of = start_at q.started w f.positive f.within

  place : ℕ
  place = n - get_or starts w 0 - 1

  inside : place < length (classes_of (word_of t w))
  unfolding place
  inside = omega (arith, start_of, f.past, f.last, in_word f)

  bits : smallest_bits (get_or bytes (w - 1) 0) ≡ map class_bit (classes_of (word_of t w))
  bits =
      ap smallest_bits (byte w f.positive f.within) ∙ smallest_bits_lem (word_of t w) ∙ ap (map class_bit) (sym (some-proper (word_of t w) place inside))
    where
      byte : (w : ℕ) → 0 < w → w ≤ length t → get_or bytes (w - 1) 0 ≡ class_byte (word_of t w)
      byte zero p h = absurd (omega arith)
      byte (suc i) p h = let e : suc i - 1 ≡ i = omega arith in ap (λ (x : ℕ). get_or bytes x 0) e ∙ q.kept.byte i h

  pub place_inside : n - get_or starts w 0 - 1 < length (smallest_bits (get_or bytes (w - 1) 0))
  unfolding place
  place_inside = rw bits (omega (arith, inside, length-map (classes_of (word_of t w)) class_bit))

  pub found : {c : ℕ} → c ≡ get_or (smallest_bits (get_or bytes (w - 1) 0)) (n - get_or starts w 0 - 1) 0 → Found t n w c
  unfolding place states state_at
  found {c} e =
      let Γs : List StateClass = classes_of (word_of t w) in
      let Γ : StateClass = get_or Γs place sigma₁ in
      let number : n ≡ suc (states_before t (pred w) + place) = omega (arith, start_of, f.past) in
      let known = classes_mem (word_of t w) Γ (at_mem Γs sigma₁ place inside) in
      record {
        positive = f.positive;
        within = f.within;
        class = Γ;
        is_bit = e ∙ ap (λ (l : List ℕ). get_or l place 0) bits ∙ map_at class_bit Γs place sigma₁ 0 inside;
        is_state =
            ap (state_at (states_from (formulas t))) number ∙ here t w f.positive f.within place inside;
        proper = known.0;
        smallest = known.1;
      }
