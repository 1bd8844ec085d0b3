-- The states written word by word.
use Prim.Native.Nat.{ℕ, suc, ◌+◌, ◌*◌, ◌≤◌, ◌<◌}
use native.Mathlib.Omega.{arith}
use native.Mathlib.Numerals.{add-one}
use mathlib.Core.Path.{◌≡◌, refl, sym, ap, ap₂, ◌∙◌}
use mathlib.Core.List.{List, ◌++◌, map}
use lib.ListN.{length, get_or, take, drop, length-map}
use lib.Seq.{take_all, take_at, drop-append-add, drop-drop, paste}
use Rattle.table.specs.Node.{kind}
use Rattle.table.specs.Table.{formulas}
use Rattle.automata_tables.specs.States.{classes_of, state_word, words_from}
use Rattle.state_classes.specs.Classes.{smallest_bits, class_bits, bit_word, own_words}
use Rattle.state_classes.specs.Kept.{word_of}
use Rattle.state_classes.proofs.Smallest.{own_words_lem, bits-few, bits-proper, smallest_small}
use Rattle.state_numbers.specs.Numbered.{Classed, states_before}
use Rattle.state_numbers.proofs.States.{map_at, before_none, before_more, words_more, words_before, words_all, before_all, proper-word}
use Rattle.state_words.specs.Stated.{Put, Stated}

-- the states of one word
module _ (k byte j : ℕ) where
  pub own-count : {n : ℕ} → n ≡ length (class_bits k byte) → n ≡ length (own_words k byte j)
  unfolding own_words
  own-count e = e ∙ sym (length-map (class_bits k byte) (bit_word j))

  pub own-few : {n : ℕ} → n ≡ length (class_bits k byte) → n ≤ 2
  own-few e = omega (arith, bits-few k byte)

  -- the one at a place
  module _ {n i : ℕ} (e : n ≡ length (class_bits k byte)) (h : i < n) where
    pub own-inside : i < length (smallest_bits byte)
    own-inside = rw (← bits-proper k byte i (omega arith)) (omega arith)

    pub own_at : {c w : ℕ} → c ≡ get_or (smallest_bits byte) i 0 → w ≡ bit_word j c → w ≡ get_or (own_words k byte j) i 0
    unfolding own_words
    own_at d f = f ∙ ap (bit_word j) (d ∙ ap (λ (l : List ℕ). get_or l i 0) (sym (bits-proper k byte i (omega arith)))) ∙ sym (map_at (bit_word j) (class_bits k byte) i 0 0 (omega arith))

    pub own_small : {c : ℕ} → c ≡ get_or (smallest_bits byte) i 0 → c < 8
    own_small d = omega (arith, smallest_small byte i own-inside)

  pub put_none : (at : ℕ) (out : List ℕ) {n : ℕ} → n ≡ length (class_bits k byte) → length out < at + n → Put k byte j at out out n
  put_none at out e h = record { all = own-count e; long = refl; own = λ l. absurd (omega arith) }

  pub put_all : (at : ℕ) (out made : List ℕ) {n i : ℕ} → n ≡ length (class_bits k byte) → n ≤ i → i ≤ n → length made ≡ length out
      → made ≡ paste out at (own_words k byte j) i → Put k byte j at out made n
  put_all at out made {n} {i} e l h same p =
      let whole : i ≡ n = omega arith in
      record {
        all = own-count e;
        long = same;
        own = λ x. p ∙ ap₂ (λ (a b : List ℕ). take at out ++ a ++ b) (take_all i (own_words k byte j) (omega (arith, own-count e))) (ap (λ (x : ℕ). drop (at + x) out) whole);
      }

pub put-few : {k byte j at : ℕ} {out made : List ℕ} {n : ℕ} → Put k byte j at out made n → n ≤ 2
put-few {k} {byte} {j} q = omega (arith, q.all, bits-few k byte, own-count k byte j refl)

-- the states of the first i words
pub record Stating (t out made : List ℕ) (n i : ℕ) : Type 0 where
  pub within : i ≤ length t
  pub few : n ≤ 2 * i
  pub so_far : n ≡ states_before t i
  pub long : length made ≡ length out
  pub front : n ≤ length out → made ≡ words_from 1 (take i (formulas t)) ++ drop n out

pub stating_none : (t out : List ℕ) → Stating t out out 0 0
unfolding words_from
stating_none t out = record { within = omega arith; few = omega arith; so_far = sym (before_none t); long = refl; front = λ h. refl }

pub stating_more : {t bytes out made after : List ℕ} {n i k m : ℕ} → Classed t bytes → Stating t out made n i → i < length t
    → k ≡ kind (get_or t i 0) → Put k (get_or bytes i 0) (i + 1) n made after m → Stating t out after (n + m) (i + 1)
stating_more {t} {bytes} {out} {made} {after} {n} {i} {k} {m} c q h d p = record {
  within = omega arith;
  few = omega (arith, q.few, put-few p);
  so_far = rw add-one (omega (arith, q.so_far, before_more t i h, p.all, ap length own, length-map (classes_of (word_of t (suc i))) (state_word (suc i))));
  long = p.long ∙ q.long;
  front = front;
}
  where
    own : own_words k (get_or bytes i 0) (i + 1) ≡ map (state_word (suc i)) (classes_of (word_of t (suc i)))
    own = rw (c.byte i h, d, add-one i) (own_words_lem (kind (get_or t i 0)) (suc i) (word_of t (suc i)) (proper-word t c.accepted i h))

    before : List ℕ
    before = words_from 1 (take i (formulas t))

    before_long : length before ≡ n
    before_long = words_before t i ∙ sym q.so_far

    front : n + m ≤ length out → after ≡ words_from 1 (take (i + 1) (formulas t)) ++ drop (n + m) out
    front l =
        let so_far : made ≡ before ++ drop n out = q.front (omega arith) in
        let kept : take n made ≡ before = ap (take n) so_far ∙ take_at before (drop n out) n before_long in
        let rest : drop (n + m) made ≡ drop (n + m) out =
        ap (drop (n + m)) so_far ∙ ap (λ (x : ℕ). drop (x + m) (before ++ drop n out)) (sym before_long) ∙ drop-append-add before (drop n out) m ∙ drop-drop m n out in
        p.own (omega (arith, q.long))
        ∙ ap₂ (λ (x y : List ℕ). x ++ own_words k (get_or bytes i 0) (i + 1) ++ y) kept rest
        ∙ ap (λ (x : List ℕ). before ++ x ++ drop (n + m) out) own
        ∙ ap (λ (x : List ℕ). x ++ drop (n + m) out) (sym (words_more t i h) ∙ ap (λ (x : ℕ). words_from 1 (take x (formulas t))) (sym (add-one i)))

pub stating_all : {t out made : List ℕ} {n i : ℕ} → Stating t out made n i → length t ≤ i → Stated t out made n
stating_all {t} {out} {made} {n} {i} q h =
    let e : i ≡ length t = omega (arith, q.within) in
    record {
      all = q.so_far ∙ ap (states_before t) e ∙ before_all t;
      long = q.long;
      front = λ l. q.front l ∙ ap (λ (x : List ℕ). x ++ drop n out) (ap (λ (x : ℕ). words_from 1 (take x (formulas t))) e ∙ words_all t);
    }
