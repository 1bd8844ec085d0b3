-- The reader over numbers does what the reader over formulas does: a formula stands there by the number of its word in the words so far.
use Prim.Native.Nat.{ℕ, zero, suc, ◌+◌, ◌*◌, ◌/◌, ◌%◌, ◌-◌, ◌<◌}
use native.Mathlib.Omega.{arith}
use mathlib.Core.Path.{◌≡◌, refl, sym, ap, ◌∙◌, subst}
use mathlib.Core.Bool.{Bool, true, false, ◌&&◌, cond, true≢false}
use mathlib.Core.List.{List, [], ◌∷◌}
use lib.ListN.{length}
use lib.Dec.{eqb, leb, eqb→eq}
use borrow.Author.Tests.{eq-eqb, ne_eqb, eqb-false}
use Rattle.logic.specs.Formula.{Formula, Unary, Binary, const, lit, un, bin, next, neg, finally, globally, conj, disj, until, weak, release, strong, implies}
use Rattle.table.specs.Node.{kind, left, pack, unary_kind, binary_kind}
use Rattle.table.specs.Numbering.{put, build}
use Rattle.table.proofs.Fields.{kind-pack, left_pack}
use Rattle.numbering.proofs.Building.{build-const, build-lit, build-un, build-bin, build_held, held_within, build-length}
use Rattle.turns.specs.declared.Turn.TheVariants as turns
use Rattle.grammar.specs.Grammar.{Symbol, constant, letter, prefix, operator, open_bracket, close_bracket}
use Rattle.grammar.specs.Reader.{Open, waiting, bracket, joined, Config, operand, ended, stuck, settle, join, close, shift, Mark, blank, begins, begins_letter, unknown, other_bytes, mark_of, State, inside, lettered, dead, going, alive, of_letter, begin, is_digit, grown, step}
use Rattle.signs.specs.Signed.{packed, signed}
use Rattle.settling.specs.Settled.{Ended, is_prefix, settle_words}
use Rattle.turns.specs.Numbers.{Words, words, stuck_words, ended_words, begin_words, join_words, close_words, follow_words, follow_ended, digit_words, letter_words, step_words}
use Rattle.turns.specs.Numbers.{size}
use Rattle.turns.proofs.Sizes.{put-size}
use Rattle.grammar.proofs.Sound.{NoLetter, Known, mark_known}

-- the words of what is open, and its stack
abbrev pub open_table : List Open → List ℕ
open_table [] = []
open_table (waiting o ∷ s) = open_table s
open_table (bracket ∷ s) = open_table s
open_table (joined o a ∷ s) = (build (open_table s) a).table

abbrev pub open_stack : List Open → List ℕ
open_stack [] = []
open_stack (waiting o ∷ s) = pack (unary_kind o) 0 0 ∷ open_stack s
open_stack (bracket ∷ s) = 0 ∷ open_stack s
open_stack (joined o a ∷ s) = pack (binary_kind o) (build (open_table s) a).number 0 ∷ open_stack s

abbrev pub ended_image : Formula → List Open → Ended
ended_image φ s = record { stack = open_stack s; placed = build (open_table s) φ }

-- the kinds of prefixes are prefix kinds, those of operators are not, and none is 0
unary-prefix : (o : Unary) → is_prefix (unary_kind o) ≡ true
unary-prefix next = refl
unary-prefix neg = refl
unary-prefix finally = refl
unary-prefix globally = refl

binary_no_prefix : (o : Binary) → is_prefix (binary_kind o) ≡ false
binary_no_prefix conj = refl
binary_no_prefix disj = refl
binary_no_prefix until = refl
binary_no_prefix weak = refl
binary_no_prefix release = refl
binary_no_prefix strong = refl
binary_no_prefix implies = refl

unary-positive : (o : Unary) → 0 < unary_kind o
unary-positive next = omega arith
unary-positive neg = omega arith
unary-positive finally = omega arith
unary-positive globally = omega arith

binary-positive : (o : Binary) → 0 < binary_kind o
binary-positive conj = omega arith
binary-positive disj = omega arith
binary-positive until = omega arith
binary-positive weak = omega arith
binary-positive release = omega arith
binary-positive strong = omega arith
binary-positive implies = omega arith

pack-positive : (k l r : ℕ) → 0 < k → pack k l r ≡ 0 → ⊥
unfolding pack
pack-positive k l r h e = omega arith

kind-zero : kind 0 ≡ 0
unfolding kind
kind-zero = refl

unary_kind_lem : (o : Unary) → kind (pack (unary_kind o) 0 0) ≡ unary_kind o
unary_kind_lem o = kind-pack (unary_kind o) 0 0 (omega arith) (omega arith)

-- a number in the words so far fits its field
number_small : (t : List ℕ) (a : Formula) → length (build t a).table < 16384 → (build t a).number < 16384
number_small t a h = omega (arith, (held_within (build t a).table a (build t a).number (build_held t a)).1)

binary_kind_lem : (o : Binary) (n : ℕ) → n < 16384 → kind (pack (binary_kind o) n 0) ≡ binary_kind o
binary_kind_lem o n h = kind-pack (binary_kind o) n 0 h (omega arith)

-- an operand that ends, with the prefixes that wait for it
pub record Settled (φ : Formula) (s : List Open) : Type 0 where
  pub formula : Formula
  pub rest : List Open
  pub is : settle φ s ≡ ended formula rest
  pub words_are : settle_words (open_stack s) (build (open_table s) φ) ≡ ended_image formula rest
  pub small : length (open_table rest) < 16384

pub settled : (φ : Formula) (s : List Open) → length (open_table s) < 16384 → Settled φ s
unfolding settle settle_words
settled φ [] h = record { formula = φ; rest = []; is = refl; words_are = refl; small = h }
settled φ (waiting o ∷ s) h =
    let q = settled (un o φ) s h in
    record {
      formula = q.formula;
      rest = q.rest;
      is = q.is;
      words_are =
          rw (unary_kind_lem o, unary-prefix o) (ap (settle_words (open_stack s)) (sym (build-un (open_table s) o φ)) ∙ q.words_are);
      small = q.small;
    }
settled φ (bracket ∷ s) h = record { formula = φ; rest = bracket ∷ s; is = refl; words_are = rw kind-zero; small = h }
settled φ (joined o a ∷ s) h =
    record {
      formula = φ;
      rest = joined o a ∷ s;
      is = refl;
      words_are = rw (binary_kind_lem o (build (open_table s) a).number (number_small (open_table s) a h), binary_no_prefix o);
      small = h;
    }

-- bytes that a symbol lacks are no spaces, and fit a byte
abbrev pub Bytes : List ℕ → Type 0
Bytes [] = Unit {0}
Bytes (b ∷ bs) = (32 < b) × (b < 256) × Bytes bs

-- how the reader over numbers stands where the reader over formulas stands
abbrev pub ConfigImage : ℕ → Config → Words → Type 0
ConfigImage l (operand s) y = (y ≡ words l turns.Operand (open_stack s) (open_table s)) × (length (open_table s) < 16384)
ConfigImage l (ended φ s) y = (y ≡ ended_words l (ended_image φ s)) × (length (open_table s) < 16384)
ConfigImage l stuck y = y.turn ≡ turns.Stuck

abbrev pub Image : State → Words → Type 0
Image (inside left c) y = ConfigImage (packed left) c y × Bytes left
Image (lettered n s) y = (y ≡ words 0 (turns.Letter n) (open_stack s) (open_table s)) × (length (open_table s) < 16384)

settle-image : (l : ℕ) (φ : Formula) (s : List Open) → length (open_table s) < 16384 → ConfigImage l (settle φ s) (ended_words l (settle_words (open_stack s) (build (open_table s) φ)))
settle-image l φ s h =
    let q = settled φ s h in
    subst (λ (c : Config). ConfigImage l c (ended_words l (settle_words (open_stack s) (build (open_table s) φ)))) (sym q.is) (ap (ended_words l) q.words_are, q.small)

-- an operator
join-image : (o : Binary) (l : ℕ) (φ : Formula) (s : List Open) → length (build (open_table s) φ).table < 16384
    → ConfigImage l (join o φ s) (join_words (binary_kind o) l (build (open_table s) φ).number (open_stack s) (build (open_table s) φ).table)
unfolding join_words
join-image o l φ [] h = refl
join-image o l φ (waiting u ∷ s) h = rw (ne_eqb (pack (unary_kind u) 0 0) 0 (pack-positive (unary_kind u) 0 0 (unary-positive u)))
join-image o l φ (bracket ∷ s) h = (refl, h)
join-image o l φ (joined u a ∷ s) h = rw (ne_eqb (pack (binary_kind u) (build (open_table s) a).number 0) 0 (pack-positive (binary_kind u) _ 0 (binary-positive u)))

-- a closing bracket
close-image : (φ : Formula) (s : List Open) → length (open_table s) < 16384
    → ConfigImage 0 (close φ s) (close_words (build (open_table s) φ).number (open_stack s) (build (open_table s) φ).table)
unfolding close_words
close-image φ [] h = refl
close-image φ (waiting u ∷ s) h = rw (ne_eqb (pack (unary_kind u) 0 0) 0 (pack-positive (unary_kind u) 0 0 (unary-positive u)), unary_kind_lem u, unary-prefix u)
close-image φ (bracket ∷ s) h = refl
close-image φ (joined o a ∷ s) h =
    let n = (build (open_table s) a).number in
    let small = number_small (open_table s) a h in
    rw (ne_eqb (pack (binary_kind o) n 0) 0 (pack-positive (binary_kind o) n 0 (binary-positive o)), binary_kind_lem o n small, binary_no_prefix o, left_pack (binary_kind o) n 0 small (omega arith), ← build-bin (open_table s) o a φ)
    (settle-image 0 (bin o a φ) s (omega (arith, build-length (open_table s) a)))

-- a sign after an operand
symbol_bytes : (x : Symbol) → NoLetter (x ∷ []) → Bytes (other_bytes x)
symbol_bytes (constant true) p = (omega arith, omega arith, (omega arith, omega arith, (omega arith, omega arith, tt)))
symbol_bytes (constant false) p = (omega arith, omega arith, (omega arith, omega arith, (omega arith, omega arith, (omega arith, omega arith, tt))))
symbol_bytes (letter n) p = absurd p
symbol_bytes (prefix next) p = tt
symbol_bytes (prefix neg) p = tt
symbol_bytes (prefix finally) p = tt
symbol_bytes (prefix globally) p = tt
symbol_bytes (operator conj) p = tt
symbol_bytes (operator disj) p = tt
symbol_bytes (operator until) p = tt
symbol_bytes (operator weak) p = tt
symbol_bytes (operator release) p = tt
symbol_bytes (operator strong) p = tt
symbol_bytes (operator implies) p = (omega arith, omega arith, tt)
symbol_bytes open_bracket p = tt
symbol_bytes close_bracket p = tt

follow_symbol : (x : Symbol) → NoLetter (x ∷ []) → (φ : Formula) (s : List Open) → length (build (open_table s) φ).table < 16384
    → ConfigImage (packed (other_bytes x)) (shift (ended φ s) x) (follow_ended (signed (begins x)) (ended_image φ s))
unfolding follow_words
follow_symbol (constant b) p φ s h = refl
follow_symbol (letter n) p φ s h = absurd p
follow_symbol (prefix o) p φ s h = refl
follow_symbol (operator o) p φ s h = join-image o (packed (other_bytes (operator o))) φ s h
follow_symbol open_bracket p φ s h = refl
follow_symbol close_bracket p φ s h = close-image φ s (omega (arith, build-length (open_table s) φ))

follow_image : (b : ℕ) (m : Mark) → Known b m → (φ : Formula) (s : List Open) → length (build (open_table s) φ).table < 16384
    → Image (begin (ended φ s) m) (follow_ended (signed m) (ended_image φ s))
unfolding follow_words
follow_image b blank k φ s h = ((refl, omega (arith, build-length (open_table s) φ)), tt)
follow_image b (begins x) k φ s h = (follow_symbol x k.1 φ s h, symbol_bytes x k.1)
follow_image b begins_letter k φ s h = (refl, tt)
follow_image b unknown k φ s h = (refl, tt)

-- a sign where an operand is to begin
begin-symbol : (x : Symbol) → NoLetter (x ∷ []) → (s : List Open) → length (open_table s) < 16384
    → ConfigImage (packed (other_bytes x)) (shift (operand s) x) (begin_words (signed (begins x)) (open_stack s) (open_table s))
unfolding begin_words
begin-symbol (constant b) p s h = rw (← build-const (open_table s) b) (settle-image (packed (other_bytes (constant b))) (const b) s h)
begin-symbol (letter n) p s h = absurd p
begin-symbol (prefix next) p s h = (refl, h)
begin-symbol (prefix neg) p s h = (refl, h)
begin-symbol (prefix finally) p s h = (refl, h)
begin-symbol (prefix globally) p s h = (refl, h)
begin-symbol (operator o) p s h = refl
begin-symbol open_bracket p s h = (refl, h)
begin-symbol close_bracket p s h = refl

begin-image : (b : ℕ) (m : Mark) → Known b m → (s : List Open) → length (open_table s) < 16384 → Image (begin (operand s) m) (begin_words (signed m) (open_stack s) (open_table s))
unfolding begin_words
begin-image b blank k s h = ((refl, h), tt)
begin-image b (begins x) k s h = (begin-symbol x k.1 s h, symbol_bytes x k.1)
begin-image b begins_letter k s h = (refl, h)
begin-image b unknown k s h = (refl, tt)

-- where no rule can come of it any more
stuck-image : (b : ℕ) (m : Mark) → Known b m → (y : Words) → y.turn ≡ turns.Stuck → Image (begin stuck m) y
stuck-image b blank k y e = (e, tt)
stuck-image b (begins x) k y e = (e, symbol_bytes x k.1)
stuck-image b begins_letter k y e = (e, tt)
stuck-image b unknown k y e = (e, tt)

-- a byte that ends a letter
letter_end : (n b : ℕ) (s : List Open) → length (open_stack s) + length (open_table s) < 16383
    → Image (begin (settle (lit true n) s) (mark_of b)) (follow_ended (signed (mark_of b)) (settle_words (open_stack s) (put (open_table s) (pack 3 0 n))))
letter_end n b s h =
    let q = settled (lit true n) s (omega arith) in
    let e = ap (settle_words (open_stack s)) (sym (build-lit (open_table s) true n)) ∙ q.words_are in
    let l = ap (λ (x : Ended). length x.stack + length x.placed.table) e in
    rw (q.is, e) (follow_image b (mark_of b) (mark_known b) q.formula q.rest (omega (arith, l, put-size (open_stack s) (open_table s) (pack 3 0 n))))

letter-image : (n b : ℕ) (s : List Open) → length (open_stack s) + length (open_table s) < 16383
    → Image (step (lettered n s) b) (letter_words n b (open_stack s) (open_table s))
unfolding step letter_words digit_words
letter-image n b s h = by_digit (is_digit b)
  where
    m : ℕ
    m = 10 * n + (b - 48)

    by_range : (t : Bool) → Image (cond t (lettered m s) dead) (cond t (words 0 (turns.Letter m) (open_stack s) (open_table s)) (stuck_words (open_stack s) (open_table s)))
    by_range true = (refl, omega arith)
    by_range false = (refl, tt)

    by_end : (k : ℕ) → Image (begin (of_letter k s) (mark_of b))
        (cond (eqb k 0) (stuck_words (open_stack s) (open_table s)) (follow_ended (signed (mark_of b)) (settle_words (open_stack s) (put (open_table s) (pack 3 0 k)))))
    by_end zero = stuck-image b (mark_of b) (mark_known b) (stuck_words (open_stack s) (open_table s)) refl
    by_end (suc k) = rw (ne_eqb (suc k) 0 (λ e. omega arith)) (letter_end (suc k) b s h)

    by_digit : (t : Bool) → Image (cond t (grown m s) (begin (of_letter n s) (mark_of b)))
        (cond t (digit_words m (open_stack s) (open_table s)) (cond (eqb n 0) (stuck_words (open_stack s) (open_table s)) (follow_ended (signed (mark_of b)) (settle_words (open_stack s) (put (open_table s) (pack 3 0 n))))))
    by_digit true = by_range (leb 1 m && leb m 32)
    by_digit false = by_end n

-- a byte of a symbol that is being spelled
inside-byte : (l k : ℕ) (c : Config) (y : Words) → ConfigImage l c y → ConfigImage k c (words k y.turn y.stack y.table)
inside-byte l k (operand s) y h = (ap (λ (v : Words). words k v.turn v.stack v.table) h.0, h.1)
inside-byte l k (ended φ s) y h = (ap (λ (v : Words). words k v.turn v.stack v.table) h.0, h.1)
inside-byte l k stuck y h = h

left_is : (l : ℕ) (c : Config) (y : Words) → going c ≡ true → ConfigImage l c y → y.left ≡ l
left_is l (operand s) y e h = ap (λ (v : Words). v.left) h.0
left_is l (ended φ s) y e h = ap (λ (v : Words). v.left) h.0
left_is l stuck y e h = absurd (true≢false (sym e))

inside-image : (z : ℕ) (zs : List ℕ) (c : Config) (y : Words) (b : ℕ) → going c ≡ true → Image (inside (z ∷ zs) c) y → Image (step (inside (z ∷ zs) c) b) (step_words y b)
unfolding step step_words
inside-image z zs c y b e i =
    let l = left_is (packed (z ∷ zs)) c y e i.0 in
    let r : y.left % 256 ≡ z = omega (arith, i.1.1) in
    let q : y.left / 256 ≡ packed zs = omega (arith, i.1.1) in
    rw (ne_eqb y.left 0 (λ f. omega (arith, i.1.0)), r, q) (by_byte (eqb b z) refl)
  where
    by_byte : (t : Bool) → eqb b z ≡ t → Image (cond t (inside zs c) dead) (cond (eqb z b) (words (packed zs) y.turn y.stack y.table) (stuck_words y.stack y.table))
    by_byte true f = rw (eq-eqb z b (sym (eqb→eq b z (rw f tt)))) (inside-byte (packed (z ∷ zs)) (packed zs) c y i.0, i.1.2)
    by_byte false f = rw (ne_eqb z b (λ g. eqb-false b z f (sym g))) (refl, tt)

pub step_image : (x : State) (y : Words) (b : ℕ) → alive x ≡ true → size y < 16383 → Image x y → Image (step x b) (step_words y b)
unfolding step step_words
step_image (inside [] (operand s)) y b e h i = rw i.0.0 (begin-image b (mark_of b) (mark_known b) s i.0.1)
step_image (inside [] (ended φ s)) y b e h i = rw i.0.0 (follow_image b (mark_of b) (mark_known b) φ s (omega (arith, ap size i.0.0)))
step_image (inside [] stuck) y b e h i = absurd (true≢false (sym e))
step_image (inside (z ∷ zs) c) y b e h i = inside-image z zs c y b e i
step_image (lettered n s) y b e h i = rw i.0 (letter-image n b s (omega (arith, ap size i.0)))
