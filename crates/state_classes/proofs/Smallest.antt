-- The classes of a word's states, read from its kind and its class byte, are the smallest classes of its formula.
use Prim.Native.Nat.{ℕ, zero, suc, ◌+◌, ◌-◌, ◌/◌, ◌%◌, ◌^◌, ◌≤◌, ◌<◌}
use native.Mathlib.Omega.{arith}
use native.Mathlib.Numerals.{add-one}
use mathlib.Core.Path.{◌≡◌, refl, sym, ap, ap₂, ◌∙◌}
use mathlib.Core.Logic.{◌⊎◌, inl, inr}
use mathlib.Core.Bool.{Bool, true, false, not, ◌&&◌, ◌||◌, cond}
use mathlib.Core.List.{List, [], ◌∷◌, map}
use lib.ListN.{length, get_or}
use lib.Dec.{T, eqb}
use borrow.Author.Tests.{eq-eqb, ne_eqb}
use Rattle.logic.specs.Bit.{bit}
use Rattle.logic.specs.Formula.{Formula, next, neg, finally, globally, conj, disj, until, weak, release, strong, implies}
use Rattle.logic.specs.ClassByte.{in_Σ₁, in_Π₁, in_Σ₂, in_Π₂, tests, test_all, class_byte}
use Rattle.transforms.specs.NormalForm.{keep}
use Rattle.logic.proofs.Hierarchy.Bits.{of_bits-bit}
use Rattle.logic.proofs.Numbers.{lt_or_le}
use Rattle.table.specs.Node.{Shape, none, constant, letter, unary, binary, shape, kind_of}
use Rattle.table.specs.Table.{formula_by}
use Rattle.table.proofs.Shapes.{kind_of-shape}
use Rattle.automata_laws.specs.StateClass.{StateClass, sigma₁, pi₁, sigma₂, pi₂, class_bit, in_class, every, is_smallest, smallest_in}
use Rattle.automata_laws.specs.FormulaAutomaton.{is_proper}
use Rattle.automata_tables.specs.States.{classes_of, state_word}
use Rattle.state_classes.specs.Classes.{is_proper_kind, level_bit, smallest_bits, class_bits, bit_word, own_words}
use Rattle.state_classes.specs.Kept.{offset}

-- a bit of the class byte is the class of the bit
one_is : (b : Bool) → eqb (cond b 1 0) 1 ≡ b
one_is true = refl
one_is false = refl

pub bit-class : (Γ : StateClass) (φ : Formula) → bit (class_byte φ) (class_bit Γ) ≡ in_class Γ φ
unfolding bit class_byte
bit-class sigma₁ φ = ap (λ (n : ℕ). eqb n 1) (of_bits-bit (test_all tests φ) 1) ∙ one_is (in_Σ₁ φ)
bit-class pi₁ φ = ap (λ (n : ℕ). eqb n 1) (of_bits-bit (test_all tests φ) 2) ∙ one_is (in_Π₁ φ)
bit-class sigma₂ φ = ap (λ (n : ℕ). eqb n 1) (of_bits-bit (test_all tests φ) 4) ∙ one_is (in_Σ₂ φ)
bit-class pi₂ φ = ap (λ (n : ℕ). eqb n 1) (of_bits-bit (test_all tests φ) 5) ∙ one_is (in_Π₂ φ)

-- whether a class is smallest, and the smallest ones, by whether the formula is in Sigma-1, Pi-1, Sigma-2, Pi-2
abbrev small : Bool → Bool → Bool → Bool → StateClass → Bool
small a b c d sigma₁ = a && true
small a b c d pi₁ = b && true
small a b c d sigma₂ = c && not (a || (b || false))
small a b c d pi₂ = d && not (a || (b || false))

small_is : (φ : Formula) (Γ : StateClass) → is_smallest φ Γ ≡ small (in_Σ₁ φ) (in_Π₁ φ) (in_Σ₂ φ) (in_Π₂ φ) Γ
small_is φ sigma₁ = refl
small_is φ pi₁ = refl
small_is φ sigma₂ = refl
small_is φ pi₂ = refl

smallest_are : (φ : Formula) → smallest_in every φ ≡ keep (small (in_Σ₁ φ) (in_Π₁ φ) (in_Σ₂ φ) (in_Π₂ φ)) every
unfolding smallest_in
smallest_are φ = refl

-- those of the first level that there are, or else of the second
abbrev levels : Bool → Bool → Bool → Bool → List ℕ
levels a b c d =
    let l : ℕ = cond (a || b) 1 4 in
    let x : Bool = cond (a || b) a c in
    let y : Bool = cond (a || b) b d in
    cond x (l ∷ cond y (suc l ∷ []) []) (cond y (suc l ∷ []) [])

none_with : (b : Bool) → (b && false) ≡ false
none_with true = refl
none_with false = refl

levels_are : (a b c d : Bool) → levels a b c d ≡ map class_bit (keep (small a b c d) every)
levels_are true true c d = rw (none_with c, none_with d)
levels_are true false c d = rw (none_with c, none_with d)
levels_are false true c d = rw (none_with c, none_with d)
levels_are false false true true = refl
levels_are false false true false = refl
levels_are false false false true = refl
levels_are false false false false = refl

bits-levels : (byte : ℕ) → smallest_bits byte ≡ levels (bit byte 1) (bit byte 2) (bit byte 4) (bit byte 5)
unfolding smallest_bits level_bit
bits-levels byte = go (bit byte 1 || bit byte 2)
  where
    go : (b : Bool) → keep (bit byte) (cond b 1 4 ∷ suc (cond b 1 4) ∷ []) ≡ (
        let l : ℕ = cond b 1 4 in
        let x : Bool = cond b (bit byte 1) (bit byte 4) in
        let y : Bool = cond b (bit byte 2) (bit byte 5) in
        cond x (l ∷ cond y (suc l ∷ []) []) (cond y (suc l ∷ []) []))
    go true = refl
    go false = refl

pub smallest_bits_lem : (φ : Formula) → smallest_bits (class_byte φ) ≡ map class_bit (smallest_in every φ)
smallest_bits_lem φ =
    bits-levels (class_byte φ)
    ∙ rw (bit-class sigma₁ φ, bit-class pi₁ φ, bit-class sigma₂ φ, bit-class pi₂ φ) (levels_are (in_Σ₁ φ) (in_Π₁ φ) (in_Σ₂ φ) (in_Π₂ φ))
    ∙ ap (map class_bit) (sym (smallest_are φ))

-- a plain kind is proper exactly where its formulas are
proper-shape : (s : Shape) (n : ℕ) (a b : Formula) → 0 < kind_of s → kind_of s < 12 → is_proper_kind (kind_of s) ≡ is_proper (formula_by s n a b)
unfolding is_proper_kind
proper-shape none n a b l h = absurd (omega arith)
proper-shape (constant true) n a b l h = refl
proper-shape (constant false) n a b l h = refl
proper-shape (letter true) n a b l h = refl
proper-shape (letter false) n a b l h = refl
proper-shape (unary next) n a b l h = refl
proper-shape (unary neg) n a b l h = absurd (omega arith)
proper-shape (unary finally) n a b l h = absurd (omega arith)
proper-shape (unary globally) n a b l h = absurd (omega arith)
proper-shape (binary conj) n a b l h = refl
proper-shape (binary disj) n a b l h = refl
proper-shape (binary until) n a b l h = refl
proper-shape (binary weak) n a b l h = refl
proper-shape (binary release) n a b l h = refl
proper-shape (binary strong) n a b l h = refl
proper-shape (binary implies) n a b l h = absurd (omega arith)

pub proper-kind : (k n : ℕ) (a b : Formula) → 0 < k → k < 12 → is_proper_kind k ≡ is_proper (formula_by (shape k) n a b)
proper-kind k n a b l h =
    let e : kind_of (shape k) ≡ k = kind_of-shape k (omega arith) in
    ap is_proper_kind (sym e) ∙ proper-shape (shape k) n a b (omega (arith, e)) (omega (arith, e))

pub class_bits_lem : (k : ℕ) (φ : Formula) → is_proper_kind k ≡ is_proper φ → class_bits k (class_byte φ) ≡ map class_bit (classes_of φ)
unfolding class_bits
class_bits_lem k φ e = rw (e, smallest_bits_lem φ) (go (is_proper φ))
  where
    go : (b : Bool) → cond b (map class_bit (smallest_in every φ)) [] ≡ map class_bit (cond b (smallest_in every φ) [])
    go true = refl
    go false = refl

-- the word of a state by its class's bit
bit_word_lem : (j : ℕ) (Γ : StateClass) → bit_word j (class_bit Γ) ≡ state_word j Γ
bit_word_lem j sigma₁ = refl
bit_word_lem j pi₁ = refl
bit_word_lem j sigma₂ = refl
bit_word_lem j pi₂ = refl

bit-words : (j : ℕ) (Γs : List StateClass) → map (bit_word j) (map class_bit Γs) ≡ map (state_word j) Γs
bit-words j [] = refl
bit-words j (Γ ∷ Γs) = ap₂ ◌∷◌ (bit_word_lem j Γ) (bit-words j Γs)

pub own_words_lem : (k j : ℕ) (φ : Formula) → is_proper_kind k ≡ is_proper φ → own_words k (class_byte φ) j ≡ map (state_word j) (classes_of φ)
unfolding own_words
own_words_lem k j φ e = rw (class_bits_lem k φ e) (bit-words j (classes_of φ))

-- a digit is its bit
pub digit_is : (x k : ℕ) → x / 2 ^ k % 2 ≡ cond (bit x k) 1 0
unfolding bit
digit_is x k = go (lt_or_le (x / 2 ^ k % 2) 1)
  where
    go : (x / 2 ^ k % 2 < 1) ⊎ (1 ≤ x / 2 ^ k % 2) → x / 2 ^ k % 2 ≡ cond (eqb (x / 2 ^ k % 2) 1) 1 0
    go (inl h) = rw (ne_eqb (x / 2 ^ k % 2) 1 (λ e. omega arith)) (omega arith)
    go (inr h) = rw (eq-eqb (x / 2 ^ k % 2) 1 (omega arith)) (omega arith)

-- how many there are, and each by its place, from the bits of its level
pub level_first : (byte : ℕ) → cond (bit byte 1) 1 0 + cond (bit byte 2) 1 0 ≡ 0 → level_bit byte ≡ 4
unfolding level_bit
level_first byte = go (bit byte 1) (bit byte 2)
  where
    go : (a b : Bool) → cond a 1 0 + cond b 1 0 ≡ 0 → ◌≡◌ {A = ℕ} (cond (a || b) 1 4) 4
    go true b e = absurd (omega arith)
    go false true e = absurd (omega arith)
    go false false e = refl

pub level-second : (byte : ℕ) → (cond (bit byte 1) 1 0 + cond (bit byte 2) 1 0 ≡ 0 → ⊥) → level_bit byte ≡ 1
unfolding level_bit
level-second byte = go (bit byte 1) (bit byte 2)
  where
    go : (a b : Bool) → (cond a 1 0 + cond b 1 0 ≡ 0 → ⊥) → ◌≡◌ {A = ℕ} (cond (a || b) 1 4) 1
    go true b e = refl
    go false true e = refl
    go false false e = absurd (e refl)

pub level_small : (byte : ℕ) → level_bit byte ≤ 4
unfolding level_bit
level_small byte = go (bit byte 1 || bit byte 2)
  where
    go : (b : Bool) → cond b 1 4 ≤ 4
    go true = omega arith
    go false = omega arith

bits-count : (byte : ℕ) → cond (bit byte (level_bit byte)) 1 0 + cond (bit byte (suc (level_bit byte))) 1 0 ≡ length (smallest_bits byte)
unfolding smallest_bits
bits-count byte = go (bit byte (level_bit byte)) (bit byte (suc (level_bit byte))) (level_bit byte)
  where
    go : (a b : Bool) (l : ℕ) → cond a 1 0 + cond b 1 0 ≡ length (cond a (l ∷ cond b (suc l ∷ []) []) (cond b (suc l ∷ []) []))
    go true true l = refl
    go true false l = refl
    go false true l = refl
    go false false l = refl

bits_at : (byte k : ℕ) → k < length (smallest_bits byte) → level_bit byte + k + 1 - cond (bit byte (level_bit byte)) 1 0 ≡ get_or (smallest_bits byte) k 0
unfolding smallest_bits
bits_at byte k = go (bit byte (level_bit byte)) (bit byte (suc (level_bit byte))) (level_bit byte) k
  where
    go : (a b : Bool) (l k : ℕ) → k < length (cond a (l ∷ cond b (suc l ∷ []) []) (cond b (suc l ∷ []) []))
        → l + k + 1 - cond a 1 0 ≡ get_or (cond a (l ∷ cond b (suc l ∷ []) []) (cond b (suc l ∷ []) [])) k 0
    go true b l zero h = omega arith
    go true true l (suc zero) h = omega arith
    go true true l (suc (suc k)) h = absurd (omega arith)
    go true false l (suc k) h = absurd (omega arith)
    go false true l zero h = omega arith
    go false true l (suc k) h = absurd (omega arith)
    go false false l k h = absurd (omega arith)

-- at most two, each below 8
pub one_digit : (b : Bool) → cond b 1 0 ≤ 1
one_digit true = omega arith
one_digit false = omega arith

pub smallest-few : (byte : ℕ) → length (smallest_bits byte) ≤ 2
smallest-few byte = omega (arith, bits-count byte, one_digit (bit byte (level_bit byte)), one_digit (bit byte (suc (level_bit byte))))

pub smallest_small : (byte k : ℕ) → k < length (smallest_bits byte) → get_or (smallest_bits byte) k 0 < 8
smallest_small byte k h = omega (arith, bits_at byte k h, level_small byte, smallest-few byte)

pub bits-few : (k byte : ℕ) → length (class_bits k byte) ≤ 2
unfolding class_bits
bits-few k byte = go (is_proper_kind k)
  where
    go : (b : Bool) → length (cond b (smallest_bits byte) []) ≤ 2
    go true = smallest-few byte
    go false = omega arith

-- where there is one, they are those of the byte
pub bits-proper : (k byte i : ℕ) → i < length (class_bits k byte) → class_bits k byte ≡ smallest_bits byte
unfolding class_bits
bits-proper k byte i = go (is_proper_kind k)
  where
    go : (b : Bool) → i < length (cond b (smallest_bits byte) []) → cond b (smallest_bits byte) [] ≡ smallest_bits byte
    go true h = refl
    go false h = absurd (omega arith)

-- as they are read
module _ (byte : ℕ) {l d : ℕ} (e : l ≡ level_bit byte) (f : d ≡ cond (bit byte l) 1 0) where
  first : cond (bit byte (level_bit byte)) 1 0 ≡ d
  first = ap (λ (x : ℕ). cond (bit byte x) 1 0) (sym e) ∙ sym f

  pub read_at : (k : ℕ) → k < length (smallest_bits byte) → l + k + 1 - d ≡ get_or (smallest_bits byte) k 0
  read_at k h = rw (e, ← first) (bits_at byte k h)

  pub read_count : (k : ℕ) {c : ℕ} → is_proper_kind k ≡ true → c ≡ cond (bit byte (l + 1)) 1 0 → d + c ≡ length (class_bits k byte)
  unfolding class_bits
  read_count k {c} p g =
      let second : cond (bit byte (suc (level_bit byte))) 1 0 ≡ c = rw (← e, ← add-one l) (sym g) in
      rw p (rw (first, second) at (bits-count byte))

pub read_none : (k byte : ℕ) → is_proper_kind k ≡ false → 0 ≡ length (class_bits k byte)
unfolding class_bits
read_none k byte p = rw p

-- the place of a class among the smallest ones
pub record Place (φ : Formula) (Γ : StateClass) : Type 0 where
  pub place : ℕ
  pub inside : place < length (classes_of φ)
  pub there : get_or (classes_of φ) place sigma₁ ≡ Γ
  pub next : suc place ≡ offset Γ (class_byte φ)

abbrev after : Bool → Bool → StateClass → ℕ
after a c sigma₁ = 1
after a c pi₁ = cond a 2 1
after a c sigma₂ = 1
after a c pi₂ = cond c 2 1

placed : (Γ : StateClass) (a b c d : Bool) → T (small a b c d Γ)
    → (k : ℕ) × (k < length (keep (small a b c d) every)) × (get_or (keep (small a b c d) every) k sigma₁ ≡ Γ) × (suc k ≡ after a c Γ)
placed sigma₁ true b c d t = (0, omega arith, refl, refl)
placed sigma₁ false b c d t = absurd t
placed pi₁ true true c d t = (1, omega arith, refl, refl)
placed pi₁ false true c d t = (0, omega arith, refl, refl)
placed pi₁ a false c d t = absurd t
placed sigma₂ true b true d t = absurd t
placed sigma₂ true b false d t = absurd t
placed sigma₂ false true true d t = absurd t
placed sigma₂ false true false d t = absurd t
placed sigma₂ false false true d t = (0, omega arith, refl, refl)
placed sigma₂ false false false d t = absurd t
placed pi₂ true b c true t = absurd t
placed pi₂ true b c false t = absurd t
placed pi₂ false true c true t = absurd t
placed pi₂ false true c false t = absurd t
placed pi₂ false false true true t = (1, omega arith, refl, refl)
placed pi₂ false false false true t = (0, omega arith, refl, refl)
placed pi₂ false false c false t = absurd t

offset_after : (φ : Formula) (Γ : StateClass) → offset Γ (class_byte φ) ≡ after (in_Σ₁ φ) (in_Σ₂ φ) Γ
offset_after φ sigma₁ = refl
offset_after φ pi₁ = ap (λ (b : Bool). cond b 2 1) (bit-class sigma₁ φ)
offset_after φ sigma₂ = refl
offset_after φ pi₂ = ap (λ (b : Bool). cond b 2 1) (bit-class sigma₂ φ)

pub class-place : (φ : Formula) (Γ : StateClass) → T (is_proper φ) → T (is_smallest φ Γ) → Place φ Γ
class-place φ Γ p t =
    let k = placed Γ (in_Σ₁ φ) (in_Π₁ φ) (in_Σ₂ φ) (in_Π₂ φ) (rw (small_is φ Γ) at t) in
    let e : classes_of φ ≡ keep (small (in_Σ₁ φ) (in_Π₁ φ) (in_Σ₂ φ) (in_Π₂ φ)) every = go (is_proper φ) p in
    record { place = k.0; inside = rw e k.1; there = rw e k.2; next = k.3 ∙ sym (offset_after φ Γ) }
  where
    go : (b : Bool) → T b → cond b (smallest_in every φ) [] ≡ keep (small (in_Σ₁ φ) (in_Π₁ φ) (in_Σ₂ φ) (in_Π₂ φ)) every
    go true x = smallest_are φ
    go false x = absurd x
