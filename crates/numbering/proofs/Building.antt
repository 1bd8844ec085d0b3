-- Putting a formula's words: the table only grows, holds the formula then, and stays as it is where it holds the formula already.
use Prim.Native.Nat.{ℕ, zero, suc, ◌≤◌, ◌<◌}
use native.Mathlib.Nat.{not-suc-le-zero}
use native.Mathlib.Omega.{arith}
use mathlib.Core.Path.{◌≡◌, refl, sym, ap, ◌∙◌, subst}
use mathlib.Core.Bool.{Bool}
use mathlib.Core.List.{List, [], ◌∷◌, ◌++◌, append_assoc, append-nil}
use lib.ListN.{length, length-append, get_or-append}
use lib.Seq.{get_or-append_seam}
use Rattle.logic.specs.Formula.{Formula, Unary, Binary, const, lit, un, bin}
use Rattle.table.specs.Node.{pack, unary_kind, binary_kind}
use Rattle.table.specs.Numbering.{Placed, put, build, table_of, constant_word, literal_word}
use Rattle.numbering.specs.Held.{Distinct, Word, Held}
use Rattle.numbering.proofs.Search.{Put, again, fresh, put_cases, put_held, find-word, distinct_snoc, distinct_nil}

-- the clauses of `build`
pub build-const : (t : List ℕ) (b : Bool) → build t (const b) ≡ put t (constant_word b)
unfolding build
build-const t b = refl

pub build-lit : (t : List ℕ) (b : Bool) (p : ℕ) → build t (lit b p) ≡ put t (literal_word b p)
unfolding build
build-lit t b p = refl

pub build-un : (t : List ℕ) (o : Unary) (a : Formula) → build t (un o a) ≡ put (build t a).table (pack (unary_kind o) 0 (build t a).number)
unfolding build
build-un t o a = refl

pub build-bin : (t : List ℕ) (o : Binary) (a b : Formula)
    → build t (bin o a b) ≡ put (build (build t a).table b).table (pack (binary_kind o) (build t a).number (build (build t a).table b).number)
unfolding build
build-bin t o a b = refl

-- what a table holds, a longer one holds at the same number
pub word_more : {t : List ℕ} (u : List ℕ) {n w : ℕ} → Word t n w → Word (t ++ u) n w
word_more {t} u {n = zero} r = absurd (not-suc-le-zero r.positive)
word_more {t} u {n = suc i} r = record {
  positive = r.positive;
  within = rw (length-append t u) (omega (arith, r.within));
  is = get_or-append t u 0 i r.within ∙ r.is;
}

pub held_more : (t u : List ℕ) (φ : Formula) (n : ℕ) → Held t φ n → Held (t ++ u) φ n
held_more t u (const b) n h = word_more u h
held_more t u (lit b p) n h = word_more u h
held_more t u (un o a) n h = (h.0, held_more t u a h.0 h.1, word_more u h.2)
held_more t u (bin o a b) n h = (h.0, h.1, held_more t u a h.0 h.2, held_more t u b h.1 h.3, word_more u h.4)

pub held_within : (t : List ℕ) (φ : Formula) (n : ℕ) → Held t φ n → (0 < n) × (n ≤ length t)
held_within t (const b) n h = (h.positive, h.within)
held_within t (lit b p) n h = (h.positive, h.within)
held_within t (un o a) n h = (h.2.positive, h.2.within)
held_within t (bin o a b) n h = (h.4.positive, h.4.within)

-- a table that starts with another, and goes on with the rest
pub record Grows (t s : List ℕ) : Type 0 where
  pub rest : List ℕ
  pub is : s ≡ t ++ rest

pub grows-refl : (t : List ℕ) → Grows t t
grows-refl t = record { rest = []; is = sym (append-nil t) }

pub grows_trans : {t s r : List ℕ} → Grows t s → Grows s r → Grows t r
grows_trans {t} {s} {r} g h = record { rest = g.rest ++ h.rest; is = h.is ∙ ap (λ (l : List ℕ). l ++ h.rest) g.is ∙ append_assoc t g.rest h.rest }

pub grows-length : {t s : List ℕ} → Grows t s → length t ≤ length s
grows-length {t} {s} g = rw (g.is, length-append) (omega arith)

pub held_grows : {t s : List ℕ} (φ : Formula) (n : ℕ) → Grows t s → Held t φ n → Held s φ n
held_grows {t} {s} φ n g h = rw g.is (held_more t g.rest φ n h)

-- putting a word
pub put-grows : (t : List ℕ) (w : ℕ) → Grows t (put t w).table
put-grows t w = go (put_cases t w)
  where
    go : Put t w → Grows t (put t w).table
    go (again i f e) = rw e (grows-refl t)
    go (fresh f e) = rw e (record { rest = w ∷ []; is = refl })

pub put_word : (t : List ℕ) (w : ℕ) → Word (put t w).table (put t w).number w
put_word t w = go (put_cases t w)
  where
    go : Put t w → Word (put t w).table (put t w).number w
    go (again i f e) = rw e (find-word t w i f)
    go (fresh f e) = rw e (record { positive = omega arith; within = rw length-append (omega arith); is = get_or-append_seam t w [] 0 })

pub put-distinct : (t : List ℕ) (w : ℕ) → Distinct t → Distinct (put t w).table
put-distinct t w d = go (put_cases t w)
  where
    go : Put t w → Distinct (put t w).table
    go (again i f e) = rw e d
    go (fresh f e) = rw e (distinct_snoc t w d f)

-- putting the words of a formula
pub build-grows : (t : List ℕ) (φ : Formula) → Grows t (build t φ).table
build-grows t (const b) = rw build-const (put-grows t (constant_word b))
build-grows t (lit b p) = rw build-lit (put-grows t (literal_word b p))
build-grows t (un o a) = rw build-un (grows_trans (build-grows t a) (put-grows _ _))
build-grows t (bin o a b) = rw build-bin (grows_trans (build-grows t a) (grows_trans (build-grows (build t a).table b) (put-grows _ _)))

pub build-length : (t : List ℕ) (φ : Formula) → length t ≤ length (build t φ).table
build-length t φ = grows-length (build-grows t φ)

pub build-distinct : (t : List ℕ) (φ : Formula) → Distinct t → Distinct (build t φ).table
build-distinct t (const b) d = rw build-const (put-distinct t (constant_word b) d)
build-distinct t (lit b p) d = rw build-lit (put-distinct t (literal_word b p) d)
build-distinct t (un o a) d = rw build-un (put-distinct _ _ (build-distinct t a d))
build-distinct t (bin o a b) d = rw build-bin (put-distinct _ _ (build-distinct (build t a).table b (build-distinct t a d)))

-- a formula is held at the number that is answered
held_along : {x y : Placed} (φ : Formula) → x ≡ y → Held y.table φ y.number → Held x.table φ x.number
held_along {x} {y} φ e h = subst (λ (b : Placed). Held b.table φ b.number) (sym e) h

pub build_held : (t : List ℕ) (φ : Formula) → Held (build t φ).table φ (build t φ).number
build_held t (const b) = rw build-const (put_word t (constant_word b))
build_held t (lit b p) = rw build-lit (put_word t (literal_word b p))
build_held t (un o a) =
    held_along (un o a) (build-un t o a) ((build t a).number, held_grows a _ (put-grows _ _) (build_held t a), put_word _ _)
build_held t (bin o a b) =
    held_along (bin o a b) (build-bin t o a b) (
      (build t a).number,
      (build (build t a).table b).number,
      held_grows a _ (grows_trans (build-grows (build t a).table b) (put-grows _ _)) (build_held t a),
      held_grows b _ (put-grows _ _) (build_held (build t a).table b),
      put_word _ _,
    )

-- a formula that is held already adds nothing, and is answered by its number
pub held_build : (t : List ℕ) (φ : Formula) (n : ℕ) → Distinct t → Held t φ n → build t φ ≡ record { table = t; number = n }
held_build t (const b) n d h = build-const t b ∙ put_held t _ d n h
held_build t (lit b p) n d h = build-lit t b p ∙ put_held t _ d n h
held_build t (un o a) n d h = build-un t o a ∙ rw (held_build t a h.0 d h.1) (put_held t _ d n h.2)
held_build t (bin o a b) n d h =
    build-bin t o a b ∙ rw (held_build t a h.0 d h.2, held_build t b h.1 d h.3) (put_held t _ d n h.4)

-- the table of a formula is of words that are apart, and is not empty
pub table_of-distinct : (φ : Formula) → Distinct (table_of φ)
unfolding table_of
table_of-distinct φ = build-distinct [] φ distinct_nil

pub table_of_long : (φ : Formula) → 0 < length (table_of φ)
unfolding table_of
table_of_long φ = let h = held_within (build [] φ).table φ (build [] φ).number (build_held [] φ) in omega (arith, h.0, h.1)
