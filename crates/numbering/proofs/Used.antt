-- In the table of a formula every word but the formula's own, which is the last, is an operand of another.
use Prim.Native.Nat.{ℕ, zero, suc, ◌≤◌, ◌<◌}
use native.Mathlib.Nat.{not-suc-le-zero}
use native.Mathlib.Omega.{arith}
use mathlib.Core.Path.{◌≡◌, refl, sym, ap, ◌∙◌, subst}
use mathlib.Core.Logic.{◌⊎◌, inl, inr}
use mathlib.Core.Bool.{Bool, true, false, ◌&&◌, ◌||◌, or-true, false≢true}
use mathlib.Core.List.{List, [], ◌∷◌, ◌++◌}
use lib.ListN.{length, get_or, length-append}
use lib.Dec.{eqb}
use borrow.Author.Tests.{eqb-true, eqb-false, eq-eqb}
use Rattle.logic.specs.Formula.{Formula, Unary, Binary, const, lit, un, bin}
use Rattle.logic.proofs.Numbers.{lt_or_le}
use Rattle.table.specs.Node.{left, right, pack, unary_kind, binary_kind}
use Rattle.table.specs.Checks.{is_operand, holds_left, holds_right, uses, used}
use Rattle.table.specs.Table.{rule}
use Rattle.table.specs.Numbering.{put, build, table_of}
use Rattle.table.proofs.Fields.{left_pack, right_pack}
use Rattle.table.proofs.Shapes.{shape_unary_word, shape_binary_word}
use Rattle.table.proofs.Accepted.{uses-used}
use Rattle.numbering.specs.Held.{Word, Held}
use Rattle.logic.specs.Letters.{Letters}
use Rattle.numbering.proofs.Search.{Put, again, fresh, put_cases}
use Rattle.numbering.proofs.Building.{Grows, grows-length, put-grows, put_word, build-grows, build_held, build-un, build-bin, build-const, build-lit, build-length, held_within}
use Rattle.numbering.proofs.Formulas.{Ordered, held_formula}
use Rattle.numbering.proofs.Built.{table_of-ordered}

-- the operands of the operators' words
uses-unary : (o : Unary) (m : ℕ) → m < 16384 → uses m (pack (unary_kind o) 0 m) ≡ true
unfolding uses
uses-unary o m h = rw (shape_unary_word o m h, right_pack (unary_kind o) 0 m h) (eq-eqb m m refl)

module _ (o : Binary) (l r : ℕ) (hl : l < 16384) (hr : r < 16384) where
  uses_left : uses l (pack (binary_kind o) l r) ≡ true
  unfolding uses
  uses_left = rw (shape_binary_word o l r hl hr, left_pack (binary_kind o) l r hl hr, eq-eqb l l refl)

  uses_right : uses r (pack (binary_kind o) l r) ≡ true
  unfolding uses
  uses_right = rw (shape_binary_word o l r hl hr, right_pack (binary_kind o) l r hr, eq-eqb r r refl) (or-true (eqb (left (pack (binary_kind o) l r)) r))

-- a word of a table uses what it uses
used-word : (n : ℕ) (t : List ℕ) (m w : ℕ) → Word t m w → uses n w ≡ true → used n t ≡ true
used-word n t zero w h e = absurd (not-suc-le-zero h.positive)
used-word n t (suc i) w h e = uses-used n t i h.within (ap (uses n) h.is ∙ e)

pub used_by : (n : ℕ) (t : List ℕ) → used n t ≡ true → (i : ℕ) × (i < length t) × (uses n (get_or t i 0) ≡ true)
unfolding used
used_by n [] e = absurd (false≢true e)
used_by n (w ∷ t) e = go (uses n w) refl (used_by n t)
  where
    go : (b : Bool) → uses n w ≡ b → (used n t ≡ true → (i : ℕ) × (i < length t) × (uses n (get_or t i 0) ≡ true)) → (i : ℕ) × (i < suc (length t)) × (uses n (get_or (w ∷ t) i 0) ≡ true)
    go true c rec = (0, omega arith, c)
    go false c rec = let r = rec (rw c at e) in (suc r.0, omega (arith, r.1), r.2)

used-append : (n : ℕ) (t u : List ℕ) → used n t ≡ true → used n (t ++ u) ≡ true
unfolding used
used-append n [] u e = absurd (false≢true e)
used-append n (w ∷ t) u e = go (uses n w) refl (used-append n t u)
  where
    go : (b : Bool) → uses n w ≡ b → (used n t ≡ true → used n (t ++ u) ≡ true) → uses n w || used n (t ++ u) ≡ true
    go true c rec = rw c
    go false c rec = rw c (rec (rw c at e))

used_grows : (n : ℕ) {t s : List ℕ} → Grows t s → used n t ≡ true → used n s ≡ true
used_grows n {t} {s} g e = rw g.is (used-append n t g.rest e)

-- in an ordered table a word is used only by later ones
pub either : (a b c d : Bool) → a && b || c && d ≡ true → ((a ≡ true) × (b ≡ true)) ⊎ ((c ≡ true) × (d ≡ true))
either true true c d e = inl (refl, refl)
either true false true true e = inr (refl, refl)
either true false true false e = absurd (false≢true e)
either true false false d e = absurd (false≢true e)
either false b true true e = inr (refl, refl)
either false b true false e = absurd (false≢true e)
either false b false d e = absurd (false≢true e)

uses-earlier : (t : List ℕ) → Ordered t → (i n : ℕ) → i < length t → uses n (get_or t i 0) ≡ true → n ≤ i
unfolding uses
uses-earlier t o i n h e = go (either (is_operand (holds_left w)) (eqb (left w) n) (is_operand (holds_right w)) (eqb (right w) n) e)
  where
    w : ℕ
    w = get_or t i 0

    go : ((is_operand (holds_left w) ≡ true) × (eqb (left w) n ≡ true)) ⊎ ((is_operand (holds_right w) ≡ true) × (eqb (right w) n ≡ true)) → n ≤ i
    go (inl f) = omega (arith, eqb-true (left w) n f.1, o.left_earlier i h f.0)
    go (inr f) = omega (arith, eqb-true (right w) n f.1, o.right_earlier i h f.0)

-- a number that is not the one answered was there before the word was put
put-old : (t : List ℕ) (w n : ℕ) → n ≤ length (put t w).table → (n ≡ (put t w).number → ⊥) → n ≤ length t
put-old t w n h f = go (put_cases t w)
  where
    go : Put t w → n ≤ length t
    go (again i e p) = rw p at h
    go (fresh e p) = let k : n ≤ length (t ++ (w ∷ [])) = rw p at h in let g : n ≡ suc (length t) → ⊥ = (rw p at f) in omega (arith, length-append t (w ∷ []), g)

-- what a word that is put uses is used, and what was used before still is
put-used : (s : List ℕ) (w m n : ℕ) → uses m w ≡ true → ((n ≡ m → ⊥) → used n s ≡ true) → used n (put s w).table ≡ true
put-used s w m n u before = go (eqb n m) refl
  where
    go : (b : Bool) → eqb n m ≡ b → used n (put s w).table ≡ true
    go true e = rw (eqb-true n m e) (used-word m (put s w).table (put s w).number w (put_word s w) u)
    go false e = used_grows n (put-grows s w) (before (eqb-false n m e))

-- every new word but the formula's own is used
pub build-used : (t : List ℕ) (φ : Formula) → length (build t φ).table < 16384
    → (n : ℕ) → length t < n → n ≤ length (build t φ).table → (n ≡ (build t φ).number → ⊥) → used n (build t φ).table ≡ true
build-used t (const b) k n g h f = absurd (omega (arith, put-old t _ n (rw build-const at h) (rw build-const at f)))
build-used t (lit b p) k n g h f = absurd (omega (arith, put-old t _ n (rw build-lit at h) (rw build-lit at f)))
build-used t (un o a) k n g h f =
    rw build-un (put-used s w m n (uses-unary o m small) (build-used t a (omega (arith, grows-length (put-grows s w), short)) n g old))
  where
    s : List ℕ
    s = (build t a).table

    m : ℕ
    m = (build t a).number

    w : ℕ
    w = pack (unary_kind o) 0 m

    short : length (put s w).table < 16384
    short = rw build-un at k

    small : m < 16384
    small = omega (arith, held_within s a m (build_held t a), grows-length (put-grows s w), short)

    old : n ≤ length s
    old = put-old s w n (rw build-un at h) (rw build-un at f)
build-used t (bin o a b) k n g h f =
    rw build-bin
    (go (lt_or_le (length s) n)
    (build-used t a (omega (arith, build-length s b, grows-length (put-grows q w), short)) n g)
    (build-used s b (omega (arith, grows-length (put-grows q w), short)) n))
  where
    s : List ℕ
    s = (build t a).table

    q : List ℕ
    q = (build s b).table

    l : ℕ
    l = (build t a).number

    r : ℕ
    r = (build s b).number

    w : ℕ
    w = pack (binary_kind o) l r

    short : length (put q w).table < 16384
    short = rw build-bin at k

    old : n ≤ length q
    old = put-old q w n (rw build-bin at h) (rw build-bin at f)

    hl : l < 16384
    hl = omega (arith, held_within s a l (build_held t a), build-length s b, grows-length (put-grows q w), short)

    hr : r < 16384
    hr = omega (arith, held_within q b r (build_held s b), grows-length (put-grows q w), short)

    go : (length s < n) ⊎ (n ≤ length s) → (n ≤ length s → (n ≡ l → ⊥) → used n s ≡ true) → (length s < n → n ≤ length q → (n ≡ r → ⊥) → used n q ≡ true)
        → used n (put q w).table ≡ true
    go (inl e) left right = put-used q w r n (uses_right o l r hl hr) (right e old)
    go (inr e) left right = put-used q w l n (uses_left o l r hl hr) (λ d. used_grows n (build-grows s b) (left e d))

-- the formula's own word is the last
pub number_last : (φ : Formula) → Letters (λ p. p < 16384) φ → length (table_of φ) < 16384 → (build [] φ).number ≡ length (table_of φ)
unfolding table_of
number_last φ s k = go (eqb n m) refl
  where
    t : List ℕ
    t = (build [] φ).table

    m : ℕ
    m = (build [] φ).number

    n : ℕ
    n = length t

    here : (0 < m) × (m ≤ n)
    here = held_within t φ m (build_held [] φ)

    go : (b : Bool) → eqb n m ≡ b → m ≡ n
    go true e = sym (eqb-true n m e)
    go false e =
        let u = used_by n t (build-used [] φ k n (omega (arith, here)) (omega arith) (eqb-false n m e)) in
        absurd (omega (arith, u.1, uses-earlier t (table_of-ordered φ s k) u.0 n u.1 u.2))

-- every other word is used
pub table_of-used : (φ : Formula) → Letters (λ p. p < 16384) φ → length (table_of φ) < 16384 → (n : ℕ) → 0 < n → n < length (table_of φ) → used n (table_of φ) ≡ true
unfolding table_of
table_of-used φ s k n g h = build-used [] φ k n g (omega arith) (λ e. omega (arith, number_last φ s k))

pub table_of_held : (φ : Formula) → Letters (λ p. p < 16384) φ → length (table_of φ) < 16384 → Held (table_of φ) φ (length (table_of φ))
unfolding table_of
table_of_held φ s k = subst (Held (build [] φ).table φ) (number_last φ s k) (build_held [] φ)

-- the rule of a formula's table is the formula
pub rule-table_of : (φ : Formula) → Letters (λ p. p < 16384) φ → length (table_of φ) < 16384 → rule (table_of φ) ≡ φ
unfolding rule
rule-table_of φ s k = held_formula (table_of φ) (table_of-ordered φ s k) k φ (length (table_of φ)) s (table_of_held φ s k)
