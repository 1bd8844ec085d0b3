-- The formulas of a table's words: as many as words, each by its word and the formulas before it; and what the words of the operators stand for.
use Prim.Native.Nat.{ℕ, zero, suc, ◌+◌, ◌<◌, ◌≤◌}
use mathlib.Core.Path.{◌≡◌, refl, ap, ap₂, sym, ◌∙◌}
use mathlib.Core.Bool.{Bool, true, false, cond}
use mathlib.Core.List.{List, [], ◌∷◌, ◌++◌}
use native.Mathlib.Omega.{arith}
use native.Mathlib.Nat.{add-zero, zero-add}
use lib.ListN.{length, get_or, take, length-append}
use lib.Seq.{take_all, take-append_seam, take-suc, take-take, get_or-take, get_or_at, length-take-le}
use Rattle.logic.specs.Formula.{Formula, Unary, Binary, const, lit, un, bin}
use Rattle.table.specs.Node.{Shape, none, constant, letter, unary, binary, kind, left, right, shape, left_field, right_field, pack, unary_kind, binary_kind}
use Rattle.table.specs.Table.{formula_of, formula_by, word_formula, formulas_after, formulas}
use Rattle.table.specs.Checks.{is_operand, holds_left, holds_right}
use Rattle.table.specs.Numbering.{constant_word, literal_word}
use Rattle.table.proofs.Fields.{left_pack, right_pack}
use Rattle.table.proofs.Shapes.{shape-constant_word, shape-literal_word, shape_unary_word, shape_binary_word}

pub formulas_after-append : (φs : List Formula) (t u : List ℕ) → formulas_after φs (t ++ u) ≡ formulas_after (formulas_after φs t) u
unfolding formulas_after
formulas_after-append φs [] u = refl
formulas_after-append φs (w ∷ t) u = formulas_after-append (φs ++ (word_formula φs w ∷ [])) t u

pub length-formulas_after : (φs : List Formula) (t : List ℕ) → length (formulas_after φs t) ≡ length φs + length t
unfolding formulas_after
length-formulas_after φs [] = omega arith
length-formulas_after φs (w ∷ t) =
    let f : List Formula = φs ++ (word_formula φs w ∷ []) in
    omega (arith, length-formulas_after f t, length-append φs (word_formula φs w ∷ []))

pub length-formulas : (t : List ℕ) → length (formulas t) ≡ length t
unfolding formulas
length-formulas t = length-formulas_after [] t ∙ omega arith

-- one more word gives one more formula
pub formulas_snoc : (t : List ℕ) (w : ℕ) → formulas (t ++ (w ∷ [])) ≡ formulas t ++ (word_formula (formulas t) w ∷ [])
unfolding formulas formulas_after
formulas_snoc t w = formulas_after-append [] t (w ∷ [])

-- formulas that stand stay as they are
pub take-formulas_after : (φs : List Formula) (t : List ℕ) → take (length φs) (formulas_after φs t) ≡ φs
unfolding formulas_after
take-formulas_after φs [] = take_all (length φs) φs (omega arith)
take-formulas_after φs (w ∷ t) =
    let f : List Formula = φs ++ (word_formula φs w ∷ []) in
    sym (take-take (length φs) (length f) (formulas_after f t) (omega (arith, length-append φs (word_formula φs w ∷ []))))
    ∙ ap (take (length φs)) (take-formulas_after f t)
    ∙ take-append_seam φs (word_formula φs w ∷ [])

take-formulas_after_add : (m : ℕ) (φs : List Formula) (t : List ℕ) → take (length φs + m) (formulas_after φs t) ≡ formulas_after φs (take m t)
unfolding formulas_after
take-formulas_after_add zero φs t = rw (add-zero (length φs)) (take-formulas_after φs t)
take-formulas_after_add (suc m) φs [] = take_all (length φs + suc m) φs (omega arith)
take-formulas_after_add (suc m) φs (w ∷ t) =
    let f : List Formula = φs ++ (word_formula φs w ∷ []) in
    let e : length φs + suc m ≡ length f + m = omega (arith, length-append φs (word_formula φs w ∷ [])) in
    ap (λ (n : ℕ). take n (formulas_after f t)) e ∙ take-formulas_after_add m f t

-- the formulas of a table's first words are those of the table that they make
pub take-formulas : (m : ℕ) (t : List ℕ) → take m (formulas t) ≡ formulas (take m t)
unfolding formulas
take-formulas m t = ap (λ (n : ℕ). take n (formulas_after [] t)) (sym (zero-add m)) ∙ take-formulas_after_add m [] t

-- each formula is its word's, after the formulas before it
pub formula_at : (t : List ℕ) (j : ℕ) → j < length t → get_or (formulas t) j (const false) ≡ word_formula (take j (formulas t)) (get_or t j 0)
formula_at t j h =
    let u : List ℕ = take j t in
    let φs : List Formula = formulas u in
    let n : length φs ≡ j = length-formulas u ∙ length-take-le j t (omega arith) in
    sym (get_or-take (suc j) (formulas t) j (const false) (omega arith))
    ∙ ap (λ (l : List Formula). get_or l j (const false)) (take-formulas (suc j) t ∙ ap formulas (take-suc t j 0 h) ∙ formulas_snoc u (get_or t j 0))
    ∙ get_or_at φs (word_formula φs (get_or t j 0)) [] (const false) j n
    ∙ ap (λ (l : List Formula). word_formula l (get_or t j 0)) (sym (take-formulas j t))

-- an earlier word's formula is the same among the first formulas and among all
pub formula_of-take : (φs : List Formula) (j n : ℕ) → n ≤ j → formula_of (take j φs) n ≡ formula_of φs n
unfolding formula_of
formula_of-take φs j zero h = refl
formula_of-take φs j (suc i) h = get_or-take j φs i (const false) (omega arith)

-- a formula depends on what its word's operand fields stand for, and on no other field's number as an operand
pub formula_by-operands : (s : Shape) (n : ℕ) (a a' b b' : Formula)
    → (is_operand (left_field s) ≡ true → a ≡ a') → (is_operand (right_field s) ≡ true → b ≡ b') → formula_by s n a b ≡ formula_by s n a' b'
formula_by-operands none n a a' b b' p q = refl
formula_by-operands (constant c) n a a' b b' p q = refl
formula_by-operands (letter c) n a a' b b' p q = refl
formula_by-operands (unary o) n a a' b b' p q = ap (un o) (q refl)
formula_by-operands (binary o) n a a' b b' p q = ap₂ (bin o) (p refl) (q refl)

-- the formula of a word whose operands are earlier words, from the formulas of all words
pub formula_of-word : (t : List ℕ) (j : ℕ) → j < length t
    → (is_operand (holds_left (get_or t j 0)) ≡ true → left (get_or t j 0) ≤ j)
    → (is_operand (holds_right (get_or t j 0)) ≡ true → right (get_or t j 0) ≤ j)
    → get_or (formulas t) j (const false)
    ≡ formula_by
    (shape (kind (get_or t j 0)))
    (right (get_or t j 0))
    (formula_of (formulas t) (left (get_or t j 0)))
    (formula_of (formulas t) (right (get_or t j 0)))
unfolding word_formula
formula_of-word t j h p q =
    let w : ℕ = get_or t j 0 in
    let φs : List Formula = formulas t in
    formula_at t j h
    ∙ formula_by-operands
    (shape (kind w))
    (right w)
    (formula_of (take j φs) (left w))
    (formula_of φs (left w))
    (formula_of (take j φs) (right w))
    (formula_of φs (right w))
    (λ e. formula_of-take φs j (left w) (p e))
    (λ e. formula_of-take φs j (right w) (q e))

-- the formulas that the operators' words stand for
module _ (φs : List Formula) where
  pub word_formula-constant : (b : Bool) → word_formula φs (constant_word b) ≡ const b
  unfolding word_formula
  word_formula-constant b = rw (shape-constant_word b)

  pub word_formula-literal : (b : Bool) (p : ℕ) → p < 16384 → word_formula φs (literal_word b p) ≡ lit b p
  unfolding word_formula
  word_formula-literal b p h = rw (shape-literal_word b p h, right_pack (cond b 3 4) 0 p h)

  pub word_formula-unary : (o : Unary) (m : ℕ) → m < 16384 → word_formula φs (pack (unary_kind o) 0 m) ≡ un o (formula_of φs m)
  unfolding word_formula
  word_formula-unary o m h = rw (shape_unary_word o m h, right_pack (unary_kind o) 0 m h)

  pub word_formula-binary : (o : Binary) (l r : ℕ) → l < 16384 → r < 16384 → word_formula φs (pack (binary_kind o) l r) ≡ bin o (formula_of φs l) (formula_of φs r)
  unfolding word_formula
  word_formula-binary o l r hl hr = rw (shape_binary_word o l r hl hr, left_pack (binary_kind o) l r hl hr, right_pack (binary_kind o) l r hr)
