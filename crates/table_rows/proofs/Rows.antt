-- The scratch while rows are written: the rows so far, and past them its own words. A row is a part of it.
use Prim.Native.Nat.{ℕ, zero, suc, ◌+◌, ◌-◌, ◌*◌, ◌≤◌, ◌<◌}
use mathlib.Core.Path.{◌≡◌, refl, sym, ap, ◌∙◌}
use mathlib.Core.Bool.{false}
use mathlib.Core.List.{List, [], ◌∷◌, ◌++◌, append_assoc, append-nil}
use native.Mathlib.Nat.{zero-mul, suc-mul, mul-le-mul_right}
use native.Mathlib.Omega.{arith}
use lib.ListN.{length, get_or, take, drop, length-append}
use lib.Seq.{take_at, drop_at, drop-drop, drop-append-add}
use Rattle.logic.specs.Formula.{Formula, const}
use Rattle.logic.specs.Lasso.{Lasso}
use Rattle.row_words.proofs.Rows.{row_length}
use Rattle.row_words.specs.Row.{row_words}
use Rattle.table_rows.specs.Rows.{row_of, rows_of, rows_then}

-- the words of one row over a lasso
abbrev pub width : Lasso → ℕ
width r = row_words (length r.samples)

pub length-row_of : (r : Lasso) (φ : Formula) → length (row_of r φ) ≡ width r
unfolding row_of
length-row_of r φ = row_length (length r.samples) _

pub length-rows_of : (r : Lasso) (φs : List Formula) → length (rows_of r φs) ≡ length φs * width r
unfolding rows_of
length-rows_of r [] = sym (zero-mul (width r))
length-rows_of r (φ ∷ φs) =
    length-append (row_of r φ) (rows_of r φs)
    ∙ omega (arith, length-row_of r φ, length-rows_of r φs, suc-mul (length φs) (width r))

pub rows_of-append : (r : Lasso) (φs ψs : List Formula) → rows_of r (φs ++ ψs) ≡ rows_of r φs ++ rows_of r ψs
unfolding rows_of
rows_of-append r [] ψs = refl
rows_of-append r (φ ∷ φs) ψs = rw (rows_of-append r φs ψs) (sym (append_assoc (row_of r φ) (rows_of r φs) (rows_of r ψs)))

-- row n among rows, whatever stands after them
pub row_part : (r : Lasso) (φs : List Formula) (n : ℕ) (rest : List ℕ) → n < length φs
    → take (width r) (drop (n * width r) (rows_of r φs ++ rest)) ≡ row_of r (get_or φs n (const false))
unfolding rows_of
row_part r [] n rest h = absurd (omega arith)
row_part r (φ ∷ φs) zero rest h =
    rw (zero-mul (width r), append_assoc (row_of r φ) (rows_of r φs) rest)
    (take_at (row_of r φ) (rows_of r φs ++ rest) (width r) (length-row_of r φ))
row_part r (φ ∷ φs) (suc n) rest h =
    let e : suc n * width r ≡ length (row_of r φ) + n * width r = omega (arith, suc-mul n (width r), length-row_of r φ) in
    rw (e, append_assoc (row_of r φ) (rows_of r φs) rest, drop-append-add (row_of r φ) (rows_of r φs ++ rest) (n * width r))
    (row_part r φs n rest (omega arith))

-- more rows, over the first of them
pub rows_then_over : (r : Lasso) (φs ψs : List Formula) (s : List ℕ) → length φs ≤ length ψs
    → rows_then r ψs (rows_then r φs s) ≡ rows_then r ψs s
unfolding rows_then
rows_then_over r φs ψs s h =
    let b : ℕ = length φs * width r in
    let k : ℕ = length ψs * width r - b in
    let e : length ψs * width r ≡ length (rows_of r φs) + k = omega (arith, length-rows_of r φs, mul-le-mul_right (width r) h) in
    let d : b + k ≡ length ψs * width r = omega (arith, mul-le-mul_right (width r) h) in
    ap (λ (x : List ℕ). rows_of r ψs ++ x)
    (ap (λ (n : ℕ). drop n (rows_of r φs ++ drop b s)) e
    ∙ drop-append-add (rows_of r φs) (drop b s) k
    ∙ drop-drop k b s
    ∙ ap (λ (n : ℕ). drop n s) d)

-- no rows
pub rows_then_none : (r : Lasso) (s : List ℕ) → s ≡ rows_then r [] s
unfolding rows_then rows_of
rows_then_none r s = sym (ap (λ (n : ℕ). drop n s) (zero-mul (width r)))

-- one more row after those that stand, in its own part
pub rows_then_more : (r : Lasso) (φs : List Formula) (φ : Formula) (s : List ℕ)
    → take (length φs * width r) (rows_then r φs s) ++ (row_of r φ ++ drop (width r) (drop (length φs * width r) (rows_then r φs s)))
    ≡ rows_then r (φs ++ (φ ∷ [])) s
unfolding rows_then rows_of
rows_then_more r φs φ s =
    let b : ℕ = length φs * width r in
    let R : List ℕ = rows_of r φs in
    let rest : List ℕ = drop b s in
    let e : length (φs ++ (φ ∷ [])) * width r ≡ b + width r = rw (length-append φs (φ ∷ [])) (omega arith) in
    rw (take_at R rest b (length-rows_of r φs), drop_at R rest b (length-rows_of r φs), drop-drop (width r) b s)
    (sym
    (rw (e, rows_of-append r φs (φ ∷ []), append-nil (row_of r φ), append_assoc R (row_of r φ) (drop (b + width r) s)) refl))
