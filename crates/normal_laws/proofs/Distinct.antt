-- No two words of an accepted plain table stand for the same formula: each formula is held at its own word's number, and nowhere else.
use Prim.Native.Nat.{ℕ, zero, suc, ◌≤◌, ◌<◌}
use native.Mathlib.Omega.{arith}
use native.Mathlib.Decide.{ℕ_discrete, dec_lt}
use mathlib.Core.Path.{◌≡◌, refl, sym}
use mathlib.Core.Bool.{true, false}
use mathlib.Core.Logic.{◌⊎◌, inl, inr}
use mathlib.Core.List.{List}
use lib.ListN.{length, get_or}
use Rattle.logic.specs.Formula.{Formula, const}
use Rattle.table.specs.Node.{Shape, none, constant, letter, unary, binary, shape, kind_of, kind, left, right, pack, left_field, right_field}
use Rattle.table.specs.Table.{formulas, formula_of, formula_by}
use Rattle.table.specs.Checks.{is_blank, is_operand}
use Rattle.table.proofs.Shapes.{kind_of-shape}
use Rattle.table.proofs.Fields.{pack-fields}
use Rattle.table.proofs.Accepted.{WellFormed, WellFormedWord, words-differ, accepted-formula}
use Rattle.numbering.proofs.Built as built
use Rattle.numbering.specs.Held.{Distinct, Word, Held}

-- a word's formula is held where its operands' are
held_by : (t : List ℕ) (s : Shape) (a b : Formula) (l r j : ℕ) → 0 < kind_of s → Word t j (pack (kind_of s) l r)
    → (is_blank (left_field s) ≡ true → l ≡ 0) → (is_blank (right_field s) ≡ true → r ≡ 0)
    → (is_operand (left_field s) ≡ true → Held t a l) → (is_operand (right_field s) ≡ true → Held t b r) → Held t (formula_by s r a b) j
held_by t none a b l r j h w bl br ol or = absurd (omega arith)
held_by t (constant c) a b l r j h w bl br ol or = rw (bl refl, br refl) at w
held_by t (letter c) a b l r j h w bl br ol or = rw (bl refl) at w
held_by t (unary o) a b l r j h w bl br ol or = (r, or refl, rw (bl refl) at w)
held_by t (binary o) a b l r j h w bl br ol or = (l, r, ol refl, or refl, w)

module _ {limit : ℕ} {t : List ℕ} (f : WellFormed true limit t) where
  pub distinct : Distinct t
  distinct = record { apart = λ i j hi hj e. go i j hi hj e (order i j) }
    where
      order : (i j : ℕ) → (i ≡ j) ⊎ ((i < j) ⊎ (j < i))
      order i j = pick (ℕ_discrete i j)
        where
          less : (i ≡ j → ⊥) → Dec (i < j) → (i ≡ j) ⊎ ((i < j) ⊎ (j < i))
          less n (yes h) = inr (inl h)
          less n (no h) = inr (inr (omega (arith, n, h)))

          pick : Dec (i ≡ j) → (i ≡ j) ⊎ ((i < j) ⊎ (j < i))
          pick (yes e) = inl e
          pick (no n) = less n (dec_lt i j)

      go : (i j : ℕ) → i < length t → j < length t → get_or t i 0 ≡ get_or t j 0 → (i ≡ j) ⊎ ((i < j) ⊎ (j < i)) → i ≡ j
      go i j hi hj e (inl q) = q
      go i j hi hj e (inr (inl h)) = absurd (words-differ f i j h hj e)
      go i j hi hj e (inr (inr h)) = absurd (words-differ f j i h hi (sym e))

  -- the formula of word j, from those of its operands
  held_below : (n j : ℕ) → j ≤ n → 0 < j → j ≤ length t → Held t (formula_of (formulas t) j) j
  unfolding formula_of
  held_below zero j a p h = absurd (omega arith)
  held_below (suc n) zero a p h = absurd (omega arith)
  held_below (suc n) (suc i) a p h =
      let w : ℕ = get_or t i 0 in
      let x : WellFormedWord true _ (suc i) w = f.word i (omega arith) in
      let k : kind_of (shape (kind w)) ≡ kind w = kind_of-shape (kind w) (omega (arith, x.plain refl)) in
      let at : Word t (suc i) (pack (kind_of (shape (kind w))) (left w) (right w)) = record { positive = p; within = h; is = rw k (sym (pack-fields w)) } in
      rw (accepted-formula f i (omega arith))
      (held_by t (shape (kind w)) _ _ (left w) (right w) (suc i) (rw k x.kinded) at
      x.blank_left x.blank_right
      (λ o. let y = x.operand_left o in held_below n (left w) (omega (arith, y.1)) y.0 (omega (arith, y.1)))
      (λ o. let y = x.operand_right o in held_below n (right w) (omega (arith, y.1)) y.0 (omega (arith, y.1))))

  pub formula_held : (j : ℕ) → 0 < j → j ≤ length t → Held t (formula_of (formulas t) j) j
  formula_held j p h = held_below j j (omega arith) p h

  -- where a formula is held it has one number
  pub held_once : (φ : Formula) (m n : ℕ) → Held t φ m → Held t φ n → m ≡ n
  held_once φ m n p q = built.held_once t φ m n distinct p q

  pub formulas-differ : (i j : ℕ) → i < length t → j < length t → get_or (formulas t) i (const false) ≡ get_or (formulas t) j (const false) → i ≡ j
  unfolding formula_of
  formulas-differ i j hi hj e =
      let p : Held t (get_or (formulas t) i (const false)) (suc i) = formula_held (suc i) (omega arith) hi in
      let q : Held t (get_or (formulas t) j (const false)) (suc j) = formula_held (suc j) (omega arith) hj in
      omega (arith, held_once (get_or (formulas t) j (const false)) (suc i) (suc j) (rw e at p) q)
