-- A table that was built: each word is the word of a formula's operator, with numbers of earlier words at which the operands are held.
use Prim.Native.Nat.{ℕ, suc, ◌≤◌, ◌<◌}
use native.Mathlib.Nat.{not-suc-le-zero, eq-or-lt_of_le}
use native.Mathlib.Omega.{arith}
use mathlib.Core.Path.{◌≡◌, ◌∙◌, ap, sym}
use mathlib.Core.Logic.{◌⊎◌, inl, inr}
use mathlib.Core.Bool.{true, false≢true}
use mathlib.Core.List.{List, [], ◌∷◌, ◌++◌}
use lib.ListN.{length, get_or, length-append, get_or-append}
use lib.Seq.{get_or-append_seam}
use Rattle.logic.specs.Formula.{Formula, Unary, Binary, const, lit, un, bin}
use Rattle.table.specs.Node.{left, right, pack, unary_kind, binary_kind}
use Rattle.table.specs.Checks.{is_operand, holds_left, holds_right}
use Rattle.table.specs.Numbering.{Placed, put, build, table_of, constant_word, literal_word}
use Rattle.table.proofs.Fields.{left_pack, right_pack}
use Rattle.table.proofs.Shapes.{shape-constant_word, shape-literal_word, shape_unary_word}
use Rattle.numbering.specs.Held.{Held, Distinct}
use Rattle.logic.specs.Letters.{Letters}
use Rattle.numbering.proofs.Search.{Put, again, fresh, put_cases}
use Rattle.numbering.proofs.Building.{held_more, held_within, build-const, build-lit, build-un, build-bin, build_held, held_grows, build-grows, held_build}
use Rattle.numbering.proofs.Formulas.{Ordered}

-- word i + 1 of t is that of a formula, with numbers of earlier words for operands
abbrev pub Made : List ℕ → ℕ → Formula → Type 0
Made t i (const b) = get_or t i 0 ≡ constant_word b
Made t i (lit b p) = get_or t i 0 ≡ literal_word b p
Made t i (un o a) = (m : ℕ) × Held t a m × (m ≤ i) × (get_or t i 0 ≡ pack (unary_kind o) 0 m)
Made t i (bin o a b) = (l : ℕ) × (r : ℕ) × Held t a l × Held t b r × (l ≤ i) × (r ≤ i) × (get_or t i 0 ≡ pack (binary_kind o) l r)

-- each word of t is that of a formula of which P holds
pub record Built (P : Formula → Type 0) (t : List ℕ) : Type 0 where
  pub formula : (i : ℕ) → i < length t → (φ : Formula) × Made t i φ × P φ

-- what holds of a formula holds of its operands
pub record Hereditary (P : Formula → Type 0) : Type 0 where
  pub under : (o : Unary) (a : Formula) → P (un o a) → P a
  pub first : (o : Binary) (a b : Formula) → P (bin o a b) → P a
  pub second : (o : Binary) (a b : Formula) → P (bin o a b) → P b

made_more : (t u : List ℕ) (i : ℕ) → i < length t → (φ : Formula) → Made t i φ → Made (t ++ u) i φ
made_more t u i h (const b) m = get_or-append t u 0 i h ∙ m
made_more t u i h (lit b p) m = get_or-append t u 0 i h ∙ m
made_more t u i h (un o a) m = (m.0, held_more t u a m.0 m.1, m.2, get_or-append t u 0 i h ∙ m.3)
made_more t u i h (bin o a b) m =
    (m.0, m.1, held_more t u a m.0 m.2, held_more t u b m.1 m.3, m.4, m.5, get_or-append t u 0 i h ∙ m.6)

module _ {P : Formula → Type 0} where
  pub built_nil : Built P []
  built_nil = record { formula = λ i h. absurd (not-suc-le-zero h) }

  built-put : (t : List ℕ) (w : ℕ) (φ : Formula) → P φ → Made (t ++ (w ∷ [])) (length t) φ → Built P t → Built P (put t w).table
  built-put t w φ p m b = go (put_cases t w)
    where
      pick : (i : ℕ) → (i ≡ length t) ⊎ (i < length t) → (ψ : Formula) × Made (t ++ (w ∷ [])) i ψ × P ψ
      pick i (inl e) = rw e (φ, m, p)
      pick i (inr h) = let f = b.formula i h in (f.0, made_more t (w ∷ []) i h f.0 f.1, f.2)

      go : Put t w → Built P (put t w).table
      go (again i f e) = rw e b
      go (fresh f e) = rw e (record { formula = λ i h. pick i (eq-or-lt_of_le (omega (arith, length-append t (w ∷ [])))) })

  pub build-built : Hereditary P → (t : List ℕ) (φ : Formula) → P φ → Built P t → Built P (build t φ).table
  build-built y t (const b) p h = rw build-const (built-put t (constant_word b) (const b) p (get_or-append_seam t _ [] 0) h)
  build-built y t (lit b q) p h = rw build-lit (built-put t (literal_word b q) (lit b q) p (get_or-append_seam t _ [] 0) h)
  build-built y t (un o a) p h =
      let s = (build t a).table in
      let m = (build t a).number in
      rw build-un
      (built-put s (pack (unary_kind o) 0 m) (un o a) p
      (m, held_more s _ a m (build_held t a), (held_within s a m (build_held t a)).1, get_or-append_seam s _ [] 0)
      (build-built y t a (y.under o a p) h))
  build-built y t (bin o a b) p h =
      let s = (build t a).table in
      let q = (build s b).table in
      let l = (build t a).number in
      let r = (build s b).number in
      let ha : Held q a l = held_grows a l (build-grows s b) (build_held t a) in
      rw build-bin
      (built-put q (pack (binary_kind o) l r) (bin o a b) p
      (l, r, held_more q _ a l ha, held_more q _ b r (build_held s b), (held_within q a l ha).1, (held_within q b r (build_held s b)).1, get_or-append_seam q _ [] 0)
      (build-built y s b (y.second o a b p) (build-built y t a (y.first o a b p) h)))

pub letters_hereditary : (Q : ℕ → Type 0) → Hereditary (Letters Q)
letters_hereditary Q = record { under = λ o a p. p; first = λ o a b p. p.0; second = λ o a b p. p.1 }

-- in a built table operands are earlier words
module _ (t : List ℕ) (k : length t < 16384) (i : ℕ) where
  made_left : (φ : Formula) → Letters (λ p. p < 16384) φ → Made t i φ → is_operand (holds_left (get_or t i 0)) ≡ true → left (get_or t i 0) ≤ i
  made_left (const b) s m e = absurd (false≢true (rw (m, shape-constant_word b) at e))
  made_left (lit b p) s m e = absurd (false≢true (rw (m, shape-literal_word b p s) at e))
  made_left (un o a) s m e = absurd (false≢true (rw (m.3, shape_unary_word o m.0 (omega (arith, held_within t a m.0 m.1))) at e))
  made_left (bin o a b) s m e =
      rw (m.6, left_pack (binary_kind o) m.0 m.1 (omega (arith, held_within t a m.0 m.2)) (omega (arith, held_within t b m.1 m.3))) m.4

  made_right : (φ : Formula) → Letters (λ p. p < 16384) φ → Made t i φ → is_operand (holds_right (get_or t i 0)) ≡ true → right (get_or t i 0) ≤ i
  made_right (const b) s m e = absurd (false≢true (rw (m, shape-constant_word b) at e))
  made_right (lit b p) s m e = absurd (false≢true (rw (m, shape-literal_word b p s) at e))
  made_right (un o a) s m e = rw (m.3, right_pack (unary_kind o) 0 m.0 (omega (arith, held_within t a m.0 m.1))) m.2
  made_right (bin o a b) s m e =
      rw (m.6, right_pack (binary_kind o) m.0 m.1 (omega (arith, held_within t b m.1 m.3))) m.5

pub built-ordered : {t : List ℕ} → Built (Letters (λ p. p < 16384)) t → length t < 16384 → Ordered t
built-ordered {t} b k = record {
  left_earlier = λ i h e. let f = b.formula i h in made_left t k i f.0 f.2 f.1 e;
  right_earlier = λ i h e. let f = b.formula i h in made_right t k i f.0 f.2 f.1 e;
}

pub table_of-built : {P : Formula → Type 0} → Hereditary P → (φ : Formula) → P φ → Built P (table_of φ)
unfolding table_of
table_of-built y φ p = build-built y [] φ p built_nil

pub table_of-ordered : (φ : Formula) → Letters (λ p. p < 16384) φ → length (table_of φ) < 16384 → Ordered (table_of φ)
table_of-ordered φ s k = built-ordered (table_of-built (letters_hereditary (λ p. p < 16384)) φ s) k

-- a made word holds its formula
pub made_held : (t : List ℕ) (i : ℕ) → i < length t → (φ : Formula) → Made t i φ → Held t φ (suc i)
made_held t i h (const b) m = record { positive = omega arith; within = h; is = m }
made_held t i h (lit b n) m = record { positive = omega arith; within = h; is = m }
made_held t i h (un o a) m = (m.0, m.1, record { positive = omega arith; within = h; is = m.3 })
made_held t i h (bin o a b) m = (m.0, m.1, m.2, m.3, record { positive = omega arith; within = h; is = m.6 })

-- a table whose words are apart holds a formula at one number
pub held_once : (t : List ℕ) (φ : Formula) (m n : ℕ) → Distinct t → Held t φ m → Held t φ n → m ≡ n
held_once t φ m n d h k = ap (λ (p : Placed). p.number) (sym (held_build t φ m d h) ∙ held_build t φ n d k)
