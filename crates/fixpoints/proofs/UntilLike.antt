-- The until-like words of an accepted plain table: their formulas in order, and which of them a choice has.
use Prim.Native.Nat.{ℕ, zero, suc, ◌+◌, ◌-◌, ◌/◌, ◌%◌, ◌^◌, ◌≤◌, ◌<◌}
use native.Mathlib.Omega.{arith}
use native.Mathlib.Nat.{div-div-eq-div-mul, div-one, mul_comm}
use native.Mathlib.Numerals.{unary_clauses}
use mathlib.Core.Path.{◌≡◌, refl, sym, ap, ◌∙◌, subst}
use mathlib.Core.Bool.{Bool, true, false, cond, ◌||◌, ◌&&◌}
use mathlib.Core.List.{List, [], ◌∷◌, ◌++◌, Memᴰ}
use lib.ListN.{length, get_or, take, drop, length-drop, length-append}
use lib.Seq.{split_at, take-suc, take-length, get_or-take, get_or-drop, get_or-append_seam, length-take-le}
use lib.Dec.{T, eqb, leb}
use Rattle.logic.specs.Formula.{Formula, const, same, next, neg, finally, globally, conj, disj, until, weak, release, strong, implies}
use Rattle.transforms.specs.NormalForm.{is_fixpoint, keep, member, chosen}
use Rattle.table.specs.Node.{Shape, none, constant, letter, unary, binary, kind, shape, kind_of}
use Rattle.table.specs.Table.{formula_by, formulas, formulas_after}
use Rattle.table.specs.Steps.{fixpoints}
use Rattle.table.specs.StepChecks.{is_fixpoint_word}
use Rattle.table.proofs.Accepted.{WellFormed, accepted-formula}
use Rattle.table.proofs.Formulas.{take-formulas, length-formulas}
use Rattle.transforms.proofs.Normal.Membership.{mem_of_member, member_of_mem, mem_keep, mem_place}
use Rattle.logic.specs.Bit.{bit}
use Rattle.fixpoints.specs.Positions.{bit_of}
use Rattle.table.proofs.Shapes.{kind_of-shape}
use Rattle.normal_laws.proofs.Chosen.{keep_append, mem_chosen}
use Rattle.normal_laws.proofs.Distinct.{formulas-differ}

half_again : (c n : ℕ) → c / 2 / 2 ^ n ≡ c / 2 ^ suc n
half_again c n = simp unary_clauses (div-div-eq-div-mul c 2 (2 ^ n) ∙ ap (λ (d : ℕ). c / d) (mul_comm 2 (2 ^ n)))

-- the bits of a choice are those of the first formulas, and then those of the others
pub chosen-append : (xs ys : List Formula) (c : ℕ) → chosen (xs ++ ys) c ≡ chosen xs c ++ chosen ys (c / 2 ^ length xs)
unfolding chosen
chosen-append [] ys c = ap (chosen ys) (sym (div-one c))
chosen-append (x ∷ xs) ys c = go (eqb (c % 2) 1) (chosen-append xs ys (c / 2) ∙ ap (λ (d : ℕ). chosen xs (c / 2) ++ chosen ys d) (half_again c (length xs)))
  where
    go : (b : Bool) → chosen (xs ++ ys) (c / 2) ≡ chosen xs (c / 2) ++ chosen ys (c / 2 ^ suc (length xs))
        → cond b (x ∷ chosen (xs ++ ys) (c / 2)) (chosen (xs ++ ys) (c / 2)) ≡ cond b (x ∷ chosen xs (c / 2)) (chosen xs (c / 2)) ++ chosen ys (c / 2 ^ suc (length xs))
    go true e = ap (λ l. x ∷ l) e
    go false e = e

not_member : (l : List Formula) (φ : Formula) → (Memᴰ φ l → ⊥) → member l φ ≡ false
not_member l φ f = go (member l φ) refl
  where
    go : (b : Bool) → member l φ ≡ b → member l φ ≡ false
    go true e = absurd (f (mem_of_member l φ (subst T (sym e) tt)))
    go false e = e

member-append : (xs ys : List Formula) (φ : Formula) → member (xs ++ ys) φ ≡ member xs φ || member ys φ
member-append [] ys φ = refl
member-append (x ∷ xs) ys φ = rw (member-append xs ys φ) (or_assoc (same x φ) (member xs φ) (member ys φ))
  where
    or_assoc : (a b c : Bool) → a || (b || c) ≡ (a || b) || c
    or_assoc true b c = refl
    or_assoc false b c = refl

member_here : (l : List Formula) (φ : Formula) → member (φ ∷ l) φ ≡ true
member_here l φ = go (member (φ ∷ l) φ) refl
  where
    go : (b : Bool) → member (φ ∷ l) φ ≡ b → member (φ ∷ l) φ ≡ true
    go true e = e
    go false e = absurd (subst T e (member_of_mem (φ ∷ l) φ (Memᴰ.head refl)))

-- whether a formula that is listed once is chosen is told by its own bit
pub member-chosen : (p : Formula → Bool) (xs : List Formula) (y : Formula) (ys : List Formula) (c : ℕ) → p y ≡ true
    → (Memᴰ y xs → ⊥) → (Memᴰ y ys → ⊥) → member (keep p (chosen (xs ++ y ∷ ys) c)) y ≡ bit c (length xs)
unfolding chosen bit
member-chosen p xs y ys c e f g =
    ap (λ (l : List Formula). member (keep p l) y) (chosen-append xs (y ∷ ys) c)
    ∙ ap (λ (l : List Formula). member l y) (keep_append p (chosen xs c) _)
    ∙ member-append (keep p (chosen xs c)) _ y
    ∙ ap (λ (b : Bool). b || member (keep p (chosen (y ∷ ys) (c / 2 ^ length xs))) y)
    (not_member (keep p (chosen xs c)) y (λ m. f (mem_chosen xs c (mem_keep p (chosen xs c) m).0)))
    ∙ go (eqb (c / 2 ^ length xs % 2) 1)
  where
    absent : member (keep p (chosen ys (c / 2 ^ length xs / 2))) y ≡ false
    absent = not_member (keep p (chosen ys (c / 2 ^ length xs / 2))) y (λ m. g (mem_chosen ys (c / 2 ^ length xs / 2) (mem_keep p (chosen ys (c / 2 ^ length xs / 2)) m).0))

    go : (b : Bool) → member (keep p (cond b (y ∷ chosen ys (c / 2 ^ length xs / 2)) (chosen ys (c / 2 ^ length xs / 2)))) y ≡ b
    go true = rw e (member_here (keep p (chosen ys (c / 2 ^ length xs / 2))) y)
    go false = absent

-- the until-like kinds are those of the fixpoints
fixpoint-shape : (s : Shape) (n : ℕ) (a b : Formula) → is_fixpoint (formula_by s n a b) ≡ (leb 8 (kind_of s) && leb (kind_of s) 11)
fixpoint-shape none n a b = refl
fixpoint-shape (constant true) n a b = refl
fixpoint-shape (constant false) n a b = refl
fixpoint-shape (letter true) n a b = refl
fixpoint-shape (letter false) n a b = refl
fixpoint-shape (unary next) n a b = refl
fixpoint-shape (unary neg) n a b = refl
fixpoint-shape (unary finally) n a b = refl
fixpoint-shape (unary globally) n a b = refl
fixpoint-shape (binary conj) n a b = refl
fixpoint-shape (binary disj) n a b = refl
fixpoint-shape (binary until) n a b = refl
fixpoint-shape (binary weak) n a b = refl
fixpoint-shape (binary release) n a b = refl
fixpoint-shape (binary strong) n a b = refl
fixpoint-shape (binary implies) n a b = refl

-- whatever its operands stand for
pub fixpoint-word : (w : ℕ) → kind w < 16 → (n : ℕ) (a b : Formula) → is_fixpoint (formula_by (shape (kind w)) n a b) ≡ is_fixpoint_word w
fixpoint-word w k n a b = fixpoint-shape (shape (kind w)) n a b ∙ ap (λ (n : ℕ). leb 8 n && leb n 11) (kind_of-shape (kind w) k)

module _ {limit : ℕ} {t : List ℕ} (f : WellFormed true limit t) (i : ℕ) (h : i < length t) where
  pub word-fixpoint : is_fixpoint (get_or (formulas t) i (const false)) ≡ is_fixpoint_word (get_or t i 0)
  word-fixpoint = rw (accepted-formula f i h) (fixpoint-word (get_or t i 0) (omega (arith, (f.word i h).plain refl)) _ _ _)

  -- one word more is one formula more if it is until-like
  pub fixpoints_step : fixpoints (take (suc i) t) ≡ fixpoints (take i t) ++ cond (is_fixpoint_word (get_or t i 0)) (get_or (formulas t) i (const false) ∷ []) []
  unfolding fixpoints
  fixpoints_step =
      ap (keep is_fixpoint) (sym (take-formulas (suc i) t) ∙ take-suc (formulas t) i (const false) (rw length-formulas h))
      ∙ keep_append is_fixpoint (take i (formulas t)) _
      ∙ rw (word-fixpoint, take-formulas i t)

-- one word more is one bit more if it is until-like
one_long : (b : Bool) {A : Type 0} (a : A) → length (cond b (a ∷ []) []) ≡ cond b 1 0
one_long true a = refl
one_long false a = refl

pub bit_of_step : (t : List ℕ) (i : ℕ) → i < length t → bit_of t (suc i) ≡ bit_of t i + cond (is_fixpoint_word (get_or t i 0)) 1 0
bit_of_step t i h =
    ap (λ (l : List ℕ). length (keep is_fixpoint_word l)) (take-suc t i 0 h)
    ∙ ap length (keep_append is_fixpoint_word (take i t) _)
    ∙ length-append (keep is_fixpoint_word (take i t)) _
    ∙ ap (λ (n : ℕ). bit_of t i + n) (one_long (is_fixpoint_word (get_or t i 0)) _)

-- there are no more bits before a word than in all
pub bit_of_rise : (t : List ℕ) (k i : ℕ) → i + k ≡ length t → bit_of t i ≤ bit_of t (length t)
bit_of_rise t zero i e = let q : i ≡ length t = omega arith in rw q (omega arith)
bit_of_rise t (suc k) i e = omega (arith, bit_of_step t i (omega arith), bit_of_rise t k (suc i) (omega arith))

module _ {limit : ℕ} {t : List ℕ} (f : WellFormed true limit t) where
  -- as many until-like words before a word as fixpoint formulas
  pub bits_before : (i : ℕ) → i ≤ length t → length (fixpoints (take i t)) ≡ bit_of t i
  unfolding fixpoints formulas formulas_after
  bits_before zero h = refl
  bits_before (suc i) h =
      ap length (fixpoints_step f i h)
      ∙ length-append (fixpoints (take i t)) _
      ∙ ap (λ (n : ℕ). length (fixpoints (take i t)) + n) (one_long (is_fixpoint_word (get_or t i 0)) _)
      ∙ ap (λ (n : ℕ). n + cond (is_fixpoint_word (get_or t i 0)) 1 0) (bits_before i (omega arith))
      ∙ sym (bit_of_step t i h)

  pub bits_all : length (fixpoints t) ≡ bit_of t (length t)
  bits_all = ap (λ (l : List ℕ). length (fixpoints l)) (sym (take-length t)) ∙ bits_before (length t) (omega arith)

  module _ (i : ℕ) (h : i < length t) where
    fixpoints-split : is_fixpoint_word (get_or t i 0) ≡ true
        → fixpoints t ≡ fixpoints (take i t) ++ get_or (formulas t) i (const false) ∷ keep is_fixpoint (drop (suc i) (formulas t))
    unfolding fixpoints
    fixpoints-split e =
        ap (keep is_fixpoint) (split_at (formulas t) i (const false) (rw length-formulas h))
        ∙ keep_append is_fixpoint (take i (formulas t)) _
        ∙ rw (word-fixpoint f i h, e, take-formulas i t)

    before_differ : Memᴰ (get_or (formulas t) i (const false)) (fixpoints (take i t)) → ⊥
    unfolding fixpoints
    before_differ m =
        let p = mem_place (mem_keep is_fixpoint (formulas (take i t)) m).0 in
        let b : p.0 < i = omega (arith, p.1, length-formulas (take i t), length-take-le i t (omega arith)) in
        let e : get_or (formulas t) p.0 (const false) ≡ get_or (formulas t) i (const false) =
        sym (get_or-take i (formulas t) p.0 (const false) b) ∙ ap (λ (l : List Formula). get_or l p.0 (const false)) (take-formulas i t) ∙ p.2 in
        omega (arith, formulas-differ f p.0 i (omega arith) h e)

    after_differ : Memᴰ (get_or (formulas t) i (const false)) (keep is_fixpoint (drop (suc i) (formulas t))) → ⊥
    after_differ m =
        let p = mem_place (mem_keep is_fixpoint (drop (suc i) (formulas t)) m).0 in
        let b : suc i + p.0 < length t = omega (arith, p.1, length-formulas t, length-drop (suc i) (formulas t)) in
        let e : get_or (formulas t) (suc i + p.0) (const false) ≡ get_or (formulas t) i (const false) = sym (get_or-drop (suc i) (formulas t) p.0 (const false)) ∙ p.2 in
        omega (arith, formulas-differ f (suc i + p.0) i b h e)

    -- the formula of an until-like word has the word's bit number in the list by which choices are read
    pub bit-listed : is_fixpoint_word (get_or t i 0) ≡ true → get_or (fixpoints t) (bit_of t i) (const false) ≡ get_or (formulas t) i (const false)
    bit-listed e =
        ap (λ (l : List Formula). get_or l (bit_of t i) (const false)) (fixpoints-split e)
        ∙ ap (λ (n : ℕ). get_or (fixpoints (take i t) ++ get_or (formulas t) i (const false) ∷ keep is_fixpoint (drop (suc i) (formulas t))) n (const false)) (sym (bits_before i (omega arith)))
        ∙ get_or-append_seam (fixpoints (take i t)) (get_or (formulas t) i (const false)) (keep is_fixpoint (drop (suc i) (formulas t))) (const false)

    -- and that bit of a choice tells whether it is chosen
    pub member-fixpoint : (p : Formula → Bool) (c : ℕ) → p (get_or (formulas t) i (const false)) ≡ true → is_fixpoint_word (get_or t i 0) ≡ true
        → member (keep p (chosen (fixpoints t) c)) (get_or (formulas t) i (const false)) ≡ bit c (bit_of t i)
    member-fixpoint p c e g =
        ap (λ (l : List Formula). member (keep p (chosen l c)) (get_or (formulas t) i (const false))) (fixpoints-split g)
        ∙ member-chosen p (fixpoints (take i t)) (get_or (formulas t) i (const false)) (keep is_fixpoint (drop (suc i) (formulas t))) c e before_differ after_differ
        ∙ ap (bit c) (bits_before i (omega arith))
