-- The until-like words of an accepted plain table by their numbers: their kinds are those of their formulas, and their bits tell which are chosen.
use Prim.Native.Nat.{ℕ, zero, suc, pred, ◌≤◌, ◌<◌}
use native.Mathlib.Omega.{arith}
use mathlib.Core.Path.{◌≡◌, refl, sym, ap, subst, ◌∙◌}
use mathlib.Core.Logic.Iff
use mathlib.Core.Logic.{◌⊎◌, inl, inr, ◌↔◌, ⊎_map}
use mathlib.Core.Bool.{Bool, true, false, ◌||◌}
use mathlib.Core.List.{List, Memᴰ}
use lib.ListN.{length, get_or}
use lib.Dec.{T, eqb, eqb→eq, eqb_refl}
use Rattle.logic.specs.Bit.{bit}
use Rattle.logic.specs.Formula.{Formula, const, next, neg, finally, globally, conj, disj, until, weak, release, strong, implies}
use Rattle.transforms.specs.NormalForm.{is_least, is_greatest, is_fixpoint, keep, chosen}
use Rattle.logic.proofs.Tests.{T_or, ⊎-iff}
use Rattle.transforms.proofs.Normal.Membership.{mem_keep, keep_mem, mem_place, mem_at, mem_of_member, member_of_mem}
use Rattle.table.specs.Node.{Shape, none, constant, letter, unary, binary, kind, shape, kind_of}
use Rattle.table.specs.Table.{formulas, formula_of, formula_by}
use Rattle.table.specs.Steps.{fixpoints}
use Rattle.table.specs.StepChecks.{is_fixpoint_word}
use Rattle.table.proofs.Accepted.{WellFormed, accepted-formula}
use Rattle.table.proofs.Formulas.{length-formulas}
use Rattle.table.proofs.Shapes.{kind_of-shape}
use Rattle.fixpoints.specs.Positions.{bit_of}
use Rattle.fixpoints.proofs.UntilLike.{member-fixpoint, word-fixpoint, bits_all}
use Rattle.part_laws.specs.Parts.{LeastWord, GreatestWord, UntilLike}
use Rattle.part_laws.proofs.Choices.{bit_word_lem}

-- of each shape: its formula is a least fixpoint, or a greatest, by its kind
by_shape : (s : Shape) (n : ℕ) (a b : Formula)
    → (is_least (formula_by s n a b) ≡ (eqb (kind_of s) 8 || eqb (kind_of s) 11)) × (is_greatest (formula_by s n a b) ≡ (eqb (kind_of s) 9 || eqb (kind_of s) 10))
by_shape none n a b = (refl, refl)
by_shape (constant true) n a b = (refl, refl)
by_shape (constant false) n a b = (refl, refl)
by_shape (letter true) n a b = (refl, refl)
by_shape (letter false) n a b = (refl, refl)
by_shape (unary next) n a b = (refl, refl)
by_shape (unary neg) n a b = (refl, refl)
by_shape (unary finally) n a b = (refl, refl)
by_shape (unary globally) n a b = (refl, refl)
by_shape (binary conj) n a b = (refl, refl)
by_shape (binary disj) n a b = (refl, refl)
by_shape (binary until) n a b = (refl, refl)
by_shape (binary weak) n a b = (refl, refl)
by_shape (binary release) n a b = (refl, refl)
by_shape (binary strong) n a b = (refl, refl)
by_shape (binary implies) n a b = (refl, refl)

by_kind : (k : ℕ) → k < 16 → (n : ℕ) (a b : Formula)
    → (is_least (formula_by (shape k) n a b) ≡ (eqb k 8 || eqb k 11)) × (is_greatest (formula_by (shape k) n a b) ≡ (eqb k 9 || eqb k 10))
by_kind k h n a b = (
  (by_shape (shape k) n a b).0 ∙ ap (λ (m : ℕ). eqb m 8 || eqb m 11) (kind_of-shape k h),
  (by_shape (shape k) n a b).1 ∙ ap (λ (m : ℕ). eqb m 9 || eqb m 10) (kind_of-shape k h),
)

is_true : (b : Bool) → T b → b ≡ true
is_true true x = refl
is_true false x = absurd x

-- a test that a kind is one of two
one_of : (k x y : ℕ) {b : Bool} → b ≡ (eqb k x || eqb k y) → T b ↔ ((k ≡ x) ⊎ (k ≡ y))
one_of k x y {b} e =
    let is : (z : ℕ) → T (eqb k z) ↔ (k ≡ z) = λ z. (eqb→eq k z, λ q. subst (λ (m : ℕ). T (eqb k m)) q (eqb_refl k)) in
    rw e (Iff.trans (T_or (eqb k x) (eqb k y)) (⊎-iff (is x) (is y)))

-- kinds 8 to 11 are those of an until-like word
kinded-fixpoint : (t : List ℕ) (j : ℕ) → LeastWord t j ⊎ GreatestWord t j → is_fixpoint_word (get_or t (pred j) 0) ≡ true
kinded-fixpoint t j (inl (inl e)) = rw e
kinded-fixpoint t j (inl (inr e)) = rw e
kinded-fixpoint t j (inr (inl e)) = rw e
kinded-fixpoint t j (inr (inr e)) = rw e

module _ {limit : ℕ} {t : List ℕ} (f : WellFormed true limit t) where
  -- the formula of word j
  numbered : (j : ℕ) → 0 < j → formula_of (formulas t) j ≡ get_or (formulas t) (pred j) (const false)
  unfolding formula_of
  numbered zero p = absurd (omega arith)
  numbered (suc i) p = refl

  module _ (j : ℕ) (p : 0 < j) (h : j ≤ length t) where
    before : pred j < length t
    before = omega arith

    w : ℕ
    w = get_or t (pred j) 0

    shaped : (is_least (formula_of (formulas t) j) ≡ (eqb (kind w) 8 || eqb (kind w) 11)) × (is_greatest (formula_of (formulas t) j) ≡ (eqb (kind w) 9 || eqb (kind w) 10))
    unfolding w
    shaped = rw (numbered j p, accepted-formula f (pred j) before) (by_kind (kind w) (omega (arith, (f.word (pred j) before).plain refl)) _ _ _)

    -- U and M words are the least fixpoints, W and R words the greatest
    pub word-least : T (is_least (formula_of (formulas t) j)) ↔ LeastWord t j
    unfolding w
    word-least = one_of (kind w) 8 11 shaped.0

    pub word-greatest : T (is_greatest (formula_of (formulas t) j)) ↔ GreatestWord t j
    unfolding w
    word-greatest = one_of (kind w) 9 10 shaped.1

    -- one that is either is until-like
    pub until_like : T (is_fixpoint (formula_of (formulas t) j)) → UntilLike t j
    until_like x = record {
      positive = p;
      inside = h;
      kinded = ⊎_map word-least.0 word-greatest.0 ((T_or (is_least (formula_of (formulas t) j)) (is_greatest (formula_of (formulas t) j))).0 x);
    }

  module _ (j : ℕ) (u : UntilLike t j) where
    -- an until-like word's formula is one of those numbered
    pub word-listed : Memᴰ (formula_of (formulas t) j) (fixpoints t)
    unfolding fixpoints
    word-listed =
        let φ : Formula = formula_of (formulas t) j in
        let listed : Memᴰ φ (formulas t) = rw (numbered j u.positive) (mem_at (formulas t) (pred j) (omega (arith, length-formulas t, u.positive, u.inside))) in
        keep_mem is_fixpoint
        ((T_or (is_least φ) (is_greatest φ)).1 (⊎_map (word-least j u.positive u.inside).1 (word-greatest j u.positive u.inside).1 u.kinded)) listed

    -- of those that pass a test which it passes it is chosen exactly where its bit is 1
    pub word-chosen : (q : Formula → Bool) (c : ℕ) → T (q (formula_of (formulas t) j))
        → Memᴰ (formula_of (formulas t) j) (keep q (chosen (fixpoints t) c)) ↔ T (bit c (bit_of t (pred j)))
    word-chosen q c x =
        let φ : Formula = get_or (formulas t) (pred j) (const false) in
        let e : formula_of (formulas t) j ≡ φ = numbered j u.positive in
        let y : q φ ≡ true = is_true (q φ) (rw e at x) in
        let same = member-fixpoint f (pred j) (omega (arith, u.positive, u.inside)) q c y (kinded-fixpoint t j u.kinded) in
        rw e (λ m. subst T same (member_of_mem (keep q (chosen (fixpoints t) c)) φ m), λ z. mem_of_member (keep q (chosen (fixpoints t) c)) φ (subst T (sym same) z))

  -- each that is numbered is the formula of an until-like word
  pub listed-word : {ψ : Formula} → Memᴰ ψ (fixpoints t) → (j : ℕ) × UntilLike t j × (formula_of (formulas t) j ≡ ψ)
  unfolding fixpoints formula_of
  listed-word {ψ} m =
      let k = mem_keep is_fixpoint (formulas t) m in
      let l = mem_place k.0 in
      let h : suc l.0 ≤ length t = omega (arith, l.1, length-formulas t) in
      (suc l.0, until_like (suc l.0) (omega arith) h (rw l.2 k.1), l.2)

  -- each bit is that of an until-like word
  pub bit-numbered : (b : ℕ) → b < length (fixpoints t) → (j : ℕ) × UntilLike t j × (bit_of t (pred j) ≡ b)
  unfolding formula_of
  bit-numbered b h =
      let w = bit_word_lem t b (length t) (omega arith) (omega (arith, bits_all f)) in
      (suc w.0, until_like (suc w.0) (omega arith) w.1 (subst T (sym (word-fixpoint f w.0 w.1 ∙ w.3)) tt), w.2)
