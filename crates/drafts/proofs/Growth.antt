-- Building the formula of a slot adds at most a word for each slot up to it: every new word is that of a slot's formula, and no two have the same slot.
use Prim.Native.Nat.{ℕ, zero, suc, ◌+◌, ◌-◌, ◌≤◌, ◌<◌, ◌^◌}
use native.Mathlib.Nat.{not-suc-le-zero}
use native.Mathlib.Omega.{arith}
use mathlib.Core.Path.{◌≡◌, sym, ap, ap₂, ◌∙◌, subst}
use mathlib.Core.Logic.{◌⊎◌, inl, inr}
use mathlib.Core.Bool.{false, cond}
use mathlib.Core.List.{List, []}
use lib.ListN.{length, get_or}
use Rattle.logic.specs.Formula.{Formula, Unary, Binary, const, lit, un, bin}
use Rattle.logic.proofs.Pigeonhole.{pigeonhole}
use Rattle.table.specs.Node.{Shape, none, constant, letter, unary, binary, shape, unary_kind, binary_kind}
use Rattle.table.specs.Numbering.{build, table_of}
use Rattle.table.proofs.Shapes.{shape-unary, shape-binary, shape-constant, shape-letter}
use Rattle.numbering.specs.Held.{Distinct, Held}
use Rattle.numbering.proofs.Building.{build-grows, build-length, build-distinct, held_grows, held_within}
use Rattle.numbering.proofs.Search.{distinct_nil}
use Rattle.numbering.proofs.Built.{Made, Built, built_nil, Hereditary, build-built, made_held, held_once}
use Rattle.slots.specs.Slot.{kind, left, right}
use Rattle.drafts.specs.Drafted.{Drafted}
use Rattle.slots.proofs.Fields.{kind-pack, left_pack, right_pack}

-- the formula of a slot by its shape, where f gives those of its operands
abbrev formula_by : (ℕ → Formula) → ℕ → Shape → Formula
formula_by f s none = const false
formula_by f s (constant b) = const b
formula_by f s (letter b) = lit b (right s)
formula_by f s (unary o) = un o (f (right s))
formula_by f s (binary o) = bin o (f (left s)) (f (right s))

-- the formula that slot i stands for, if it stands for one and n is above i
abbrev slot_formula : ℕ → List ℕ → ℕ → Formula
slot_formula zero d i = const false
slot_formula (suc n) d i = formula_by (slot_formula n d) (get_or d i 0) (shape (kind (get_or d i 0)))

module _ (d : List ℕ) (few : length d ≤ 2 ^ 20) where
  drafted-formula : (φ : Formula) (n i : ℕ) → i < n → Drafted d φ i → slot_formula n d i ≡ φ
  drafted-formula φ zero i l r = absurd (not-suc-le-zero l)
  drafted-formula (const b) (suc n) i l r =
      rw (r.is, kind-pack (cond b 2 1) 0 0 (omega arith) (omega arith), shape-constant b)
  drafted-formula (lit b p) (suc n) i l r =
      rw (r.1.is, kind-pack (cond b 3 4) 0 p (omega arith) (omega (arith, r.0)), shape-letter b, right_pack (cond b 3 4) 0 p (omega (arith, r.0)))
  drafted-formula (un o a) (suc n) i l r =
      let m = r.0 in
      let hm : m < 2 ^ 20 = omega (arith, r.1, r.3.within) in
      rw (r.3.is, kind-pack (unary_kind o) 0 m (omega arith) hm, shape-unary o, right_pack (unary_kind o) 0 m hm)
      (ap (un o) (drafted-formula a n m (omega (arith, r.1)) r.2))
  drafted-formula (bin o a b) (suc n) i l r =
      let k = r.0 in
      let m = r.1 in
      let hk : k < 2 ^ 20 = omega (arith, r.2, r.6.within) in
      let hm : m < 2 ^ 20 = omega (arith, r.3, r.6.within) in
      rw (r.6.is, kind-pack (binary_kind o) k m hk hm, shape-binary o, left_pack (binary_kind o) k m hk hm, right_pack (binary_kind o) k m hm)
      (ap₂ (bin o) (drafted-formula a n k (omega (arith, r.2)) r.4) (drafted-formula b n m (omega (arith, r.3)) r.5))

  -- a slot stands for one formula
  pub drafted-once : (φ ψ : Formula) (i : ℕ) → Drafted d φ i → Drafted d ψ i → φ ≡ ψ
  drafted-once φ ψ i r s = sym (drafted-formula φ (suc i) i (omega arith) r) ∙ drafted-formula ψ (suc i) i (omega arith) s

-- the formulas that a table holds, and those of the slots up to one, have operands of the same sort
abbrev Old : List ℕ → Formula → Type 0
Old t φ = (n : ℕ) × Held t φ n

abbrev Slot : List ℕ → ℕ → Formula → Type 0
Slot d i φ = (j : ℕ) × (j ≤ i) × Drafted d φ j

either_hereditary : (t d : List ℕ) (i : ℕ) → Hereditary (λ φ. Old t φ ⊎ Slot d i φ)
either_hereditary t d i = record { under = under; first = first; second = second }
  where
    under : (o : Unary) (a : Formula) → Old t (un o a) ⊎ Slot d i (un o a) → Old t a ⊎ Slot d i a
    under o a (inl h) = inl (h.1.0, h.1.1)
    under o a (inr r) = inr (r.2.0, omega (arith, r.1, r.2.1), r.2.2)

    first : (o : Binary) (a b : Formula) → Old t (bin o a b) ⊎ Slot d i (bin o a b) → Old t a ⊎ Slot d i a
    first o a b (inl h) = inl (h.1.0, h.1.2)
    first o a b (inr r) = inr (r.2.0, omega (arith, r.1, r.2.2), r.2.4)

    second : (o : Binary) (a b : Formula) → Old t (bin o a b) ⊎ Slot d i (bin o a b) → Old t b ⊎ Slot d i b
    second o a b (inl h) = inl (h.1.1, h.1.3)
    second o a b (inr r) = inr (r.2.1, omega (arith, r.1, r.2.3), r.2.5)

module _ (d : List ℕ) (few : length d ≤ 2 ^ 20) {P : Formula → Type 0} (t : List ℕ) (apart : Distinct t) (built : Built P t) (φ : Formula) (i : ℕ) (r : Drafted d φ i) where
  abbrev s : List ℕ
  s = (build t φ).table

  old : Built (λ ψ. Old t ψ ⊎ Slot d i ψ) t
  old = record { formula = λ j h. let f = built.formula j h in (f.0, f.1, inl (suc j, made_held t j h f.0 f.1)) }

  made : (j : ℕ) → j < length s → (ψ : Formula) × Made s j ψ × (Old t ψ ⊎ Slot d i ψ)
  made j h = (build-built (either_hereditary t d i) t φ (inr (i, omega arith, r)) old).formula j h

  held : (j : ℕ) (h : j < length s) → Held s (made j h).0 (suc j)
  held j h = made_held s j h (made j h).0 (made j h).1

  -- a new word is that of a slot's formula
  slot : (j : ℕ) (h : j < length s) → length t ≤ j → Slot d i (made j h).0
  slot j h l = go (made j h).2
    where
      go : Old t (made j h).0 ⊎ Slot d i (made j h).0 → Slot d i (made j h).0
      go (inr q) = q
      go (inl q) =
          let w = held_within t (made j h).0 q.0 q.1 in
          absurd (omega (arith, w.1, held_once s (made j h).0 (suc j) q.0 (build-distinct t φ apart) (held j h) (held_grows (made j h).0 q.0 (build-grows t φ) q.1)))

  pub drafted_growth : length (build t φ).table ≤ length t + suc i
  drafted_growth = omega (arith, build-length t φ, pigeonhole (suc i) (length s - length t) (λ x h. (at x h).0) (λ x h. omega (arith, (at x h).1)) one)
    where
      in_s : (x : ℕ) → x < length s - length t → length t + x < length s
      in_s x h = omega arith

      at : (x : ℕ) (h : x < length s - length t) → Slot d i (made (length t + x) (in_s x h)).0
      at x h = slot (length t + x) (in_s x h) (omega arith)

      one : (x y : ℕ) (h : x < length s - length t) (l : y < length s - length t) → (at x h).0 ≡ (at y l).0 → x ≡ y
      one x y h l e =
          let a = (made (length t + x) (in_s x h)).0 in
          let b = (made (length t + y) (in_s y l)).0 in
          let q : a ≡ b = drafted-once d few a b (at y l).0 (subst (Drafted d a) e (at x h).2) (at y l).2 in
          omega (arith, held_once s b (suc (length t + x)) (suc (length t + y)) (build-distinct t φ apart) (subst (λ (c : Formula). Held s c (suc (length t + x))) q (held (length t + x) (in_s x h))) (held (length t + y) (in_s y l)))

-- a table that is built from nothing has at most a word for each slot
pub drafted-length : (d : List ℕ) → length d ≤ 2 ^ 20 → (φ : Formula) (i : ℕ) → Drafted d φ i → length (table_of φ) ≤ suc i
unfolding table_of
drafted-length d few φ i r = omega (arith, drafted_growth d few [] distinct_nil (built_nil {P = Slot d i}) φ i r)
