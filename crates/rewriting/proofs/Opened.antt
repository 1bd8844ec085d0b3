-- The slots of a word's own operator, by the range that the word's kind lies in, and those of its opening form.
use Prim.Native.Nat.{ℕ, ◌≤◌, ◌<◌}
use native.Mathlib.Omega.{arith}
use mathlib.Core.Path.{◌≡◌, refl, sym, ap, ◌∙◌}
use mathlib.Core.Bool.{Bool}
use Rattle.logic.specs.Formula.{Formula, Binary, next, conj, disj, until, weak, release, strong, implies}
use Rattle.transforms.specs.Rewriting.{opening}
use Rattle.table.specs.Node.{Shape, none, constant, letter, unary, binary, kind, left, right, shape, binary_kind, kind_of}
use Rattle.table.specs.Table.{formula_by}
use Rattle.table.proofs.Shapes.{shape-unary, shape-binary, kind_of-shape}
use Rattle.slots.specs.Slot.{pack}
use Rattle.form_places.specs.declared.Rewriting.TheVariants.{Steady, Opening}
use Rattle.form_places.specs.Places.{place, globally_slot}
use Rattle.rewriting.specs.Slots.{slot_by, open_left, open_right, KeptSlot, OpeningSlot, AlwaysSlot, EitherSlot}
use Rattle.table.proofs.KindRanges.{constants, letters, operators}

-- the slot of a word's own operator
module _ {w l r x k : ℕ} (is-kind : k ≡ kind w) where
  kept_by : (s : Shape) → shape k ≡ s → ((a b : Formula) → x ≡ slot_by (formula_by s (right w) a b) l r) → KeptSlot w l r x
  kept_by s q f = let p : shape (kind w) ≡ s = ap shape (sym is-kind) ∙ q in record { is = λ a b. rw p (f a b) }

  pub kept-constant : 1 ≤ k → k < 3 → x ≡ pack k 0 0 → KeptSlot w l r x
  kept-constant h t f = let q = constants k h t in kept_by (constant q.0) q.2 (λ a b. f ∙ ap (λ (n : ℕ). pack n 0 0) q.1)

  pub kept-letter : 3 ≤ k → k < 5 → x ≡ pack k 0 (right w) → KeptSlot w l r x
  kept-letter h t f = let q = letters k h t in kept_by (letter q.0) q.2 (λ a b. f ∙ ap (λ (n : ℕ). pack n 0 (right w)) q.1)

  pub kept_next : k ≡ 7 → x ≡ pack 7 0 r → KeptSlot w l r x
  kept_next q f = kept_by (unary next) (ap shape q ∙ shape-unary next) (λ a b. f)

  pub kept_operator : 5 ≤ k → k < 12 → (k ≡ 7 → ⊥) → x ≡ pack k l r → KeptSlot w l r x
  kept_operator h t n f = let q = operators k h t n in kept_by (binary q.0) q.2 (λ a b. f ∙ ap (λ (n : ℕ). pack n l r) q.1)

-- an operator that the opening form keeps
opened : (M : Formula → Bool) (e l r n : ℕ) (a b : Formula) (s : Shape) → (kind_of s ≡ 9 → ⊥) → (kind_of s ≡ 10 → ⊥)
    → slot_by (formula_by s n a b) (place Opening l) (place Opening r) ≡ slot_by (opening M (formula_by s n a b)) (open_left s e l) (open_right s e r)
unfolding opening
opened M e l r n a b none f g = refl
opened M e l r n a b (constant c) f g = refl
opened M e l r n a b (letter c) f g = refl
opened M e l r n a b (unary o) f g = refl
opened M e l r n a b (binary conj) f g = refl
opened M e l r n a b (binary disj) f g = refl
opened M e l r n a b (binary until) f g = refl
opened M e l r n a b (binary weak) f g = absurd (f refl)
opened M e l r n a b (binary release) f g = absurd (g refl)
opened M e l r n a b (binary strong) f g = refl
opened M e l r n a b (binary implies) f g = refl

-- the opening form, whose operands stand where its operator says
module _ {w e x k : ℕ} (is-kind : k ≡ kind w) where
  opens : (s : Shape) → shape k ≡ s
      → ((M : Formula → Bool) (a b : Formula) → x ≡ slot_by (opening M (formula_by s (right w) a b)) (open_left s e (left w)) (open_right s e (right w)))
      → OpeningSlot w e x
  opens s q f = let p : shape (kind w) ≡ s = ap shape (sym is-kind) ∙ q in record { is = λ M a b. rw p (f M a b) }

  pub opens_weak : k ≡ 9 → x ≡ pack 8 (place Opening (left w)) e → OpeningSlot w e x
  unfolding opening
  opens_weak q f = opens (binary weak) (ap shape q ∙ shape-binary weak) (λ M a b. f)

  pub opens-release : k ≡ 10 → x ≡ pack 11 e (place Opening (right w)) → OpeningSlot w e x
  unfolding opening
  opens-release q f = opens (binary release) (ap shape q ∙ shape-binary release) (λ M a b. f)

  pub opens_kept : kind w < 12 → (k ≡ 9 → ⊥) → (k ≡ 10 → ⊥) → KeptSlot w (place Opening (left w)) (place Opening (right w)) x → OpeningSlot w e x
  opens_kept small f g h =
      let q : k ≡ kind_of (shape (kind w)) = is-kind ∙ sym (kind_of-shape (kind w) (omega arith)) in
      record { is = λ M a b. h.is a b ∙ opened M e (left w) (right w) (right w) a b (shape (kind w)) (λ z. f (q ∙ z)) (λ z. g (q ∙ z)) }

-- the G and the or of an opening form, by whether the word is W
module _ (w : ℕ) {k : ℕ} (is-kind : k ≡ kind w) (plain : kind w < 12) where
  is_binary : (o : Binary) → shape (kind w) ≡ binary o → k ≡ binary_kind o
  is_binary o e = is-kind ∙ sym (kind_of-shape (kind w) (omega arith)) ∙ ap kind_of e

  pub always-weak : {x : ℕ} → k ≡ 9 → x ≡ globally_slot (place Steady (left w)) → AlwaysSlot w x
  always-weak q f = record { of_weak = λ e. f; of_release = λ e. absurd (omega (arith, is_binary release e)) }

  pub always-release : {x : ℕ} → (k ≡ 9 → ⊥) → x ≡ globally_slot (place Steady (right w)) → AlwaysSlot w x
  always-release q f = record { of_weak = λ e. absurd (q (is_binary weak e)); of_release = λ e. f }

  pub either-weak : {g x : ℕ} → k ≡ 9 → x ≡ pack 6 (place Opening (right w)) g → EitherSlot w g x
  either-weak q f = record { of_weak = λ e. f; of_release = λ e. absurd (omega (arith, is_binary release e)) }

  pub either-release : {g x : ℕ} → (k ≡ 9 → ⊥) → x ≡ pack 6 (place Opening (left w)) g → EitherSlot w g x
  either-release q f = record { of_weak = λ e. absurd (q (is_binary weak e)); of_release = λ e. f }
