-- The slot of a rewritten word, by whether the rewriting changes its operator.
use Prim.Native.Nat.{ℕ, ◌<◌}
use native.Mathlib.Omega.{arith}
use mathlib.Core.Path.{◌≡◌, refl, sym, ap, ◌∙◌}
use mathlib.Core.Bool.{Bool, true}
use Rattle.logic.specs.Formula.{Formula, Binary, bin, conj, disj, until, weak, release, strong, implies}
use Rattle.transforms.specs.Rewriting.{steady, recurring}
use Rattle.transforms.specs.NormalForm.{is_least, is_greatest}
use Rattle.table.specs.Node.{Shape, none, constant, letter, unary, binary, kind, right, shape, kind_of, binary_kind}
use Rattle.table.specs.Table.{formula_by}
use Rattle.table.proofs.Shapes.{shape-binary, kind_of-shape}
use Rattle.form_places.specs.declared.Rewriting.{Rewriting}
use Rattle.form_places.specs.declared.Rewriting.TheVariants.{Steady, Recurring}
use Rattle.rewriting.specs.Slots.{by, slot_by, KeptSlot}
use Rattle.chosen_forms.specs.Rewritten.{Rewritten}

module _ (m : Rewriting) {w : ℕ} {chosen : Bool} {l r x k : ℕ} (is-kind : k ≡ kind w) where
  -- an operator that the rewriting changes
  pub of_binary : (o : Binary) → k ≡ binary_kind o
      → ((M N : Formula → Bool) (a b : Formula)
      → (is_least (bin o a b) ≡ true → M (bin o a b) ≡ chosen)
      → (is_greatest (bin o a b) ≡ true → N (bin o a b) ≡ chosen)
      → x ≡ slot_by (by m M N (bin o a b)) l r)
      → Rewritten m w chosen l r x
  of_binary o e f =
      let q : shape (kind w) ≡ binary o = ap shape (sym is-kind ∙ e) ∙ shape-binary o in
      record { is = λ M N a b h g. rw q (f M N a b (rw q at h) (rw q at g)) }

-- one that stays, as do a constant, a letter and X
steady_kept : (M : Formula → Bool) (l r n : ℕ) (a b : Formula) (s : Shape) → (kind_of s ≡ 8 → ⊥) → (kind_of s ≡ 11 → ⊥) → slot_by (formula_by s n a b) l r ≡ slot_by (steady M (formula_by s n a b)) l r
unfolding steady
steady_kept M l r n a b none f g = refl
steady_kept M l r n a b (constant c) f g = refl
steady_kept M l r n a b (letter c) f g = refl
steady_kept M l r n a b (unary o) f g = refl
steady_kept M l r n a b (binary conj) f g = refl
steady_kept M l r n a b (binary disj) f g = refl
steady_kept M l r n a b (binary until) f g = absurd (f refl)
steady_kept M l r n a b (binary weak) f g = refl
steady_kept M l r n a b (binary release) f g = refl
steady_kept M l r n a b (binary strong) f g = absurd (g refl)
steady_kept M l r n a b (binary implies) f g = refl

recurring_kept : (N : Formula → Bool) (l r n : ℕ) (a b : Formula) (s : Shape) → (kind_of s ≡ 9 → ⊥) → (kind_of s ≡ 10 → ⊥) → slot_by (formula_by s n a b) l r ≡ slot_by (recurring N (formula_by s n a b)) l r
unfolding recurring
recurring_kept N l r n a b none f g = refl
recurring_kept N l r n a b (constant c) f g = refl
recurring_kept N l r n a b (letter c) f g = refl
recurring_kept N l r n a b (unary o) f g = refl
recurring_kept N l r n a b (binary conj) f g = refl
recurring_kept N l r n a b (binary disj) f g = refl
recurring_kept N l r n a b (binary until) f g = refl
recurring_kept N l r n a b (binary weak) f g = absurd (f refl)
recurring_kept N l r n a b (binary release) f g = absurd (g refl)
recurring_kept N l r n a b (binary strong) f g = refl
recurring_kept N l r n a b (binary implies) f g = refl

told : (w : ℕ) {k : ℕ} → k ≡ kind w → kind w < 12 → k ≡ kind_of (shape (kind w))
told w is-kind small = is-kind ∙ sym (kind_of-shape (kind w) (omega arith))

module _ {w : ℕ} {chosen : Bool} {l r x k : ℕ} (is-kind : k ≡ kind w) (small : kind w < 12) (h : KeptSlot w l r x) where
  pub of_steady_kept : (k ≡ 8 → ⊥) → (k ≡ 11 → ⊥) → Rewritten Steady w chosen l r x
  of_steady_kept f g = record { is = λ M N a b _ _. h.is a b ∙ steady_kept M l r (right w) a b (shape (kind w)) (λ z. f (told w is-kind small ∙ z)) (λ z. g (told w is-kind small ∙ z)) }

  pub of_recurring_kept : (k ≡ 9 → ⊥) → (k ≡ 10 → ⊥) → Rewritten Recurring w chosen l r x
  of_recurring_kept f g = record { is = λ M N a b _ _. h.is a b ∙ recurring_kept N l r (right w) a b (shape (kind w)) (λ z. f (told w is-kind small ∙ z)) (λ z. g (told w is-kind small ∙ z)) }
