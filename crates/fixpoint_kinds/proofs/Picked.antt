-- Which words are least and which are greatest fixpoints, by their kinds.
use Prim.Native.Nat.{ℕ, ◌≤◌, ◌<◌}
use mathlib.Core.Path.{◌≡◌, refl, sym, ap, ◌∙◌}
use mathlib.Core.Logic.{◌⊎◌, inl, inr}
use mathlib.Core.Bool.{true, false}
use Rattle.logic.specs.Formula.{Formula, Binary, bin, conj, disj, until, weak, release, strong, implies}
use Rattle.table.specs.Node.{Shape, none, constant, letter, unary, binary, kind, shape, kind_of, binary_kind}
use Rattle.table.specs.Table.{formula_by}
use Rattle.table.proofs.Shapes.{kind_of-shape, shape-binary}
use Rattle.fixpoint_kinds.specs.declared.Fixpoint.{Fixpoint}
use Rattle.fixpoint_kinds.specs.declared.Fixpoint.TheVariants.{Least, Greatest}
use Rattle.rewriting.specs.Slots.{word_by}
use Rattle.fixpoint_kinds.specs.Kinds.{picks}
use Rattle.table.proofs.KindRanges.{two}

not_least : (s : Shape) (n : ℕ) (a b : Formula) → (kind_of s ≡ 8 → ⊥) → (kind_of s ≡ 11 → ⊥) → false ≡ picks Least (formula_by s n a b)
not_least none n a b f g = refl
not_least (constant c) n a b f g = refl
not_least (letter c) n a b f g = refl
not_least (unary o) n a b f g = refl
not_least (binary conj) n a b f g = refl
not_least (binary disj) n a b f g = refl
not_least (binary until) n a b f g = absurd (f refl)
not_least (binary weak) n a b f g = refl
not_least (binary release) n a b f g = refl
not_least (binary strong) n a b f g = absurd (g refl)
not_least (binary implies) n a b f g = refl

not_greatest : (s : Shape) (n : ℕ) (a b : Formula) → (kind_of s ≡ 9 → ⊥) → (kind_of s ≡ 10 → ⊥) → false ≡ picks Greatest (formula_by s n a b)
not_greatest none n a b f g = refl
not_greatest (constant c) n a b f g = refl
not_greatest (letter c) n a b f g = refl
not_greatest (unary o) n a b f g = refl
not_greatest (binary conj) n a b f g = refl
not_greatest (binary disj) n a b f g = refl
not_greatest (binary until) n a b f g = refl
not_greatest (binary weak) n a b f g = absurd (f refl)
not_greatest (binary release) n a b f g = absurd (g refl)
not_greatest (binary strong) n a b f g = refl
not_greatest (binary implies) n a b f g = refl

module _ (w : ℕ) {k : ℕ} (is-kind : k ≡ kind w) where
  picked : (x : Fixpoint) (o : Binary) → k ≡ binary_kind o → ((a b : Formula) → true ≡ picks x (bin o a b)) → (a b : Formula) → true ≡ picks x (word_by w a b)
  picked x o e f a b = let q : shape (kind w) ≡ binary o = ap shape (sym is-kind ∙ e) ∙ shape-binary o in rw q (f a b)

  pub picked_least : (k ≡ 8) ⊎ (k ≡ 11) → (a b : Formula) → true ≡ picks Least (word_by w a b)
  picked_least (inl e) = picked Least until e (λ a b. refl)
  picked_least (inr e) = picked Least strong e (λ a b. refl)

  pub picked-greatest : 9 ≤ k → k < 11 → (a b : Formula) → true ≡ picks Greatest (word_by w a b)
  picked-greatest h l = go (two 9 k h l)
    where
      go : (k ≡ 9) ⊎ (k ≡ 10) → (a b : Formula) → true ≡ picks Greatest (word_by w a b)
      go (inl e) = picked Greatest weak e (λ a b. refl)
      go (inr e) = picked Greatest release e (λ a b. refl)

  module _ (small : kind w < 16) where
    of_kind : {n : ℕ} → (k ≡ n → ⊥) → kind_of (shape (kind w)) ≡ n → ⊥
    of_kind f e = f (is-kind ∙ sym (kind_of-shape (kind w) small) ∙ e)

    pub passed_least : ((k ≡ 8) ⊎ (k ≡ 11) → ⊥) → (a b : Formula) → false ≡ picks Least (word_by w a b)
    passed_least f a b = not_least (shape (kind w)) _ a b (of_kind (λ e. f (inl e))) (of_kind (λ e. f (inr e)))

    pub passed_greatest : (k ≡ 9 → ⊥) → (k ≡ 10 → ⊥) → (a b : Formula) → false ≡ picks Greatest (word_by w a b)
    passed_greatest f g a b = not_greatest (shape (kind w)) _ a b (of_kind f) (of_kind g)
