-- Truth speaks of driven letters only: a formula reads of a word the bits of its own letters and no others, so lassos that agree on what
-- they drive agree on every formula whose letters they drive.
use Prim.Native.Nat.{ℕ, suc}
use mathlib.Core.Path.{◌≡◌, sym, ◌∙◌}
use mathlib.Core.Bool.{true, false}
use mathlib.Core.Logic.Iff
use mathlib.Core.Logic.{◌↔◌}
use Rattle.logic.specs.Formula.{Formula, Unary, Binary, const, lit, un, bin, next, neg, finally, globally, conj, disj, until, weak, release, strong, implies}
use Rattle.logic.specs.Letters.{Letters}
use Rattle.logic.specs.Lasso.{Word, Lasso, letter_in, word}
use Rattle.logic.specs.Semantics.{Predicate, Always, Until, Strong, Constant, unary, binary, Holds}
use Rattle.logic.specs.Driven.{Driven, Drives, Agree}
use Rattle.logic.specs.Truth.{truth}
use Rattle.logic.proofs.Tests.{T_same, ⊎-iff, →-iff}
use Rattle.logic.proofs.Lasso.Truth.{truth-holds}

-- predicates that say the same at every position
abbrev pub Same : Predicate → Predicate → Type 0
Same P Q = (k : ℕ) → P k ↔ Q k

always_same : {P P' : Predicate} → Same P P' → Same (Always P) (Always P')
always_same f i = (λ u k h. (f k).0 (u k h), λ u k h. (f k).1 (u k h))

until_same : {P P' Q Q' : Predicate} → Same P P' → Same Q Q' → Same (Until P Q) (Until P' Q')
until_same f g i = (
  λ u. (u.0, u.1, (g u.0).0 u.2, λ j a b. (f j).0 (u.3 j a b)),
  λ u. (u.0, u.1, (g u.0).1 u.2, λ j a b. (f j).1 (u.3 j a b)),
)

strong_same : {P P' Q Q' : Predicate} → Same P P' → Same Q Q' → Same (Strong P Q) (Strong P' Q')
strong_same f g i = (
  λ u. (u.0, u.1, (f u.0).0 u.2, λ j a b. (g j).0 (u.3 j a b)),
  λ u. (u.0, u.1, (f u.0).1 u.2, λ j a b. (g j).1 (u.3 j a b)),
)

pub binary_same : (o : Binary) {P P' Q Q' : Predicate} → Same P P' → Same Q Q' → Same (binary o P Q) (binary o P' Q')
binary_same conj f g i = Iff.and (f i) (g i)
binary_same disj f g i = ⊎-iff (f i) (g i)
binary_same until f g i = until_same f g i
binary_same weak f g i = ⊎-iff (always_same f i) (until_same f g i)
binary_same release f g i = ⊎-iff (always_same g i) (strong_same f g i)
binary_same strong f g i = strong_same f g i
binary_same implies f g i = →-iff (f i) (g i)

pub unary_same : (o : Unary) {P P' : Predicate} → Same P P' → Same (unary o P) (unary o P')
unary_same next f i = f (suc i)
unary_same neg f i = →-iff (f i) Iff.rfl
unary_same finally f i = binary_same until {P = Constant true} (λ k. Iff.rfl) f i
unary_same globally f i = binary_same release {P = Constant false} (λ k. Iff.rfl) f i

-- words that have the same bits of the letters of a formula
pub same_letters : (σ τ : Word) (P : ℕ → Type 0) → ((i n : ℕ) → P n → letter_in (σ i) n ≡ letter_in (τ i) n)
    → (φ : Formula) → Letters P φ → Same (Holds σ φ) (Holds τ φ)
same_letters σ τ P e (const b) l i = Iff.rfl
same_letters σ τ P e (lit b n) l i = (λ h. sym (e i n l) ∙ h, λ h. e i n l ∙ h)
same_letters σ τ P e (un o a) l i = unary_same o (same_letters σ τ P e a l) i
same_letters σ τ P e (bin o a b) l i = binary_same o (same_letters σ τ P e a l.0) (same_letters σ τ P e b l.1) i

module _ {r r' : Lasso} (agree : Agree r r') where
  pub agree-holds : (φ : Formula) → Drives r φ → (i : ℕ) → Holds (word r) φ i ↔ Holds (word r') φ i
  agree-holds φ d i = same_letters (word r) (word r') (Driven r.driven) agree.bits φ d i

  pub agree-truth : (φ : Formula) → Drives r φ → (i : ℕ) → truth r φ i ≡ truth r' φ i
  agree-truth φ d i = T_same _ _ (Iff.trans (truth-holds r φ i) (Iff.trans (agree-holds φ d i) (Iff.symm (truth-holds r' φ i))))
