-- Every plain operator is monotone: what its operands entail from a position on, it entails at that position.
use Prim.Native.Nat.{ℕ, ◌≤◌}
use native.Mathlib.Nat.{le_refl, le_trans}
use mathlib.Core.Logic.{inl, inr, ⊎_map}
use lib.Dec.{T}
use Rattle.logic.specs.Formula.{Binary, conj, disj, until, weak, release, strong, implies}
use Rattle.logic.specs.Semantics.{Predicate, Always, Until, Weak, Release, Strong, binary}
use Rattle.logic.specs.NegationNormalForm.{plain_binary}

-- from a position on, P implies Q
abbrev pub Entails : Predicate → Predicate → Predicate
Entails P Q i = (k : ℕ) → i ≤ k → P k → Q k

-- what holds, or is entailed, from a position on is so from a later one on
pub always-later : {P : Predicate} {i j : ℕ} → i ≤ j → Always P i → Always P j
always-later h p k jk = p k (le_trans h jk)

pub entails_later : {P Q : Predicate} {i j : ℕ} → i ≤ j → Entails P Q i → Entails P Q j
entails_later h f k jk = f k (le_trans h jk)

pub until_mono : {P P' Q Q' : Predicate} {i : ℕ} → Entails P P' i → Entails Q Q' i → Until P Q i → Until P' Q' i
until_mono f g u = (u.0, u.1, g u.0 u.1 u.2, λ j a b. f j a (u.3 j a b))

pub strong_mono : {P P' Q Q' : Predicate} {i : ℕ} → Entails P P' i → Entails Q Q' i → Strong P Q i → Strong P' Q' i
strong_mono f g u = (u.0, u.1, f u.0 u.1 u.2, λ j a b. g j a (u.3 j a b))

pub weak_mono : {P P' Q Q' : Predicate} {i : ℕ} → Entails P P' i → Entails Q Q' i → Weak P Q i → Weak P' Q' i
weak_mono f g (inl p) = inl (λ k ik. f k ik (p k ik))
weak_mono f g (inr u) = inr (until_mono f g u)

pub release_mono : {P P' Q Q' : Predicate} {i : ℕ} → Entails P P' i → Entails Q Q' i → Release P Q i → Release P' Q' i
release_mono f g (inl q) = inl (λ k ik. g k ik (q k ik))
release_mono f g (inr u) = inr (strong_mono f g u)

pub binary_mono : (o : Binary) → T (plain_binary o) → {P P' Q Q' : Predicate} {i : ℕ} → Entails P P' i → Entails Q Q' i
    → binary o P Q i → binary o P' Q' i
binary_mono conj t {i} f g x = (f i (le_refl i) x.0, g i (le_refl i) x.1)
binary_mono disj t {i} f g x = ⊎_map (f i (le_refl i)) (g i (le_refl i)) x
binary_mono until t f g x = until_mono f g x
binary_mono weak t f g x = weak_mono f g x
binary_mono release t f g x = release_mono f g x
binary_mono strong t f g x = strong_mono f g x
binary_mono implies t f g x = absurd t
