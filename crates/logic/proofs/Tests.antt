-- Tests as statements: what `T` makes of each Bool operator, equivalence under the connectives, and a test that all of a list pass.
use Prim.Native.Nat.{ℕ, zero, suc, ◌<◌}
use mathlib.Core.Path.{◌≡◌, refl}
use mathlib.Core.Bool.{Bool, true, false, not, ◌&&◌, ◌||◌, beq, true≢false, false≢true}
use mathlib.Core.Logic.{◌↔◌, ◌⊎◌, inl, inr}
use mathlib.Core.List.{List, [], ◌∷◌}
use native.Mathlib.Omega.{arith}
use lib.ListN.{length, get_or}
use lib.Dec.{T}

pub T_and : (a b : Bool) → T (a && b) ↔ (T a × T b)
T_and true b = (λ t. (tt, t), λ p. p.1)
T_and false b = (λ t. absurd t, λ p. p.0)

pub T_or : (a b : Bool) → T (a || b) ↔ (T a ⊎ T b)
T_or true b = (λ t. inl tt, λ p. tt)
T_or false b = (λ t. inr t, λ p. elim p [ inl x ↦ absurd x | inr y ↦ y ])

pub T_same : (a b : Bool) → T a ↔ T b → a ≡ b
T_same true true e = refl
T_same true false e = absurd (e.0 tt)
T_same false true e = absurd (e.1 tt)
T_same false false e = refl

pub ⊎-iff : {A B C D : Type 0} → A ↔ C → B ↔ D → (A ⊎ B) ↔ (C ⊎ D)
⊎-iff e f =
    (λ p. elim p [ inl a ↦ inl (e.0 a) | inr b ↦ inr (f.0 b) ], λ p. elim p [ inl a ↦ inl (e.1 a) | inr b ↦ inr (f.1 b) ])

pub T-implies : (a b : Bool) → T (not a || b) ↔ (T a → T b)
T-implies true b = (λ t u. t, λ f. f tt)
T-implies false b = (λ t u. absurd u, λ f. tt)

pub T-beq : (b x : Bool) → T (beq b x) ↔ (x ≡ b)
T-beq true true = (λ t. refl, λ e. tt)
T-beq true false = (λ t. absurd t, λ e. false≢true e)
T-beq false true = (λ t. absurd t, λ e. true≢false e)
T-beq false false = (λ t. refl, λ e. tt)

pub →-iff : {A B C D : Type 0} → A ↔ C → B ↔ D → (A → B) ↔ (C → D)
→-iff e f = (λ h c. f.0 (h (e.1 c)), λ h a. f.1 (h (e.0 a)))

pub T-decided : (b : Bool) → T b ⊎ (T b → ⊥)
T-decided true = inl tt
T-decided false = inr (λ t. t)

-- a test that every element of a list passes makes each element right that it makes right
unfoldable pub all_pass : {A : Type 0} → (A → Bool) → List A → Bool
all_pass test [] = true
all_pass test (x ∷ xs) = test x && all_pass test xs

pub pass_at : {A : Type 0} (test : A → Bool) (Right : A → Type 0) → ((x : A) → T (test x) → Right x)
    → (xs : List A) → T (all_pass test xs) → (i : ℕ) → i < length xs → (d : A) → Right (get_or xs i d)
unfolding all_pass
pass_at test Right right [] h i l d = absurd (omega arith)
pass_at test Right right (x ∷ xs) h zero l d = right x ((T_and (test x) (all_pass test xs)).0 h).0
pass_at test Right right (x ∷ xs) h (suc i) l d = pass_at test Right right xs ((T_and (test x) (all_pass test xs)).0 h).1 i (omega arith) d
