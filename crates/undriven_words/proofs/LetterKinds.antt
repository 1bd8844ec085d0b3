-- Kinds 3 and 4 are those of letters: which words name one that is not driven.
use Prim.Native.Nat.{ℕ, zero, suc, ◌<◌, ◌≤◌}
use mathlib.Core.Path.{◌≡◌, refl, sym, ap, ◌∙◌}
use mathlib.Core.Bool.{Bool, true, false, ◌&&◌}
use mathlib.Core.List.{List, [], ◌∷◌}
use native.Mathlib.Omega.{arith}
use lib.Dec.{ltb}
use lib.ListN.{get_or, drop}
use Rattle.table.specs.Node.{Shape, none, kind, right, shapes, shape, right_field}
use Rattle.table.specs.Checks.{is_proposition}
use Rattle.table.specs.StepChecks.{is_undriven}

-- none of the listed shapes is a letter's
abbrev NoLetters : List Shape → Type 0
NoLetters [] = Unit {0}
NoLetters (s ∷ l) = (is_proposition (right_field s) ≡ false) × NoLetters l

no_letter : (l : List Shape) → NoLetters l → (k : ℕ) → is_proposition (right_field (get_or l k none)) ≡ false
no_letter [] f k = refl
no_letter (s ∷ l) f zero = f.0
no_letter (s ∷ l) f (suc k) = no_letter l f.1 k

letter-kind : (k : ℕ) → 3 ≤ k → k < 5 → is_proposition (right_field (shape k)) ≡ true
unfolding shape
letter-kind zero h l = absurd (omega arith)
letter-kind (suc zero) h l = absurd (omega arith)
letter-kind (suc (suc zero)) h l = absurd (omega arith)
letter-kind (suc (suc (suc zero))) h l = refl
letter-kind (suc (suc (suc (suc zero)))) h l = refl
letter-kind (suc (suc (suc (suc (suc k))))) h l = absurd (omega arith)

below_letters : (k : ℕ) → k < 3 → is_proposition (right_field (shape k)) ≡ false
unfolding shape
below_letters zero h = refl
below_letters (suc zero) h = refl
below_letters (suc (suc zero)) h = refl
below_letters (suc (suc (suc k))) h = absurd (omega arith)

above_letters : (k : ℕ) → 5 ≤ k → is_proposition (right_field (shape k)) ≡ false
unfolding shape
above_letters zero h = absurd (omega arith)
above_letters (suc zero) h = absurd (omega arith)
above_letters (suc (suc zero)) h = absurd (omega arith)
above_letters (suc (suc (suc zero))) h = absurd (omega arith)
above_letters (suc (suc (suc (suc zero)))) h = absurd (omega arith)
above_letters (suc (suc (suc (suc (suc k))))) h = no_letter (drop 5 shapes) (refl, (refl, (refl, (refl, (refl, (refl, (refl, (refl, (refl, (refl, (refl, tt))))))))))) k

module _ (driven w : ℕ) {k : ℕ} (e : k ≡ kind w) where
  pub undriven_within : {n : ℕ} → 3 ≤ k → k < 5 → n ≡ right w → ltb driven n ≡ is_undriven driven w
  undriven_within h l f = ap (ltb driven) f ∙ sym (ap (λ (b : Bool). b && ltb driven (right w)) (ap (λ (x : ℕ). is_proposition (right_field (shape x))) (sym e) ∙ letter-kind k h l))

  pub undriven_below : k < 3 → false ≡ is_undriven driven w
  undriven_below h = sym (ap (λ (b : Bool). b && ltb driven (right w)) (ap (λ (x : ℕ). is_proposition (right_field (shape x))) (sym e) ∙ below_letters k h))

  pub undriven_above : 5 ≤ k → false ≡ is_undriven driven w
  undriven_above h = sym (ap (λ (b : Bool). b && ltb driven (right w)) (ap (λ (x : ℕ). is_proposition (right_field (shape x))) (sym e) ∙ above_letters k h))
