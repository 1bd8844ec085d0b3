-- The smallest classes of a formula by the bits of its class byte, and what is made of its states.
use Prim.Native.Nat.{ℕ, suc, ◌+◌, ◌<◌, ◌≤◌}
use native.Mathlib.Omega.{arith}
use mathlib.Core.Path.{◌≡◌, refl, ap, ◌∙◌}
use mathlib.Core.Bool.{Bool, true, false, not, ◌&&◌, ◌||◌, cond}
use mathlib.Core.List.{List, [], ◌∷◌, map}
use lib.ListN.{length, get_or}
use lib.Dec.{T, eqb}
use Rattle.logic.specs.Bit.{bit}
use Rattle.logic.specs.Formula.{Formula, const}
use Rattle.logic.specs.ClassByte.{tests, test_all, class_byte, in_Σ₁, in_Π₁, in_Σ₂, in_Π₂}
use Rattle.transforms.specs.NormalForm.{keep}
use Rattle.logic.proofs.Hierarchy.Bits.{of_bits-bit}
use Rattle.automata.specs.Positive.{Positive, any_of}
use Rattle.automata_laws.specs.StateClass.{StateClass, sigma₁, pi₁, sigma₂, pi₂, class_bit, in_class, within, every, is_smallest, smallest_in}
use Rattle.automata_laws.specs.FormulaAutomaton.{State}
use Rattle.table.specs.Table.{formulas}
use Rattle.automata_tables.specs.States.{is_state, state_words, states_from, states, number_from, number_of}
use Rattle.automata_tables.proofs.States.{words-length}
use Rattle.state_classes.specs.Kept.{Kept}
use Rattle.state_slots.proofs.Classes.{given, joined}
use Rattle.class_bits.specs.Levels.{second_class}
use Rattle.word_states.specs.States.{shown}

-- ---- the bits

-- a bit of the class byte is the test of its class
pub bit-class : (φ : Formula) (b : ℕ) → bit (class_byte φ) b ≡ get_or (test_all tests φ) b false
unfolding bit class_byte
bit-class φ b = ap (λ (n : ℕ). eqb n 1) (of_bits-bit (test_all tests φ) b) ∙ digit (get_or (test_all tests φ) b false)
  where
    digit : (t : Bool) → eqb (cond t 1 0) 1 ≡ t
    digit true = refl
    digit false = refl

pub bit_of : (φ : Formula) (Γ : StateClass) → bit (class_byte φ) (class_bit Γ) ≡ in_class Γ φ
bit_of φ sigma₁ = bit-class φ 1
bit_of φ pi₁ = bit-class φ 2
bit_of φ sigma₂ = bit-class φ 4
bit_of φ pi₂ = bit-class φ 5

-- ---- the smallest classes

-- by whether the formula is in each of the classes below, and in the class itself
keeping : (Γ : StateClass) (a b c : Bool) → cond (a && true) (sigma₁ ∷ cond (b && true) (pi₁ ∷ cond (c && not (a || (b || false))) (Γ ∷ []) []) (cond (c && not (a || (b || false))) (Γ ∷ []) []))
    (cond (b && true) (pi₁ ∷ cond (c && not (a || (b || false))) (Γ ∷ []) []) (cond (c && not (a || (b || false))) (Γ ∷ []) []))
    ≡ cond a (cond b (sigma₁ ∷ pi₁ ∷ []) (sigma₁ ∷ [])) (cond b (pi₁ ∷ []) (cond c (Γ ∷ []) []))
keeping Γ true true true = refl
keeping Γ true true false = refl
keeping Γ true false true = refl
keeping Γ true false false = refl
keeping Γ false true true = refl
keeping Γ false true false = refl
keeping Γ false false true = refl
keeping Γ false false false = refl

keeping_one : (Γ : StateClass) (a : Bool) → cond (a && true) (Γ ∷ []) [] ≡ cond a (Γ ∷ []) []
keeping_one Γ true = refl
keeping_one Γ false = refl

module _ (φ : Formula) where
  pub sigma-smallest : smallest_in (within sigma₁) φ ≡ cond (in_Σ₁ φ) (sigma₁ ∷ []) []
  unfolding smallest_in
  sigma-smallest = keeping_one sigma₁ (in_Σ₁ φ)

  pub pi-smallest : smallest_in (within pi₁) φ ≡ cond (in_Π₁ φ) (pi₁ ∷ []) []
  unfolding smallest_in
  pi-smallest = keeping_one pi₁ (in_Π₁ φ)

  pub second-smallest : (upper : Bool) → smallest_in (within (second_class upper)) φ
      ≡ cond (in_Σ₁ φ) (cond (in_Π₁ φ) (sigma₁ ∷ pi₁ ∷ []) (sigma₁ ∷ [])) (cond (in_Π₁ φ) (pi₁ ∷ []) (cond (in_class (second_class upper) φ) (second_class upper ∷ []) []))
  unfolding smallest_in
  second-smallest true = keeping pi₂ (in_Σ₁ φ) (in_Π₁ φ) (in_Π₂ φ)
  second-smallest false = keeping sigma₂ (in_Σ₁ φ) (in_Π₁ φ) (in_Σ₂ φ)

-- a smallest class is the only one among itself and those within it
only_own : (Γ : StateClass) (a b c : Bool) → T (c && not (a || (b || false)))
    → cond a (cond b (sigma₁ ∷ pi₁ ∷ []) (sigma₁ ∷ [])) (cond b (pi₁ ∷ []) (cond c (Γ ∷ []) [])) ≡ Γ ∷ []
only_own Γ true b true s = absurd s
only_own Γ true b false s = absurd s
only_own Γ false true true s = absurd s
only_own Γ false true false s = absurd s
only_own Γ false false true s = refl
only_own Γ false false false s = absurd s

only_one : (Γ : StateClass) (a : Bool) → T (a && true) → cond a (Γ ∷ []) [] ≡ Γ ∷ []
only_one Γ true s = refl
only_one Γ false s = absurd s

pub own-smallest : (φ : Formula) (Γ : StateClass) → T (is_smallest φ Γ) → smallest_in (within Γ) φ ≡ Γ ∷ []
own-smallest φ sigma₁ s = sigma-smallest φ ∙ only_one sigma₁ (in_Σ₁ φ) s
own-smallest φ pi₁ s = pi-smallest φ ∙ only_one pi₁ (in_Π₁ φ) s
own-smallest φ sigma₂ s = second-smallest φ false ∙ only_own sigma₂ (in_Σ₁ φ) (in_Π₁ φ) (in_Σ₂ φ) s
own-smallest φ pi₂ s = second-smallest φ true ∙ only_own pi₂ (in_Σ₁ φ) (in_Π₁ φ) (in_Π₂ φ) s

-- among all four: those of the first level, or else those of the second
abbrev pick : (a b c d : Bool) → StateClass → Bool
pick a b c d sigma₁ = a && true
pick a b c d pi₁ = b && true
pick a b c d sigma₂ = c && not (a || (b || false))
pick a b c d pi₂ = d && not (a || (b || false))

keeping-every : (a b c d : Bool) → keep (pick a b c d) every
    ≡ cond (cond (a || b) a c) (cond (cond (a || b) b d) (cond (a || b) sigma₁ sigma₂ ∷ cond (a || b) pi₁ pi₂ ∷ []) (cond (a || b) sigma₁ sigma₂ ∷ []))
    (cond (cond (a || b) b d) (cond (a || b) pi₁ pi₂ ∷ []) [])
keeping-every true true true true = refl
keeping-every true true true false = refl
keeping-every true true false true = refl
keeping-every true true false false = refl
keeping-every true false true true = refl
keeping-every true false true false = refl
keeping-every true false false true = refl
keeping-every true false false false = refl
keeping-every false true true true = refl
keeping-every false true true false = refl
keeping-every false true false true = refl
keeping-every false true false false = refl
keeping-every false false true true = refl
keeping-every false false true false = refl
keeping-every false false false true = refl
keeping-every false false false false = refl

module _ (φ : Formula) where
  -- the level at which a formula has its states
  abbrev pub low : Bool
  low = in_Σ₁ φ || in_Π₁ φ

  abbrev pub sigma_class : StateClass
  sigma_class = cond low sigma₁ sigma₂

  abbrev pub pi_class : StateClass
  pi_class = cond low pi₁ pi₂

  abbrev pub has_sigma : Bool
  has_sigma = cond low (in_Σ₁ φ) (in_Σ₂ φ)

  abbrev pub has_pi : Bool
  has_pi = cond low (in_Π₁ φ) (in_Π₂ φ)

  pub every-smallest : smallest_in every φ ≡ cond has_sigma (cond has_pi (sigma_class ∷ pi_class ∷ []) (sigma_class ∷ [])) (cond has_pi (pi_class ∷ []) [])
  unfolding smallest_in
  every-smallest = keeping-every (in_Σ₁ φ) (in_Π₁ φ) (in_Σ₂ φ) (in_Π₂ φ)

-- ---- what is made of the states of a word

module _ (t : List ℕ) (f : StateClass → Positive State) where
  one_shown : (Γ : StateClass) (a : Bool) → shown t (any_of (map f (cond a (Γ ∷ []) []))) ≡ given a (shown t (f Γ))
  one_shown Γ true = refl
  one_shown Γ false = refl

  some-shown : (Γ Δ Θ : StateClass) (a b c : Bool)
      → shown t (any_of (map f (cond a (cond b (Γ ∷ Δ ∷ []) (Γ ∷ [])) (cond b (Δ ∷ []) (cond c (Θ ∷ []) []))))) ≡ joined a b c (shown t (f Γ)) (shown t (f Δ)) (shown t (f Θ))
  some-shown Γ Δ Θ true true c = refl
  some-shown Γ Δ Θ true false c = refl
  some-shown Γ Δ Θ false true c = refl
  some-shown Γ Δ Θ false false true = refl
  some-shown Γ Δ Θ false false false = refl

  module _ (φ : Formula) where
    pub sigma-shown : shown t (any_of (map f (smallest_in (within sigma₁) φ))) ≡ given (in_Σ₁ φ) (shown t (f sigma₁))
    sigma-shown = rw (sigma-smallest φ) (one_shown sigma₁ (in_Σ₁ φ))

    pub pi-shown : shown t (any_of (map f (smallest_in (within pi₁) φ))) ≡ given (in_Π₁ φ) (shown t (f pi₁))
    pi-shown = rw (pi-smallest φ) (one_shown pi₁ (in_Π₁ φ))

    pub second-shown : (upper : Bool) → shown t (any_of (map f (smallest_in (within (second_class upper)) φ)))
        ≡ joined (in_Σ₁ φ) (in_Π₁ φ) (in_class (second_class upper) φ) (shown t (f sigma₁)) (shown t (f pi₁)) (shown t (f (second_class upper)))
    second-shown upper = rw (second-smallest φ upper) (some-shown sigma₁ pi₁ (second_class upper) (in_Σ₁ φ) (in_Π₁ φ) (in_class (second_class upper) φ))

    pub every-shown : shown t (any_of (map f (smallest_in every φ))) ≡ joined (has_sigma φ) (has_pi φ) false (shown t (f (sigma_class φ))) (shown t (f (pi_class φ))) (const false)
    every-shown = rw (every-smallest φ) (some-shown (sigma_class φ) (pi_class φ) sigma₁ (has_sigma φ) (has_pi φ) false)

-- ---- the numbers of states

number_le : (n : ℕ) (l : List State) (q : State) → number_from n l q ≤ n + length l
unfolding number_from
number_le n [] q = omega arith
number_le n (p ∷ ps) q = go (is_state p q) (number_le (suc n) ps q)
  where
    go : (b : Bool) → number_from (suc n) ps q ≤ suc n + length ps → cond b (suc n) (number_from (suc n) ps q) ≤ n + suc (length ps)
    go true h = omega arith
    go false h = omega arith

pub number_small : {t bytes starts : List ℕ} → Kept t bytes starts → (q : State) → number_of t q < 16384
unfolding number_of states state_words
number_small {t} k q = omega (arith, number_le 0 (states_from (formulas t)) q, words-length 1 (formulas t), k.few)
