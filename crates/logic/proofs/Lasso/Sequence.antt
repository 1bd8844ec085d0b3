-- Sequences of Bools: what a sweep finds, sweeps of periodic sequences, and the sweep as a fixpoint of the whole future.
-- A fixpoint is least or greatest by the answer c that a sweep gives where nothing decides it: false is U and M, true is W and R.
use Prim.Native.Nat.{ℕ, zero, suc, ◌+◌, ◌-◌, ◌*◌, ◌/◌, ◌%◌, ◌≤◌, ◌<◌}
use mathlib.Core.Path.{◌≡◌, refl, sym, ap, ◌∙◌, subst}
use mathlib.Core.Bool.{Bool, ◌&&◌, ◌||◌}
use mathlib.Core.Logic.Iff
use mathlib.Core.Logic.{◌↔◌, ◌⊎◌, inl, inr}
use native.Mathlib.Nat.{suc-add, add-suc, add-zero, zero-add, div-add-mod', eq-or-lt_of_le, zero-mul, sub-add_cancel}
use native.Mathlib.Omega.{arith}
use native.Mathlib.Decide.{dec_lt}
use lib.Dec.{T}
use Rattle.logic.specs.Semantics.{Predicate, Always, Until}
use Rattle.logic.proofs.Tests.{T_and, T_or, T_same, ⊎-iff}
use Rattle.logic.specs.Truth.{Sequence, sweep}

-- a sequence as a predicate
abbrev pub At : Sequence → Predicate
At f i = T (f i)

-- within the n positions from i on: a goal reached while q holds, or q at all of them and the answer c
abbrev pub Reached : Sequence → Sequence → ℕ → ℕ → Type 0
Reached g q i n = (k : ℕ) × (i ≤ k) × (k < i + n) × At g k × ((j : ℕ) → i ≤ j → j < k → At q j)

abbrev pub Throughout : Sequence → ℕ → ℕ → Type 0
Throughout q i n = (j : ℕ) → i ≤ j → j < i + n → At q j

abbrev pub Swept : Sequence → Sequence → Bool → ℕ → ℕ → Type 0
Swept g q c i n = Reached g q i n ⊎ (T c × Throughout q i n)

-- q at i, and q from the next position on, is q from i on
from_next : (q : Sequence) (i k : ℕ) → At q i → ((j : ℕ) → suc i ≤ j → j < k → At q j) → (j : ℕ) → i ≤ j → j < k → At q j
from_next q i k h t j a b = elim (eq-or-lt_of_le a) [ inl e ↦ subst (At q) e h | inr l ↦ t j l b ]

swept_step : (g q : Sequence) (c : Bool) (i n : ℕ) → (At g i ⊎ (At q i × Swept g q c (suc i) n)) ↔ Swept g q c i (suc n)
swept_step g q c i n = (there, back)
  where
    there : At g i ⊎ (At q i × Swept g q c (suc i) n) → Swept g q c i (suc n)
    there (inl t) = inl (i, omega arith, omega arith, t, λ j a b. absurd (omega arith))
    there (inr p) =
        elim p.1 [
          | inl u ↦ inl (u.0, omega arith, omega arith, u.3, from_next q i u.0 p.0 u.4)
          | inr v ↦ inr (v.0, from_next q i (i + suc n) p.0 (λ j a b. v.1 j a (omega arith)))
        ]

    back : Swept g q c i (suc n) → At g i ⊎ (At q i × Swept g q c (suc i) n)
    back (inl u) =
        elim (eq-or-lt_of_le u.1) [
          | inl e ↦ inl (subst (At g) (sym e) u.3)
          | inr l ↦ inr (u.4 i (omega arith) l, inl (u.0, l, omega arith, u.3, λ j a b. u.4 j (omega arith) b))
        ]
    back (inr v) = inr (v.1 i (omega arith) (omega arith), inr (v.0, λ j a b. v.1 j (omega arith) (omega arith)))

pub sweep-finds : (g q : Sequence) (c : Bool) (i n : ℕ) → T (sweep g q c i n) ↔ Swept g q c i n
unfolding sweep
sweep-finds g q c i zero = (λ t. inr (t, λ j a b. absurd (omega arith)), λ w. elim w [ inl u ↦ absurd (omega arith) | inr v ↦ v.0 ])
sweep-finds g q c i (suc n) =
    Iff.trans
    (T_or (g i) (q i && sweep g q c (suc i) n))
    (Iff.trans
    (⊎-iff Iff.rfl (Iff.trans (T_and (q i) (sweep g q c (suc i) n)) (Iff.and Iff.rfl (sweep-finds g q c (suc i) n))))
    (swept_step g q c i n))

-- f repeats from s on with period p
abbrev pub Periodic : ℕ → ℕ → Sequence → Type 0
Periodic s p f = (i : ℕ) → s ≤ i → f (i + p) ≡ f i

-- the whole future from i on: a goal reached while Q holds, or Q for ever and the answer c
abbrev pub Fixpoint : Predicate → Predicate → Bool → Predicate
Fixpoint G Q c i = Until Q G i ⊎ (T c × Always Q i)

module _ (s p : ℕ) where
  pub periodic_times : (f : Sequence) → Periodic s p f → (m i : ℕ) → s ≤ i → f (i + m * p) ≡ f i
  periodic_times f F zero i h = rw (zero-mul, add-zero)
  periodic_times f F (suc m) i h =
      ap f (omega arith) ∙ F (i + m * p) (omega arith) ∙ periodic_times f F m i h

  -- the position of the loop that d positions after its start have
  pub periodic_mod : (f : Sequence) → Periodic s p f → (d : ℕ) → f (s + d) ≡ f (s + d % p)
  periodic_mod f F d = ap f (omega (arith, div-add-mod' d p)) ∙ periodic_times f F (d / p) (s + d % p) (omega arith)

  pub sweep-shift : (g q : Sequence) (c : Bool) → Periodic s p g → Periodic s p q → (i n : ℕ) → s ≤ i → sweep g q c (i + p) n ≡ sweep g q c i n
  unfolding sweep
  sweep-shift g q c G Q i zero h = refl
  sweep-shift g q c G Q i (suc n) h =
      cc (G i h, Q i h, suc-add i p, sweep-shift g q c G Q (suc i) n (omega arith))

  -- n positions from i on that hold a whole period of the loop stand for all positions from i on
  window : (i n : ℕ) → 0 < p → p ≤ n → s + p ≤ i + n → (P : Predicate)
      → ((k : ℕ) → i ≤ k → k < i + n → P k) → ((k : ℕ) → i ≤ k → s ≤ k → P k → P (k + p)) → (k : ℕ) → i ≤ k → P k
  window i n pos long wide P base step k h = go (suc k) k h (omega arith)
    where
      go : (m k : ℕ) → i ≤ k → k < m → P k
      go zero k a b = absurd (omega arith)
      go (suc m) k a b =
          elim (dec_lt k (i + n)) [
            | yes l ↦ base k a l
            | no f ↦ subst P (sub-add_cancel (omega arith)) (step (k - p) (omega arith) (omega arith) (go m (k - p) (omega arith) (omega arith)))
          ]

  pub sweep_future : (g q : Sequence) (c : Bool) → Periodic s p g → Periodic s p q
      → (i n : ℕ) → 0 < p → p ≤ n → s + p ≤ i + n → T (sweep g q c i n) ↔ Fixpoint (At g) (At q) c i
  sweep_future g q c G Q i n pos long wide = Iff.trans (sweep-finds g q c i n) (⊎-iff (reach, near) (Iff.and Iff.rfl (all, λ t j a b. t j a)))
    where
      reach : Reached g q i n → Until (At q) (At g) i
      reach u = (u.0, u.1, u.3, u.4)

      all : Throughout q i n → Always (At q) i
      all t = window i n pos long wide (At q) t (λ k a b. subst T (sym (Q k b)))

      -- a goal k + p brings the goal k
      near : Until (At q) (At g) i → Reached g q i n
      near u =
          window i n pos long wide (λ k. At g k → ((j : ℕ) → i ≤ j → j < k → At q j) → Reached g q i n)
          (λ k a b t w. (k, a, b, t, w))
          (λ k a b f t w. f (subst T (G k b) t) (λ j x y. w j x (omega arith)))
          u.0 u.1 u.2 u.3

  -- two windows that are both wide enough give one answer
  pub sweep-wide : (g q : Sequence) (c : Bool) → Periodic s p g → Periodic s p q
      → (i m n : ℕ) → 0 < p → p ≤ m → s + p ≤ i + m → p ≤ n → s + p ≤ i + n → sweep g q c i m ≡ sweep g q c i n
  sweep-wide g q c G Q i m n pos a b x y =
      T_same (sweep g q c i m) (sweep g q c i n)
      (Iff.trans (sweep_future g q c G Q i m pos a b) (Iff.symm (sweep_future g q c G Q i n pos x y)))

-- one sweep after another
pub sweep-append : (g q : Sequence) (c : Bool) (i m n : ℕ) → sweep g q c i (m + n) ≡ sweep g q (sweep g q c (i + m) n) i m
unfolding sweep
sweep-append g q c i zero n = rw (zero-add, add-zero)
sweep-append g q c i (suc m) n =
    let long : suc m + n ≡ suc (m + n) = omega arith in
    let along : suc i + m ≡ i + suc m = omega arith in
    ap (λ (k : ℕ). sweep g q c i k) long
    ∙ ap (λ (x : Bool). g i || (q i && x)) (sweep-append g q c (suc i) m n ∙ ap (λ (k : ℕ). sweep g q (sweep g q c k n) (suc i) m) along)
