-- A lasso repeats from its loop start on, and so does the truth of every formula.
use Prim.Native.Nat.{ℕ, suc, ◌+◌, ◌-◌, ◌%◌, ◌≤◌, ◌<◌}
use mathlib.Core.Path.{◌≡◌, refl, sym, ap, ap₂, ◌∙◌}
use mathlib.Core.Bool.{Bool, true, false, cond, beq}
use mathlib.Core.List.{List}
use native.Mathlib.Nat.{suc-add, mod-eq_of_lt, mod-lt, add-mod_right}
use native.Mathlib.Omega.{arith}
use native.Mathlib.Decide.{dec_lt, dec_le}
use lib.ListN.{length, get_or}
use lib.Dec.{ltb}
use borrow.Author.Tests.{ltb-true, lt-ltb}
use Rattle.logic.specs.Formula.{Formula, const, lit, un, bin}
use Rattle.logic.specs.Lasso.{Lasso, letter_in, place, word, lasso_by, lasso_of}
use Rattle.logic.specs.Truth.{Sequence, Operation, each, shifted, fixpoint, unary_operation, binary_operation, across, applied, truth}
use Rattle.logic.proofs.Lasso.Sequence.{Periodic, periodic_mod, sweep-shift}

-- the number of samples, and the length of the loop
abbrev pub size : Lasso → ℕ
size r = length r.samples

abbrev pub period : Lasso → ℕ
period r = size r - r.start

-- samples, a loop start that is inside and a driven count of at most 32 are a lasso
abbrev pub Inside : List ℕ → ℕ → ℕ → Type 0
Inside samples start driven =
    (h : start < length samples) × (k : driven ≤ 32)
    × (lasso_of samples start driven ≡ record { samples = samples; start = start; driven = driven; inside = h; few = k })

pub lasso_inside : (samples : List ℕ) (start driven : ℕ) → start < length samples → driven ≤ 32 → Inside samples start driven
unfolding lasso_of
lasso_inside samples start driven h k = by (dec_lt start (length samples)) (dec_le driven 32)
  where
    by : (d : Dec (start < length samples)) (e : Dec (driven ≤ 32))
        → (i : start < length samples) × (j : driven ≤ 32)
        × (lasso_by samples start driven d e ≡ record { samples = samples; start = start; driven = driven; inside = i; few = j })
    by (yes i) (yes j) = (i, j, refl)
    by (yes i) (no j) = absurd (j k)
    by (no i) e = absurd (i h)

-- below L a position is its own place
pub place_below : (L s i : ℕ) → i < L → place L s i ≡ i
unfolding place
place_below L s i h = rw (lt-ltb i L h)

-- from s on it is found round the loop
pub place_loop : (L s i : ℕ) → s < L → s ≤ i → place L s i ≡ s + (i - s) % (L - s)
unfolding place
place_loop L s i l h = go (ltb i L) refl
  where
    go : (b : Bool) → ltb i L ≡ b → cond b i (s + (i - s) % (L - s)) ≡ s + (i - s) % (L - s)
    go true e =
        let a : i < L = ltb-true i L e in
        rw (mod-eq_of_lt {n = i - s} {m = L - s} (omega arith)) (omega arith)
    go false e = refl

pub place-periodic : (L s i : ℕ) → s < L → s ≤ i → place L s (i + (L - s)) ≡ place L s i
place-periodic L s i l h =
    place_loop L s (i + (L - s)) l (omega arith)
    ∙ ap (λ d. s + d % (L - s)) (omega arith)
    ∙ ap (λ d. s + d) (add-mod_right (i - s) (L - s))
    ∙ sym (place_loop L s i l h)

-- a place is a sample's
pub place_lt : (L s i : ℕ) → s < L → place L s i < L
place_lt L s i l =
    elim (dec_lt i L) [
      | yes h ↦ rw (place_below L s i h) h
      | no f ↦ rw (place_loop L s i l (omega arith)) (omega (arith, mod-lt (i - s) {m = L - s} (omega arith)))
    ]

-- and from s on it is in the loop
pub place_ge : (L s i : ℕ) → s < L → s ≤ i → s ≤ place L s i
place_ge L s i l h = rw (place_loop L s i l h) (omega arith)

pub word-periodic : (r : Lasso) (i : ℕ) → r.start ≤ i → word r (i + period r) ≡ word r i
unfolding word
word-periodic r i h = ap (λ k. get_or r.samples k 0) (place-periodic (size r) r.start i r.inside h)

operation-periodic : (s p L : ℕ) (o : Operation) (f g : Sequence) → Periodic s p f → Periodic s p g → Periodic s p (applied L o f g)
operation-periodic s p L (each t) f g F G i h = ap₂ t (F i h) (G i h)
operation-periodic s p L shifted f g F G i h = ap g (sym (suc-add i p)) ∙ G (suc i) (omega arith)
operation-periodic s p L (fixpoint goal keep c) f g F G i h =
    sweep-shift s p (across goal f g) (across keep f g) c (λ k a. ap₂ goal (F k a) (G k a)) (λ k a. ap₂ keep (F k a) (G k a)) i L h

pub periodic : (r : Lasso) (φ : Formula) (i : ℕ) → r.start ≤ i → truth r φ (i + period r) ≡ truth r φ i
unfolding truth
periodic r (const b) i h = refl
periodic r (lit b n) i h = ap (λ v. beq b (letter_in v n)) (word-periodic r i h)
periodic r (un o a) i h = operation-periodic r.start (period r) (size r) (unary_operation o) (truth r a) (truth r a) (periodic r a) (periodic r a) i h
periodic r (bin o a b) i h = operation-periodic r.start (period r) (size r) (binary_operation o) (truth r a) (truth r b) (periodic r a) (periodic r b) i h

-- truth at a position is truth at the position of its sample
pub truth-place : (r : Lasso) (φ : Formula) (i : ℕ) → truth r φ i ≡ truth r φ (place (size r) r.start i)
truth-place r φ i =
    elim (dec_lt i (size r)) [
      | yes h ↦ ap (truth r φ) (sym (place_below (size r) r.start i h))
      | no f ↦ looped (omega (arith, r.inside))
    ]
  where
    looped : r.start ≤ i → truth r φ i ≡ truth r φ (place (size r) r.start i)
    looped h =
        ap (truth r φ) (omega arith)
        ∙ periodic_mod r.start (period r) (truth r φ) (periodic r φ) (i - r.start)
        ∙ ap (truth r φ) (sym (place_loop (size r) r.start i r.inside h))
