-- A recording read position by position: the place of the next position, and what a comparison comes to, one position at a time.
use Prim.Native.Nat.{ℕ, suc, ◌+◌, ◌-◌, ◌%◌, ◌≤◌, ◌<◌}
use mathlib.Core.Path.{◌≡◌, refl, sym, ap, ap₂, ◌∙◌}
use mathlib.Core.Bool.{true, false, cond}
use mathlib.Core.List.{List}
use native.Mathlib.Nat.{suc-mod, mod-eq_of_lt, mod-lt, mod_self}
use native.Mathlib.Decide.{dec_lt}
use native.Mathlib.Omega.{arith}
use lib.ListN.{length, get_or}
use lib.Dec.{ltb}
use borrow.Author.Tests.{lt-ltb, le-ltb}
use Rattle.logic.specs.Lasso.{Word, place, word, lasso_of}
use Rattle.logic.proofs.Lasso.Period.{place_below, place_loop, lasso_inside}
use Rattle.std.specs.Prelude.{None, Some, Ok}
use Rattle.agreement.specs.Comparing.{alike, difference_in, window, compared}

-- the place of the position after one: the next sample, or after the last the one at the loop start
pub place_next : (L s i : ℕ) → s < L → place L s (suc i) ≡ cond (ltb (place L s i + 1) L) (place L s i + 1) s
place_next L s i h =
    elim (dec_lt (suc i) L) [
      | yes l ↦ place_below L s (suc i) l ∙ rw (place_below L s i (omega arith), lt-ltb (i + 1) L (omega arith)) (omega arith)
      | no l ↦ looped (omega arith)
    ]
  where
    -- round the loop, d positions after its start
    turned : (d r : ℕ) → r ≡ d % (L - s) → s + suc d % (L - s) ≡ cond (ltb (s + r + 1) L) (s + r + 1) s
    turned d r e =
        let b : d % (L - s) < L - s = mod-lt d (omega arith) in
        elim (dec_lt (suc r) (L - s)) [
          | yes l ↦
              ap (λ (x : ℕ). s + x) (suc-mod d (L - s) ∙ ap (λ (x : ℕ). suc x % (L - s)) (sym e) ∙ mod-eq_of_lt l)
              ∙ rw (lt-ltb (s + r + 1) L (omega arith)) (omega arith)
          | no l ↦
              let last : suc r ≡ L - s = omega arith in
              ap (λ (x : ℕ). s + x) (suc-mod d (L - s) ∙ ap (λ (x : ℕ). suc x % (L - s)) (sym e) ∙ ap (λ (x : ℕ). x % (L - s)) last ∙ mod_self (L - s))
              ∙ rw (le-ltb (s + r + 1) L (omega arith)) (omega arith)
        ]

    looped : L ≤ suc i → place L s (suc i) ≡ cond (ltb (place L s i + 1) L) (place L s i + 1) s
    looped l =
        let d : suc i - s ≡ suc (i - s) = omega arith in
        place_loop L s (suc i) h (omega arith) ∙ ap (λ (x : ℕ). s + x % (L - s)) d ∙ turned (i - s) ((i - s) % (L - s)) refl
        ∙ ap (λ (x : ℕ). cond (ltb (x + 1) L) (x + 1) s) (sym (place_loop L s i h (omega arith)))

-- what samples with a loop start read as
abbrev pub reading : List ℕ → ℕ → Word
reading samples start i = get_or samples (place (length samples) start i) 0

pub compared-reading : (samples : List ℕ) (start : ℕ) (others : List ℕ) (start' driven : ℕ)
    → start < length samples → start' < length others → driven ≤ 32
    → compared (lasso_of samples start driven) (lasso_of others start' driven)
    ≡ difference_in driven (reading samples start) (reading others start') 0 (window (length samples) start (length others) start')
unfolding compared word
compared-reading samples start others start' driven h h' k =
    ap₂ compared (lasso_inside samples start driven h k).2 (lasso_inside others start' driven h' k).2

module _ (k : ℕ) (σ τ : Word) where
  -- n positions in all, of which i are passed
  pub passed_same : (i n : ℕ) → i < n → alike k (σ i) (τ i) ≡ true → difference_in k σ τ i (n - i) ≡ difference_in k σ τ (i + 1) (n - (i + 1))
  unfolding difference_in
  passed_same i n h e =
      let d : n - i ≡ suc (n - (i + 1)) = omega arith in
      let j : suc i ≡ i + 1 = omega arith in
      rw (d, e) (ap (λ (x : ℕ). difference_in k σ τ x (n - (i + 1))) j)

  pub passed_differ : (i n : ℕ) → i < n → alike k (σ i) (τ i) ≡ false → difference_in k σ τ i (n - i) ≡ Ok (Some i)
  unfolding difference_in
  passed_differ i n h e = let d : n - i ≡ suc (n - (i + 1)) = omega arith in rw (d, e)

  pub passed_all : (i n : ℕ) → n ≤ i → difference_in k σ τ i (n - i) ≡ Ok None
  unfolding difference_in
  passed_all i n h = let d : n - i ≡ 0 = omega arith in rw d
