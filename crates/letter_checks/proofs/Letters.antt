-- Check 21 word by word: what the words passed leave to be checked.
use Prim.Native.Nat.{ℕ, suc, ◌+◌, ◌<◌, ◌≤◌}
use mathlib.Core.Path.{◌≡◌, refl, sym, ap, ◌∙◌}
use mathlib.Core.Bool.{Bool, true, false}
use mathlib.Core.List.{List}
use native.Mathlib.Numerals.{add-one}
use native.Mathlib.Omega.{arith}
use lib.ListN.{length, get_or, drop}
use lib.Seq.{drop-cons, drop-length}
use Rattle.refusals.specs.declared.Refusal.TheVariants.{LetterNotDriven}
use Rattle.std.specs.Prelude.{Ok, Err}
use Rattle.refusals.specs.Refusals.{first, decide_by}
use Rattle.table.specs.StepChecks.{is_undriven, letter_checks}

-- the first i words are passed
pub record Passing (t : List ℕ) (driven i : ℕ) : Type 0 where
  pub within : i ≤ length t
  pub left : first (letter_checks driven 1 t) ≡ first (letter_checks driven (suc i) (drop i t))

pub passing_none : (t : List ℕ) (driven : ℕ) → Passing t driven 0
passing_none t driven = record { within = omega arith; left = refl }

module _ {t : List ℕ} {driven i : ℕ} (p : Passing t driven i) where
  module _ (h : i < length t) {b : Bool} (e : b ≡ is_undriven driven (get_or t i 0)) where
    here : first (letter_checks driven 1 t) ≡ decide_by b (LetterNotDriven (suc i)) (first (letter_checks driven (suc (suc i)) (drop (suc i) t)))
    unfolding letter_checks
    here =
        p.left
        ∙ ap (λ (ws : List ℕ). first (letter_checks driven (suc i) ws)) (drop-cons t i 0 h)
        ∙ ap (λ (x : Bool). decide_by x (LetterNotDriven (suc i)) (first (letter_checks driven (suc (suc i)) (drop (suc i) t)))) (sym e)

    pub passing_refused : b ≡ true → Err (LetterNotDriven (i + 1)) ≡ first (letter_checks driven 1 t)
    passing_refused f = ap (λ (n : ℕ). Err (LetterNotDriven n)) (add-one i) ∙ sym (rw f at here)

    pub passing_next : b ≡ false → Passing t driven (i + 1)
    passing_next f = rw (add-one i) (record { within = h; left = rw f at here })

  pub passing_all : length t ≤ i → (Ok tt) ≡ first (letter_checks driven 1 t)
  unfolding letter_checks
  passing_all h =
      let n : i ≡ length t = omega (arith, p.within) in
      sym (p.left ∙ ap (λ (ws : List ℕ). first (letter_checks driven (suc i) ws)) (ap (λ (m : ℕ). drop m t) n ∙ drop-length t))
