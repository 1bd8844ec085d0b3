-- Where two lassos differ, X as often as positions come before, and then a letter that differs, tells them apart.
use Prim.Native.Nat.{ℕ, zero, suc, ◌+◌}
use mathlib.Core.Path.{◌≡◌, refl, sym, subst, ◌∙◌}
use mathlib.Core.Bool.{Bool, true, false}
use mathlib.Core.Logic.Iff
use mathlib.Core.Logic.{◌↔◌, ◌⊎◌, inl, inr}
use native.Mathlib.Nat.{add-zero, zero-add, add-suc, suc-add}
use Rattle.logic.specs.Formula.{Formula, lit}
use Rattle.logic.specs.Letters.{Letters}
use Rattle.logic.specs.Lasso.{Word, Lasso, letter_in, word}
use Rattle.logic.specs.Semantics.{Holds}
use Rattle.logic.specs.Driven.{Driven}
use Rattle.agreement.specs.Difference.{FirstDifference}
use Rattle.agreement.specs.Telling.{later, LettersAndNext, TellsApart}

later-simple : (m : ℕ) (b : Bool) (n : ℕ) → LettersAndNext (later m (lit b n))
later-simple zero b n = tt
later-simple (suc m) b n = (tt, later-simple m b n)

later-letters : (P : ℕ → Type 0) (m : ℕ) (b : Bool) (n : ℕ) → P n → Letters P (later m (lit b n))
later-letters P zero b n h = h
later-letters P (suc m) b n h = later-letters P m b n h

-- X, m times, speaks of m positions later
pub later-holds : (σ : Word) (φ : Formula) (m i : ℕ) → Holds σ (later m φ) i ↔ Holds σ φ (i + m)
later-holds σ φ zero i = subst (λ (j : ℕ). Holds σ φ i ↔ Holds σ φ j) (sym (add-zero i)) Iff.rfl
later-holds σ φ (suc m) i = subst (λ (j : ℕ). Holds σ (later m φ) (suc i) ↔ Holds σ φ j) (suc-add i m ∙ sym (add-suc i m)) (later-holds σ φ m (suc i))

module _ {r r' : Lasso} (counts : r.driven ≡ r'.driven) {m : ℕ} (d : FirstDifference r r' m) where
  abbrev n : ℕ
  n = d.letter

  at : (σ : Word) (b : Bool) → Holds σ (later m (lit b n)) 0 ↔ (letter_in (σ m) n ≡ b)
  at σ b = subst (λ (j : ℕ). Holds σ (later m (lit b n)) 0 ↔ (letter_in (σ j) n ≡ b)) (zero-add m) (later-holds σ (lit b n) m 0)

  driven' : Driven r'.driven n
  driven' = subst (λ (k : ℕ). Driven k n) counts d.driven

  -- the letter where it holds in the first, and its denial where it doesn't
  pub told-apart : TellsApart r r' (later m (lit (letter_in (word r m) n) n))
  told-apart =
      let b : Bool = letter_in (word r m) n in
      record {
        simple = later-simple m b n;
        drives = later-letters (Driven r.driven) m b n d.driven;
        drives' = later-letters (Driven r'.driven) m b n driven';
        holds = (at (word r) b).1 refl;
        fails = λ h. d.there (sym ((at (word r') b).0 h));
      }

  told_apart' : TellsApart r' r (later m (lit (letter_in (word r' m) n) n))
  told_apart' =
      let b : Bool = letter_in (word r' m) n in
      record {
        simple = later-simple m b n;
        drives = later-letters (Driven r'.driven) m b n driven';
        drives' = later-letters (Driven r.driven) m b n d.driven;
        holds = (at (word r') b).1 refl;
        fails = λ h. d.there ((at (word r) b).0 h);
      }

  -- the letter itself, without a denial, holds under X in one of the two alone
  pub told_by_letter : TellsApart r r' (later m (lit true n)) ⊎ TellsApart r' r (later m (lit true n))
  told_by_letter = go (letter_in (word r m) n) (letter_in (word r' m) n) refl refl
    where
      go : (b b' : Bool) → letter_in (word r m) n ≡ b → letter_in (word r' m) n ≡ b'
          → TellsApart r r' (later m (lit true n)) ⊎ TellsApart r' r (later m (lit true n))
      go true b' e e' = inl (subst (λ (b : Bool). TellsApart r r' (later m (lit b n))) e told-apart)
      go false true e e' = inr (subst (λ (b : Bool). TellsApart r' r (later m (lit b n))) e' told_apart')
      go false false e e' = absurd (d.there (e ∙ sym e'))
