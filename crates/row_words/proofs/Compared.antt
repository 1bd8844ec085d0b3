-- Two rows compared word by word.
use mathlib.Core.Path.{◌≡◌, refl, sym, ap, ap₂, subst, ◌∙◌}
use mathlib.Core.Bool.{true}
use mathlib.Core.Logic.{◌↔◌}
use Prim.Native.Nat.{ℕ, ◌+◌, ◌<◌}
use native.Mathlib.Decide.{dec_lt}
use native.Mathlib.Omega.{arith}
use lib.Bits.{bit_or, bit_xor, or_self, xor_self}
use lib.Dec.{eqb}
use borrow.Author.Tests.{eqb-true, eq-eqb}
use Rattle.logic.specs.Truth.{Sequence}
use Rattle.row_words.specs.Row.{row_words, word_of, row}
use Rattle.row_words.proofs.Bits.{or_none, xor_none}
use Rattle.row_words.proofs.Rows.{in_row, row_ext, by_words}

-- what holds of the first w numbers, and of w
and_next : (Q : ℕ → Type 0) (w : ℕ) → ((v : ℕ) → v < w → Q v) → Q w → (v : ℕ) → v < w + 1 → Q v
and_next Q w h q v l = elim (dec_lt v w) [ yes k ↦ h v k | no k ↦ let e : w ≡ v = omega arith in subst Q e q ]

-- ---- what differs between words, joined by or

-- the first n words of the one are those of the other
abbrev pub Alike : (ℕ → ℕ) → (ℕ → ℕ) → ℕ → Type 0
Alike x y n = (v : ℕ) → v < n → x v ≡ y v

-- d is 0 just where the first n words are alike
abbrev pub Tells : ℕ → (ℕ → ℕ) → (ℕ → ℕ) → ℕ → Type 0
Tells d x y n = (d ≡ 0) ↔ Alike x y n

pub tells_none : (x y : ℕ → ℕ) → Tells 0 x y 0
tells_none x y = (λ z v l. absurd (omega arith), λ h. refl)

pub tells_next : {x y : ℕ → ℕ} (w d : ℕ) {a b : ℕ} → a ≡ x w → b ≡ y w → Tells d x y w → Tells (bit_or d (bit_xor a b)) x y (w + 1)
tells_next {x} {y} w d {a} {b} ea eb t = (
  λ z. let none = or_none d (bit_xor a b) z in and_next (λ v. x v ≡ y v) w (t.0 none.0) (sym ea ∙ xor_none a b none.1 ∙ eb),
  λ h.
      ap₂ bit_or (t.1 (λ v l. h v (omega arith))) (ap (λ (k : ℕ). bit_xor k b) (ea ∙ h w (omega arith) ∙ sym eb) ∙ xor_self b)
      ∙ or_self 0,
)

-- ---- rows by their words

module _ (L : ℕ) (f g : Sequence) where
  pub row_words_lem : row L f ≡ row L g → (w : ℕ) → w < row_words L → word_of L f w ≡ word_of L g w
  row_words_lem e w h = sym (in_row L f (row L f) refl w h) ∙ in_row L g (row L f) e w h

  pub same_rows : (x y : ℕ → ℕ) → ((w : ℕ) → w < row_words L → x w ≡ word_of L f w) → ((w : ℕ) → w < row_words L → y w ≡ word_of L g w)
      → Alike x y (row_words L) ↔ (row L f ≡ row L g)
  same_rows x y ef eg = (
    λ h. row_ext L f g (by_words L f g (λ w l. sym (ef w l) ∙ h w l ∙ eg w l)),
    λ e w l. ef w l ∙ row_words_lem e w l ∙ sym (eg w l),
  )

  -- what differs between all words tells whether the rows do
  pub rows_told : {x y : ℕ → ℕ} {n d : ℕ} → n ≡ row_words L → Tells d x y n → ((w : ℕ) → w < row_words L → x w ≡ word_of L f w)
      → ((w : ℕ) → w < row_words L → y w ≡ word_of L g w) → (eqb d 0 ≡ true) ↔ (row L f ≡ row L g)
  rows_told {x} {y} {n} {d} e t ef eg =
      let s = same_rows x y ef eg in
      let u = subst (Tells d x y) e t in
      (λ q. s.0 (u.0 (eqb-true d 0 q)), λ r. eq-eqb d 0 (u.1 (s.1 r)))
