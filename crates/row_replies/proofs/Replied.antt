-- The row call's reply in lent numbers.
use Prim.Native.Nat.{ℕ, ◌-◌, ◌*◌}
use mathlib.Core.Path.{◌≡◌, sym, ap, ap₂, ◌∙◌}
use native.Mathlib.Omega.{arith}
use Rattle.refusals.specs.declared.Refusal.{Refusal}
use Rattle.refusals.specs.Refusals.{Outcome}
use Rattle.std.specs.Prelude.{Ok, Err}
use Rattle.row_words.specs.Row.{row_words}
use Rattle.judge_replies.specs.Replies.{row_from, row_length}

pub row-accepted : {o : Outcome} (table samples : ℕ) {width from words : ℕ} → o ≡ Ok tt → width ≡ row_words samples
    → from ≡ (table - 2) * width → words ≡ width → (from ≡ row_from o (table - 1) samples) × (words ≡ row_length o samples)
row-accepted table samples e wide f w =
    let back = sym e in
    let before : table - 2 ≡ table - 1 - 1 = omega arith in (
      f ∙ ap₂ (λ (n w : ℕ). n * w) before wide ∙ ap (λ (o : Outcome). row_from o (table - 1) samples) back,
      w ∙ wide ∙ ap (λ (o : Outcome). row_length o samples) back,
    )

pub row-refused : {o : Outcome} {why : Refusal} (table samples : ℕ) {from words : ℕ} → o ≡ Err why
    → from ≡ 0 → words ≡ 0 → (from ≡ row_from o table samples) × (words ≡ row_length o samples)
row-refused table samples e f w =
    let back = sym e in
    (f ∙ ap (λ (o : Outcome). row_from o table samples) back, w ∙ ap (λ (o : Outcome). row_length o samples) back)
