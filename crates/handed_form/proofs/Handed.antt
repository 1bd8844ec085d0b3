-- The words that are handed back, by the answer, and where they lie.
use Prim.Native.Nat.{ℕ, ◌+◌, ◌*◌, ◌-◌, ◌≤◌, min}
use native.Mathlib.Omega.{arith}
use native.Mathlib.Nat.{sub-zero, zero-add}
use mathlib.Core.Path.{◌≡◌, ap, sym, ◌∙◌}
use mathlib.Core.Bool.{true}
use mathlib.Core.List.{List, []}
use lib.ListN.{length, take}
use lib.Seq.{take_all}
use borrow.Author.Tests.{leb-true}
use Rattle.refusals.specs.declared.Refusal.{Refusal}
use Rattle.table.specs.declared.settings.Limits.{Limits}
use Rattle.table.specs.Answers.{FormAnswer}
use Rattle.table.specs.declared.answer.Form.TheVariants.{Source, Made}
use Rattle.std.specs.Prelude.{Ok, Err}
use Rattle.table.specs.Limits.{plain_limit}
use Rattle.table.specs.Header.{headed, body}
use Rattle.table.specs.Steps.{form_table}
use Rattle.table.specs.Frame.{normal_step, result_of, form_of, handed_by, handed}
use Rattle.table.proofs.Header.{accepted-headed}
use Rattle.table.proofs.Normal.{own-form, other_form, other_makes, form-source, form_made}
use Rattle.handed_form.specs.Handed.{handed_at}

-- a part from the front lies where its slice does
pub front_at : {f g : FormAnswer} (p source result : ℕ × ℕ) → f ≡ g → p ≡ handed_at g source result → ◌≡◌ {A = ℕ × ℕ} (p.0, 0 * 4 + p.1) (handed_at f source result)
front_at p source result e h = ap (λ (x : ℕ). (p.0, x)) (zero-add p.1) ∙ h ∙ ap (λ (x : FormAnswer). handed_at x source result) (sym e)

module _ (l : Limits) (s slice : List ℕ) where
  told : {f : FormAnswer} → form_of l s (length slice) ≡ f → handed_by f (headed (form_table (body s))) ≡ handed l s (length slice)
  unfolding handed
  told e = ap (λ (x : FormAnswer). handed_by x (headed (form_table (body s)))) (sym e)

  pub refused-handed : {r : Refusal} → form_of l s (length slice) ≡ Err r → [] ≡ handed l s (length slice)
  refused-handed e = told e

  module _ {n : ℕ} (e : form_of l s (length slice) ≡ Ok (Source n)) where
    pub source_within : n ≤ length s
    source_within = omega (arith, (form-source l s slice n e).long)

    pub source-handed : take (n - 0) s ≡ handed l s (length slice)
    source-handed =
        let q = form-source l s slice n e in
        take_all (n - 0) s (omega (arith, q.long)) ∙ (accepted-headed true (plain_limit l) s q.accepted).whole ∙ ap headed (sym (own-form (body s) q.normal)) ∙ told e

  module _ {n : ℕ} (e : form_of l s (length slice) ≡ Ok (Made n)) where
    pub made_within : (after : List ℕ) → length after ≡ length slice → n ≤ length after
    made_within after k = omega (arith, leb-true n (min (length slice) 16384) (form_made l s slice n e).made.fitting)

    pub made_handed : {after : List ℕ} → after ≡ result_of (normal_step l) s slice → take (n - 0) after ≡ handed l s (length slice)
    made_handed a =
        let q = form_made l s slice n e in
        rw (a, sub-zero) (q.made.front ∙ other_makes l s q.normal ∙ ap headed (sym (other_form (body s) q.normal)) ∙ told e)
