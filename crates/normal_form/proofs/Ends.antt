-- How the normal-form step ends with a refused table and with a table that is its own form, and that an accepted table is its words under their header.
use Prim.Native.Nat.{ℕ}
use mathlib.Core.Path.{◌≡◌, sym, subst, ◌∙◌}
use mathlib.Core.Bool.{true, false}
use mathlib.Core.List.{List, ◌++◌}
use lib.ListN.{length}
use Rattle.refusals.specs.declared.Refusal.{Refusal}
use Rattle.refusals.specs.declared.Refusal.TheVariants.{LimitsOutside}
use Rattle.std.specs.Prelude.{Ok, Err}
use Rattle.table.specs.Answers.{FormAnswer}
use Rattle.table.specs.declared.answer.Form.TheVariants as form
use Rattle.table.specs.declared.settings.Limits.{Limits}
use Rattle.refusals.specs.Refusals.{Check}
use Rattle.table.specs.Limits.{is_permitted, plain_limit}
use Rattle.table.specs.Header.{headed, body, headed_checks, headed_checked}
use Rattle.table.specs.Steps.{is_normal}
use Rattle.table.specs.Frame.{form_checks, normal_step}
use Rattle.refusals.proofs.First.{first_append-refused}
use Rattle.table.proofs.Header.{accepted-headed}
use Rattle.table.proofs.Frame.{normal-early}
use Rattle.table.proofs.Normal.{own-answer, own-result}
use Rattle.table.proofs.Stated.{permitted-checks, outside-checks}
use Rattle.placing.proofs.Written.{ends-refused}
use Rattle.rewritten_form.specs.Forms.{Formed, Rewritable}
use Rattle.rewritten_form.proofs.Ends.{ends-formed}

module _ (l : Limits) (t result : List ℕ) where
  -- the checks of a table by permitted limits, and those after them
  abbrev rest : List Check
  rest = headed_checks true (plain_limit l) t ++ form_checks l (body t)

  pub outside : is_permitted l ≡ false → Formed l t result (Err LimitsOutside) result
  outside h = ends-formed l t result (ends-refused (normal_step l) t result (normal-early l) LimitsOutside (outside-checks l rest h))

  module _ (p : is_permitted l ≡ true) where
    pub table-refused : (r : Refusal) → headed_checked true (plain_limit l) t ≡ Err r → Formed l t result (Err r) result
    unfolding headed_checked
    table-refused r e =
        ends-formed l t result (ends-refused (normal_step l) t result (normal-early l) r
        (permitted-checks l rest p ∙ first_append-refused (headed_checks true (plain_limit l) t) (form_checks l (body t)) r e))

    module _ (a : headed_checked true (plain_limit l) t ≡ Ok tt) where
      pub own : is_normal (body t) ≡ true → Formed l t result (Ok (form.Source (length t))) result
      own n = rw n at (ends-formed l t result (record { reply = sym (own-answer l t result p a n); slice = sym (own-result l t result p a n) }))

-- an accepted table is its words under their header
module _ (l : Limits) (t : List ℕ) where
  pub rewritable : is_permitted l ≡ true → headed_checked true (plain_limit l) t ≡ Ok tt → is_normal (body t) ≡ false → Rewritable l (body t)
  rewritable p a n = record { permitted = p; accepted = subst (λ (u : List ℕ). headed_checked true (plain_limit l) u ≡ Ok tt) (accepted-headed true (plain_limit l) t a).whole a; other = n }

  pub rewritten : {result e : List ℕ} {f : FormAnswer} → headed_checked true (plain_limit l) t ≡ Ok tt → Formed l (headed (body t)) result f e → Formed l t result f e
  rewritten {result} {e} {f} a q = subst (λ (u : List ℕ). Formed l u result f e) (sym (accepted-headed true (plain_limit l) t a).whole) q
