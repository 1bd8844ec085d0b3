-- How the plain-form step ends.
use Prim.Native.Nat.{ℕ}
use mathlib.Core.Path.{◌≡◌, ◌∙◌}
use mathlib.Core.Bool.{true, false}
use mathlib.Core.List.{List}
use Rattle.refusals.specs.declared.Refusal.{Refusal}
use Rattle.refusals.specs.declared.Refusal.TheVariants.{LimitsOutside}
use Rattle.std.specs.Prelude.{Ok, Err}
use Rattle.table.specs.Answers.{Answer}
use Rattle.table.specs.declared.settings.Limits.{Limits}
use Rattle.table.specs.Frame.{plain_step}
use Rattle.table.proofs.Frame.{plain-early}
use Rattle.table.proofs.Stated.{permitted, permitted-checks, outside-checks}
use Rattle.table.specs.Limits.{is_permitted}
use Rattle.table.specs.Header.{headed, body, headed_checks, headed_checked}
use Rattle.table.proofs.Header.{accepted-headed}
use Rattle.table.specs.Steps.{plain_table}
use Rattle.placing.specs.Written.{Ends}
use Rattle.placing.proofs.Written.{ends-refused}
use Rattle.headed_answers.specs.Finished.{Given}
use Rattle.headed_answers.proofs.Ends.{given_ends}
use Rattle.plain_answers.specs.Formable.{Formable}

module _ (l : Limits) (t result : List ℕ) where
  pub outside : is_permitted l ≡ false → Ends (plain_step l) t result (Err LimitsOutside) result
  outside h = ends-refused (plain_step l) t result (plain-early l) LimitsOutside (outside-checks l _ h)

  module _ (p : is_permitted l ≡ true) where
    pub refused : (r : Refusal) → headed_checked false l.written t ≡ Err r → Ends (plain_step l) t result (Err r) result
    unfolding headed_checked
    refused r e = ends-refused (plain_step l) t result (plain-early l) r (permitted-checks l (headed_checks false l.written t) p ∙ e)

    -- the words of an accepted table have a plain form
    module _ (ok : headed_checked false l.written t ≡ Ok tt) where
      pub formable : Formable (body t)
      formable = record { limit = l.written; accepted = (accepted-headed false l.written t ok).words; small = (permitted l p).written }

      pub given : {e : List ℕ} {r : Answer} → Given (headed (plain_table (body t))) result e r → Ends (plain_step l) t result r e
      unfolding headed_checked
      given g = given_ends (plain_step l) t result (permitted-checks l (headed_checks false l.written t) p ∙ ok) g
