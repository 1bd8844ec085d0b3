-- Demand 3 as one claim, over the limits of a house, whatever they are, the written table with its header, both slices before and after the call, and
-- the answer.
use Rattle.std.specs.Prelude.{ℕ, ◌≡◌, ◌↔◌, ◌⊎◌, true, false, List, ◌++◌, length}
use Rattle.logic.specs.Hierarchy.{Δ₂}
use Rattle.refusals.specs.declared.Refusal.{Refusal}
use Rattle.std.specs.Prelude.{Ok, Err}
use Rattle.table.specs.Answers.{FormAnswer}
use Rattle.table.specs.declared.answer.Form.TheVariants.{Source, Made}
use Rattle.table.specs.declared.settings.Limits.{Limits}
use Rattle.refusals.specs.Refusals.{Check, first, number_of}
use Rattle.table.specs.Header.{headed, body, headed_checks, headed_checked}
use Rattle.table.specs.Limits.{is_permitted}
use Rattle.table.specs.StepChecks.{limit_checks, fixpoint_checks, result_fits}
use Rattle.table.specs.Table.{rule}
use Rattle.table.specs.Steps.{plain_table, is_normal, normal_table}
use Rattle.table.specs.Frame.{plain_step, form_checks, result_of, form_number}
use Rattle.claims.specs.FormStep.{Formed}
use Rattle.claims.specs.Whole.{whole_form, whole_result}

-- the first n words of a slice are the form of a written table: that of its plain form
abbrev pub Kept : List ℕ → List ℕ → ℕ → Type 0
Kept t form n = Formed t (plain_table (body t)) form n

-- the plain form with its header does not fit its slice; or it does, it is not its own form, 11 passes, and the normal form with its header does not
-- fit its own
abbrev pub TooLong : Limits → List ℕ → ℕ → ℕ → Type 0
TooLong l t plainSlice formSlice =
    (result_fits (length (headed (plain_table (body t)))) plainSlice ≡ false)
    ⊎ ((result_fits (length (headed (plain_table (body t)))) plainSlice ≡ true)
    × (is_normal (plain_table (body t)) ≡ false)
    × (first (fixpoint_checks l.fixpoints 1 (plain_table (body t))) ≡ Ok tt)
    × (result_fits (length (headed (normal_table (plain_table (body t))))) formSlice ≡ false))

-- the check table of the whole way: 25 of the limits, 1, 2, 23, 3 to 10 and 24 of the written table, then 11 of its plain form, where that is not its own form
abbrev pub whole_checks : Limits → List ℕ → List Check
whole_checks l t = limit_checks l ++ (headed_checks false l.written t ++ form_checks l (plain_table (body t)))

pub record Claim (l : Limits) (t plain plain' form form' : List ℕ) (f : FormAnswer) : Type 0 where
  -- the whole reply, and what both slices hold
  pub answer : f ≡ whole_form l t (length plain) (length form)
  pub plain_slice : plain' ≡ result_of (plain_step l) t plain
  pub form_slice : form' ≡ whole_result l t (length plain) form
  -- of an answered form, which stands where the plain form does, if that lies in Delta-2, or in the other slice, if it does not
  pub kept_source : (n : ℕ) → f ≡ Ok (Source n) → Kept t plain' n
  pub own_source : (n : ℕ) → f ≡ Ok (Source n) → Δ₂ (rule (plain_table (body t)))
  pub kept_made : (n : ℕ) → f ≡ Ok (Made n) → Kept t form' n
  pub other_made : (n : ℕ) → f ≡ Ok (Made n) → Δ₂ (rule (plain_table (body t))) → ⊥
  -- 12 exactly when the limits are permitted, the checks of the written table pass, and a form does not fit its slice
  pub refused_for_length : (form_number f ≡ 12)
      ↔ ((is_permitted l ≡ true) × (headed_checked false l.written t ≡ Ok tt) × TooLong l t (length plain) (length form))
  -- every other refusal is that of the check table, and that of the check table is the answer: 11 where the plain form fits its slice, since 12 is otherwise
  -- answered before it
  pub refused_by_checks : (r : Refusal) → f ≡ Err r → (number_of r ≡ 12 → ⊥) → first (whole_checks l t) ≡ Err r
  pub checks_refuse : (r : Refusal) → first (whole_checks l t) ≡ Err r
      → (number_of r ≡ 11 → result_fits (length (headed (plain_table (body t)))) (length plain) ≡ true) → f ≡ Err r
