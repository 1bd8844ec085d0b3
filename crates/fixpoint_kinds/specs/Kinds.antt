-- The kinds of fixpoints: which formulas are such, and what their conjuncts are made of.
use Rattle.std.specs.Prelude.{ℕ, Bool}
use Rattle.logic.specs.Formula.{Formula}
use Rattle.transforms.specs.NormalForm.{is_least, is_greatest}
use Rattle.form_places.specs.declared.Rewriting.TheVariants.{Steady, Recurring}
use Rattle.form_places.specs.Places.{place, finally_slot, globally_slot}
use Rattle.fixpoint_kinds.specs.declared.Fixpoint.{Fixpoint}
use Rattle.fixpoint_kinds.specs.declared.Fixpoint.TheVariants.{Least, Greatest}

abbrev pub picks : Fixpoint → Formula → Bool
picks Least φ = is_least φ
picks Greatest φ = is_greatest φ

-- what the conjunct of word j is made of: its form, and the inner operator over it
abbrev pub form_slot : Fixpoint → ℕ → ℕ
form_slot Least j = place Recurring j
form_slot Greatest j = place Steady j

abbrev pub inner_slot : Fixpoint → ℕ → ℕ
inner_slot Least i = finally_slot i
inner_slot Greatest i = globally_slot i
