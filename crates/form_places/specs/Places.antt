-- The slots of a choice's draft: where the rewritings of a word stand, and G and F over a slot.
use Rattle.std.specs.Prelude.{ℕ, ◌+◌, ◌*◌, ◌^◌, ◌<◌}
use Rattle.logic.specs.Formula.{until, release}
use Rattle.table.specs.Node.{left, right, binary_kind}
use Rattle.slots.specs.Slot.{pack}
use Rattle.form_places.specs.declared.Rewriting.{Rewriting}
use Rattle.form_places.specs.declared.Rewriting.TheVariants.{Steady, Recurring, Opening}

-- where the rewriting of word j stands
abbrev pub place : Rewriting → ℕ → ℕ
place Steady j = 5 * j
place Recurring j = 5 * j + 1
place Opening j = 5 * j + 4

-- the slots of a word's operands fit the fields of a slot
pub record Narrow (w : ℕ) : Type 0 where
  pub left_fits : place Opening (left w) < 2 ^ 20
  pub right_fits : place Opening (right w) < 2 ^ 20

-- G and F over slot i: the constants false and true are at the slots 0 and 1
abbrev pub globally_slot : ℕ → ℕ
globally_slot i = pack (binary_kind release) 0 i

abbrev pub finally_slot : ℕ → ℕ
finally_slot i = pack (binary_kind until) 1 i
