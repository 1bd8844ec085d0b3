-- What the words of a table are refused for, and then their uses.
use Rattle.std.specs.Prelude.{ℕ, ◌-◌, Bool, List, [], length}
use Rattle.refusals.specs.Refusals.{Outcome}
use Rattle.refusals.specs.Refusals.{first}
use Rattle.table.specs.Checks.{words_checks, use_checks}
use Rattle.field_checks.specs.Field.{and_then}

abbrev pub contents : Bool → List ℕ → Outcome
contents plain_only t = and_then (first (words_checks plain_only [] t)) (first (use_checks t 1 (length t - 1)))
