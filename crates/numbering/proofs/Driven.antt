-- Check 21 and the rule: it passes an accepted table exactly where every letter of the rule is driven.
use Prim.Native.Nat.{ℕ, suc}
use native.Mathlib.Omega.{arith}
use mathlib.Core.Path.{◌≡◌, subst}
use mathlib.Core.Logic.{◌↔◌}
use mathlib.Core.Bool.{Bool}
use mathlib.Core.List.{List}
use lib.ListN.{length, get_or}
use Rattle.logic.specs.Letters.{Letters}
use Rattle.logic.specs.Driven.{Driven}
use Rattle.transforms.proofs.Letters.{letters-sub}
use Rattle.std.specs.Prelude.{Ok}
use Rattle.refusals.specs.Refusals.{first}
use Rattle.table.specs.Node.{kind, right, shape}
use Rattle.table.specs.Table.{formula_of, rule}
use Rattle.table.specs.StepChecks.{letter_checks}
use Rattle.table.proofs.Accepted.{WellFormed, accepted-formula}
use Rattle.table.proofs.Letters.{letter_by, WordsDriven, driven-words, formulas-driven}
use Rattle.numbering.proofs.Subformulas.{word-sub}

module _ {plain_only : Bool} {limit : ℕ} {t : List ℕ} (f : WellFormed plain_only limit t) (k : ℕ) where
  -- a word's letter is one of the rule's
  rule-driven : Letters (Driven k) (rule t) → WordsDriven k t
  unfolding formula_of
  rule-driven l i h e =
      (letter_by (Driven k) (shape (kind (get_or t i 0))) (right (get_or t i 0)) _ _ e
      (subst (Letters (Driven k)) (accepted-formula f i h) (letters-sub (Driven k) (word-sub f (suc i) (omega arith) h) l))).1

  pub driven-exactly : (first (letter_checks k 1 t) ≡ Ok tt) ↔ Letters (Driven k) (rule t)
  unfolding rule
  driven-exactly = (λ e. formulas-driven f k e (length t) (omega arith), λ l. driven-words k 1 t (rule-driven l))
