-- What the normal-form step answers of a plain table, which need be no rule's plain form (document 01, "Normal form"; document 02, N11).
use Rattle.std.specs.Prelude.{ℕ, ◌+◌, ◌*◌, ◌^◌, ◌≤◌, ◌≡◌, ◌↔◌, true, false, List, length, take}
use Rattle.logic.specs.Letters.{Lacks}
use Rattle.logic.specs.Lasso.{Lasso, word}
use Rattle.logic.specs.Driven.{Drives}
use Rattle.logic.specs.Semantics.{Holds}
use Rattle.logic.specs.Hierarchy.{Δ₂}
use Rattle.std.specs.Prelude.{Ok}
use Rattle.refusals.specs.Refusals.{first}
use Rattle.table.specs.Header.{headed, body, headed_checked}
use Rattle.table.specs.Limits.{most_words}
use Rattle.table.specs.StepChecks.{letter_checks}
use Rattle.table.specs.Table.{rule}
use Rattle.table.specs.Steps.{fixpoints, form_table}

-- n words of a plain table, k of them until-like, make a form of at most so many words
abbrev pub bound : ℕ → ℕ → ℕ
bound n k = 2 ^ k * (5 * n + 3 * k + 1) + 2

-- the first n words of a slice, which has as many, are the form of plain words p, made for the rule of a table t, form and table each with its header before
-- it: the defined words, after the header that is theirs. Of the words after the header: they hold at every position of every lasso that drives the rule's
-- letters where the rule does; they lie in Delta-2; they are no more than the bound; they name no letter that the rule lacks, so every lasso that drives the
-- rule's letters drives theirs. And so the judge refuses the form for no reason that it does not have for the table, but 16, by the form's own rows: the
-- checks of a table pass for it, and 21 for every driven count for which it passes for the rule. It is a plain table, as the class step and the dialect take
pub record Formed (t p form : List ℕ) (n : ℕ) : Type 0 where
  pub words : take n form ≡ headed (form_table p)
  pub long : length (take n form) ≡ n
  pub holds : (r : Lasso) → Drives r (rule (body t)) → (i : ℕ) → Holds (word r) (rule (body (take n form))) i ↔ Holds (word r) (rule (body t)) i
  pub class : Δ₂ (rule (body (take n form)))
  pub short : length (body (take n form)) ≤ bound (length p) (length (fixpoints p))
  pub letters : (m : ℕ) → Lacks m (rule (body t)) → Lacks m (rule (body (take n form)))
  pub drives : (r : Lasso) → Drives r (rule (body t)) → Drives r (rule (body (take n form)))
  pub accepted : headed_checked false most_words (take n form) ≡ Ok tt
  pub plain : headed_checked true most_words (take n form) ≡ Ok tt
  pub driven : (k : ℕ) → first (letter_checks k 1 (body t)) ≡ Ok tt → first (letter_checks k 1 (body (take n form))) ≡ Ok tt

-- n words were made of a source s: it does not lie in Delta-2, and its form stands at the front of the slice
pub record MadeForm (s slice : List ℕ) (n : ℕ) : Type 0 where
  pub other : Δ₂ (rule (body s)) → ⊥
  pub form : Formed s (body s) slice n

-- a source s of n words is its own form: it lies in Delta-2, its form is the whole of it, and the slice is what it was
pub record OwnForm (s slice slice' : List ℕ) (n : ℕ) : Type 0 where
  pub own : Δ₂ (rule (body s))
  pub whole : n ≡ length s
  pub form : Formed s (body s) s n
  pub kept : slice' ≡ slice
