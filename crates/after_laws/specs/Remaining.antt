-- What a step by the sample v leaves (document 02, N12), of a table s and the table u that is made of it, each with its header; body gives the words
-- after it. So many letters are driven: 1 to that one.
use Rattle.std.specs.Prelude.{ℕ, suc, ◌≡◌, ◌↔◌, true, List}
use Rattle.logic.specs.Lasso.{Word}
use Rattle.logic.specs.Letters.{Lacks}
use Rattle.logic.specs.Driven.{SameBits}
use Rattle.logic.specs.Semantics.{Holds}
use Rattle.std.specs.Prelude.{Ok}
use Rattle.refusals.specs.Refusals.{first}
use Rattle.table.specs.Table.{rule}
use Rattle.table.specs.Header.{headed, body, headed_checked}
use Rattle.table.specs.StepChecks.{sample_checks}
use Rattle.table.specs.Steps.{after_table}

pub record Remaining (v driven : ℕ) (s u : List ℕ) : Type 0 where
  -- the defined words under their header, which are an accepted plain table
  pub words : u ≡ headed (after_table v (body s))
  pub accepted : headed_checked true 16383 u ≡ Ok tt
  -- over every word, so over every lasso, and at every position that has the sample's driven bits: it holds from the next position on exactly if
  -- its source holds at this one
  pub holds : (σ : Word) (i : ℕ) → SameBits driven (σ i) v → Holds σ (rule (body u)) (suc i) ↔ Holds σ (rule (body s)) i
  -- it names no letter that its source lacks, so 22 and 21 pass again
  pub lacks : (n : ℕ) → Lacks n (rule (body s)) → Lacks n (rule (body u))
  pub sampled : first (sample_checks driven (body u)) ≡ Ok tt
