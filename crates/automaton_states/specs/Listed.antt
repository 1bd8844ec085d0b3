-- Words without a header that were to be written to a slice.
use Rattle.std.specs.Prelude.{ℕ, ◌≡◌, true, false, List, ◌++◌, length, drop, replicate}
use Rattle.refusals.specs.declared.Refusal.TheVariants.{ResultTooShort}
use Rattle.table.specs.Answers.{Answer}
use Rattle.std.specs.Prelude.{Ok, Err}
use Rattle.table.specs.Numbering.{fits}

-- the slice out becomes e: the words v fit and stand at the front, or every word is 0
pub record Listed (v out e : List ℕ) (r : Answer) : Type 0 where
  pub fit : fits (length v) (length out) ≡ true → (r ≡ Ok (length v)) × (e ≡ v ++ drop (length v) out)
  pub unfit : fits (length v) (length out) ≡ false → (r ≡ Err ResultTooShort) × (e ≡ replicate (length out) 0)
