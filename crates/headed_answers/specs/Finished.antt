-- The end of a step that made words after the place of their header.
use Rattle.std.specs.Prelude.{ℕ, suc, ◌<◌, ◌≡◌, true, false, List, ◌∷◌, ◌++◌, length, take, drop, replicate}
use Rattle.refusals.specs.declared.Refusal.TheVariants.{ResultTooShort}
use Rattle.table.specs.Answers.{Answer}
use Rattle.std.specs.Prelude.{Ok, Err}
use Rattle.table.specs.Header.{header_of, body}
use Rattle.table.specs.StepChecks.{result_fits}
use Rattle.header_classes.specs.Headable.{Headable}

-- n words of a slice, after its first, are words with a header; 0 where none were made
pub record Finishable (s : List ℕ) (n : ℕ) : Type 0 where
  pub within : (n ≡ 0 → ⊥) → n < length s
  pub words : (n ≡ 0 → ⊥) → Headable (take n (body s))

-- s becomes e, and r answers
pub record Finished (s : List ℕ) (n : ℕ) (e : List ℕ) (r : Answer) : Type 0 where
  pub none : n ≡ 0 → (r ≡ Err ResultTooShort) × (e ≡ replicate (length s) 0)
  pub some : (n ≡ 0 → ⊥) → (r ≡ Ok (suc n)) × (e ≡ header_of (take n (body s)) ∷ body s)

-- a table v, with its header, was to be written to the slice out, which becomes e: it fits and stands at the front, or every word is 0
pub record Given (v out e : List ℕ) (r : Answer) : Type 0 where
  pub fit : result_fits (length v) (length out) ≡ true → (r ≡ Ok (length v)) × (e ≡ v ++ drop (length v) out)
  pub unfit : result_fits (length v) (length out) ≡ false → (r ≡ Err ResultTooShort) × (e ≡ replicate (length out) 0)
