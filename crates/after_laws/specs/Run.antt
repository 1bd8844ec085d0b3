-- A rule followed sample by sample: each step is handed the last remainder and the next sample, and none is refused.
use Rattle.std.specs.Prelude.{ℕ, ◌+◌, ◌<◌, ◌≡◌, List, [], ◌∷◌, length, get_or, take}
use Rattle.logic.specs.Lasso.{Word}
use Rattle.logic.specs.Driven.{SameBits}
use Rattle.std.specs.Prelude.{Ok}
use Rattle.table.specs.Frame.{after_step, answer_of, result_of}

-- one step: in some slice n words were made of s, and u is these
pub record Step (v driven : ℕ) (s u : List ℕ) : Type 0 where
  pub slice : List ℕ
  pub number : ℕ
  pub made : answer_of (after_step v driven) s (length slice) ≡ Ok number
  pub front : u ≡ take number (result_of (after_step v driven) s slice)

-- a step for each sample, from s to u
pub data Run (driven : ℕ) : List ℕ → List ℕ → List ℕ → Type 0 where
  none : {s : List ℕ} → Run driven [] s s
  step : {v : ℕ} {vs s w u : List ℕ} → Step v driven s w → Run driven vs w u → Run driven (v ∷ vs) s u

-- the samples have the driven bits of a word from position i on
abbrev pub From : (driven : ℕ) (σ : Word) (i : ℕ) (vs : List ℕ) → Type 0
From driven σ i vs = (k : ℕ) → k < length vs → SameBits driven (σ (i + k)) (get_or vs k 0)
