-- Recorded samples that have the same driven bits, whatever their other bits are.
use Rattle.std.specs.Prelude.{ℕ, ◌<◌, ◌≡◌, List, length, get_or}
use Rattle.logic.specs.Driven.{SameBits}

pub record Alike (driven : ℕ) (samples samples' : List ℕ) : Type 0 where
  pub long : length samples ≡ length samples'
  pub bits : (i : ℕ) → i < length samples → SameBits driven (get_or samples i 0) (get_or samples' i 0)
