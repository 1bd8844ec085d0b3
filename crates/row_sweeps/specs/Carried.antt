-- A row's goals that take in what a sweep carries, so that each word can be swept by itself.
use Rattle.std.specs.Prelude.{Bool, ℕ, ◌+◌, ◌-◌, ◌*◌, ◌/◌, min}
use Rattle.logic.specs.Truth.{Sequence, sweep}
use Rattle.word_carries.specs.Carried.{carried_in}

-- over L positions the last one of each word takes in what the sweep comes to from the next word on
abbrev pub carried_row : ℕ → Sequence → Sequence → Bool → Sequence
carried_row L G P c k =
    let e : ℕ = k / 64 * 64 + 64 in
    carried_in G P (sweep G P c e (L - e)) (min e L) k
