-- A goal that takes in what a sweep carries, so that the rest of the sweep needs no carry.
use Rattle.std.specs.Prelude.{ℕ, suc, Bool, ◌&&◌, ◌||◌, ◌==◌}
use Rattle.logic.specs.Truth.{Sequence}

-- a carry that the last of the positions before e takes in as a goal
abbrev pub carried_in : Sequence → Sequence → Bool → ℕ → Sequence
carried_in G P c e k = G k || (P k && (suc k == e && c))
