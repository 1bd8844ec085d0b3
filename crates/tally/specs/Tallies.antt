-- The tally, before and after a judgement.
use Rattle.std.specs.Prelude.{◌+◌, Bool, ◌||◌, cond, ltb, eqb}
use Rattle.tally.specs.declared.Tally.{Tally}

abbrev pub none_judged : Tally
none_judged = record { judged = 0; held = 0 }

-- 17: one more judgement cannot be counted, or more held than were judged
abbrev pub is_full : Tally → Bool
is_full c = eqb c.judged 4294967295 || ltb c.judged c.held

-- one more judged and, if it held at the first position, one more held
abbrev pub counted : Tally → Bool → Tally
counted c holds = record { judged = c.judged + 1; held = cond holds (c.held + 1) c.held }

-- a full tally, of which no judgement is made, stays as it is
abbrev pub tally_after : Tally → Bool → Tally
tally_after c holds = cond (is_full c) c (counted c holds)
