-- Calls of the judge one after the other, over tallies that nothing else writes: their history, and what it says of each desk and of the house.
use Rattle.std.specs.Prelude.{ℕ, ◌+◌, Bool, true, false, ◌&&◌, cond, List, [], ◌∷◌, eqb, replicate, Ok, Err}
use Rattle.tally.specs.declared.Tally.{Tally}
use Rattle.tally.specs.Tallies.{none_judged}
use Rattle.judging.specs.Judging.{JudgeAnswer, reply, desk_of, tallies_after}

-- what a call is handed beside the tallies
pub record Call : Type 0 where
  pub table : List ℕ
  pub samples : List ℕ
  pub start : ℕ
  pub driven : ℕ
  pub scratch : List ℕ
  pub desk : ℕ

-- what is answered, over the tallies that it finds
unfoldable pub answer_over : List Tally → Call → JudgeAnswer
answer_over tallies c = (reply c.table c.samples c.start c.driven c.scratch (desk_of tallies c.desk)).answer

-- the tallies that it leaves
abbrev pub leaves : List Tally → Call → List Tally
leaves tallies c = tallies_after (answer_over tallies c) tallies c.desk

-- what a history keeps of a call: the desk that it named, and what was answered
pub record Entry : Type 0 where
  pub desk : ℕ
  pub answer : JudgeAnswer

-- the history of calls from these tallies on, and the tallies after the last of them
abbrev pub history : List Tally → List Call → List Entry
history tallies [] = []
history tallies (c ∷ cs) = record { desk = c.desk; answer = answer_over tallies c } ∷ history (leaves tallies c) cs

abbrev pub tallies_left : List Tally → List Call → List Tally
tallies_left tallies [] = tallies
tallies_left tallies (c ∷ cs) = tallies_left (leaves tallies c) cs

-- zeroed tallies, one for each of so many desks
abbrev pub zeroed : ℕ → List Tally
zeroed desks = replicate desks none_judged

-- an accepted judgement, and one that held
abbrev pub is_accepted : JudgeAnswer → Bool
is_accepted (Ok j) = true
is_accepted (Err why) = false

abbrev pub is_held : JudgeAnswer → Bool
is_held (Ok j) = j.holds
is_held (Err why) = false

-- how many entries of a history pass a test
abbrev pub count : (Entry → Bool) → List Entry → ℕ
count test [] = 0
count test (e ∷ es) = cond (test e) 1 0 + count test es

-- how many accepted judgements named the desk of this number, and how many of those held
abbrev pub shown_at : ℕ → List Entry → Tally
shown_at n es = record {
  judged = count (λ (e : Entry). eqb e.desk n && is_accepted e.answer) es;
  held = count (λ (e : Entry). eqb e.desk n && is_held e.answer) es;
}

-- the house's total: how many were accepted, whatever desk they named, and how many of those held
abbrev pub total : List Entry → Tally
total es = record { judged = count (λ (e : Entry). is_accepted e.answer) es; held = count (λ (e : Entry). is_held e.answer) es }

-- tallies taken together
abbrev pub summed : (Tally → ℕ) → List Tally → ℕ
summed part [] = 0
summed part (c ∷ cs) = part c + summed part cs

abbrev pub together : List Tally → Tally
together cs = record { judged = summed (λ (c : Tally). c.judged) cs; held = summed (λ (c : Tally). c.held) cs }
