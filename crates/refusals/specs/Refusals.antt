-- The number and place of every refusal, of document 01 and of the requests after it, and the rule that the first that applies is returned.
use Rattle.std.specs.Prelude.{ℕ, Bool, true, false, List, [], ◌∷◌}
use Rattle.refusals.specs.declared.Refusal.{Refusal}
use Rattle.refusals.specs.declared.Refusal.TheVariants.{NoWord, TooManyWords, KindZero, NotPlain, OperandZero, OperandNotEarlier, LetterOutOfRange, FieldNotZero, Repeated, Unused, TooManyFixpoints, ResultTooShort, NoSample, TooManySamples, LoopStartOutside, ScratchTooShort, TallyFull, NotWords, NotGrammar, TextTooLong, LetterNotDriven, TooManyDriven, CountDiffers, HeaderWrong, LimitsOutside, DeskOutside, DrivenCountsDiffer, NotDeltaTwo, StateOutside}
use Rattle.refusals.specs.declared.Report.{Report}
use Rattle.std.specs.Prelude.{Result, Ok, Err, ⊤}

-- what a step that makes nothing answers: nothing, or why it refuses
abbrev pub Outcome : Type 0
Outcome = Result ⊤ Refusal

-- a refusal of the whole call, and one at a word
abbrev whole : ℕ → Report
whole n = record { 0 = n; 1 = 0 }

abbrev at : ℕ → ℕ → Report
at n word = record { 0 = n; 1 = word }

-- the place is the number of the faulty word for 3 to 11 and 21, that of the faulty byte for 19, and 0 otherwise; 6 of a state past the last has none
abbrev pub report_of : Refusal → Report
report_of NoWord = whole 1
report_of TooManyWords = whole 2
report_of (KindZero word) = at 3 word
report_of (NotPlain word) = at 4 word
report_of (OperandZero word) = at 5 word
report_of (OperandNotEarlier word) = at 6 word
report_of (LetterOutOfRange word) = at 7 word
report_of (FieldNotZero word) = at 8 word
report_of (Repeated word) = at 9 word
report_of (Unused word) = at 10 word
report_of (TooManyFixpoints word) = at 11 word
report_of ResultTooShort = whole 12
report_of NoSample = whole 13
report_of TooManySamples = whole 14
report_of LoopStartOutside = whole 15
report_of ScratchTooShort = whole 16
report_of TallyFull = whole 17
report_of NotWords = whole 18
report_of (NotGrammar byte) = at 19 byte
report_of TextTooLong = whole 20
report_of (LetterNotDriven word) = at 21 word
report_of TooManyDriven = whole 22
report_of CountDiffers = whole 23
report_of HeaderWrong = whole 24
report_of LimitsOutside = whole 25
report_of DeskOutside = whole 26
report_of DrivenCountsDiffer = whole 27
report_of NotDeltaTwo = whole 28
report_of StateOutside = whole 6

abbrev pub number_of : Refusal → ℕ
number_of r = (report_of r).0

abbrev pub place_of : Refusal → ℕ
place_of r = (report_of r).1

-- an outcome as two numbers, both 0 where the call is accepted
abbrev pub outcome_report : Outcome → Report
outcome_report (Ok tt) = whole 0
outcome_report (Err r) = report_of r

abbrev pub outcome_number : Outcome → ℕ
outcome_number o = (outcome_report o).0

abbrev pub outcome_place : Outcome → ℕ
outcome_place o = (outcome_report o).1

-- a condition with what it refuses for
pub record Check : Type 0 where
  pub fails : Bool
  pub refusal : Refusal

infix 40 ◌⇒◌
abbrev pub ◌⇒◌ : Bool → Refusal → Check
b ⇒ r = record { fails = b; refusal = r }

-- what is said where a condition applies, or else
abbrev pub decide_by : Bool → Refusal → Outcome → Outcome
decide_by true r o = Err r
decide_by false r o = o

-- places run downward: the first that applies is returned
abbrev pub first : List Check → Outcome
first [] = Ok tt
first (c ∷ cs) = decide_by c.fails c.refusal (first cs)
