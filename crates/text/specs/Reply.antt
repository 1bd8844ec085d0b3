-- What is replied to a text and what stands in the slice afterwards, by the grammar alone: 25, 20, 19, 2, 12 and a table, in that order.
use Rattle.std.specs.Prelude.{ℕ, ◌≤◌, ◌<◌, ◌≡◌, true, false, List, ◌++◌, length, drop, replicate}
use Rattle.logic.specs.Formula.{Formula}
use Rattle.refusals.specs.declared.Refusal.TheVariants.{TooManyWords, ResultTooShort, NotGrammar, TextTooLong, LimitsOutside}
use Rattle.table.specs.Answers.{Answer}
use Rattle.std.specs.Prelude.{Ok, Err}
use Rattle.table.specs.declared.settings.Limits.{Limits}
use Rattle.table.specs.Limits.{is_permitted}
use Rattle.table.specs.Numbering.{table_of}
use Rattle.table.specs.Header.{headed}
use Rattle.grammar.specs.Grammar.{Reads, Departs}

-- by a written limit: 20, 19, 2, 12 and a table
pub data Read (limit : ℕ) (text slice : List ℕ) : Answer → List ℕ → Type 0 where
  too_long : 1024 < length text → Read limit text slice (Err TextTooLong) slice
  departing : (n : ℕ) → length text ≤ 1024 → Departs text n → Read limit text slice (Err (NotGrammar n)) slice
  too_many : (φ : Formula) → length text ≤ 1024 → Reads text φ → limit < length (table_of φ) → Read limit text slice (Err TooManyWords) slice
  too_short : (φ : Formula) → length text ≤ 1024 → Reads text φ → length (table_of φ) ≤ limit → length slice < length (headed (table_of φ))
      → Read limit text slice (Err ResultTooShort) (replicate (length slice) 0)
  table : (φ : Formula) → length text ≤ 1024 → Reads text φ → length (table_of φ) ≤ limit → length (headed (table_of φ)) ≤ length slice
      → Read limit text slice (Ok (length (headed (table_of φ)))) (headed (table_of φ) ++ drop (length (headed (table_of φ))) slice)

-- by the limits of a house: 25, or what is replied by its written limit
pub data Reply (l : Limits) (text slice : List ℕ) : Answer → List ℕ → Type 0 where
  outside : is_permitted l ≡ false → Reply l text slice (Err LimitsOutside) slice
  permitted : {a : Answer} {s : List ℕ} → is_permitted l ≡ true → Read l.written text slice a s → Reply l text slice a s
