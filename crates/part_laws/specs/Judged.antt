-- What the rows of an accepted call tell that was handed the unfolded form of a plain table t, under its header.
use Rattle.std.specs.Prelude.{ℕ, pred, ◌↔◌, List, length, T}
use Rattle.logic.specs.Lasso.{place, word, lasso_of}
use Rattle.logic.specs.Semantics.{Holds}
use Rattle.row_words.specs.Row.{row_words}
use Rattle.table.specs.Table.{rule}
use Rattle.table_rows.specs.Rows.{row_number}
use Rattle.judge_laws.specs.Answers.{holds_in}
use Rattle.part_laws.specs.Parts.{part_of, OnlyLasting, AllLasting}
use Rattle.part_laws.specs.Told.{PartWord}

-- the row of word m, in the scratch after a call with so many samples
abbrev pub row_of_word : List ℕ → List ℕ → ℕ → List ℕ
row_of_word samples after m = row_number (row_words (length samples)) (pred m) after

pub record PartRows (t samples : List ℕ) (start driven : ℕ) (after : List ℕ) : Type 0 where
  -- the row of a part's word says at which moments the part holds, those of the endless repeat included
  pub says : (c m i : ℕ) → PartWord t c m
      → T (holds_in (row_of_word samples after m) (place (length samples) start i)) ↔ Holds (word (lasso_of samples start driven)) (part_of t c) i
  -- where it has moment 0, the part has chosen only words that last
  pub only : (c m : ℕ) → PartWord t c m → T (holds_in (row_of_word samples after m) 0) → OnlyLasting (lasso_of samples start driven) t c
  -- and the part that has chosen all of those has moment 0 whenever the rule holds there
  pub whenever : (c m : ℕ) → PartWord t c m → AllLasting (lasso_of samples start driven) t c
      → Holds (word (lasso_of samples start driven)) (rule t) 0 → T (holds_in (row_of_word samples after m) 0)
