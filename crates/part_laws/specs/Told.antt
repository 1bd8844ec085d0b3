-- What a part that holds tells (document 02, N13), of the words t of a plain table: first of formulas, then of the words of the unfolded form.
use Rattle.std.specs.Prelude.{ℕ, ◌≤◌, ◌<◌, ◌≡◌, ◌↔◌, false, length}
use mathlib.Core.List.{List, map, Memᴰ}
use Rattle.logic.specs.Lasso.{Lasso, word}
use Rattle.logic.specs.Semantics.{Holds}
use Rattle.transforms.specs.NormalForm.{choices, disjoin}
use Rattle.std.specs.Prelude.{Ok}
use Rattle.table.specs.Table.{formulas, formula_of, rule}
use Rattle.table.specs.Header.{headed, headed_checked}
use Rattle.table.specs.Steps.{fixpoints}
use Rattle.part_laws.specs.Parts.{unfolded_table, part_of, IsChoice, HoldsAt, OnlyLasting, AllLasting}

pub record Told (t : List ℕ) : Type 0 where
  -- a part that holds, at moment 0 or at any other, has chosen only words that last
  pub only : (r : Lasso) (c i : ℕ) → Holds (word r) (part_of t c) i → OnlyLasting r t c
  -- one choice has chosen all words that last
  pub some : (r : Lasso) → (c : ℕ) × AllLasting r t c
  pub one : (r : Lasso) (c d : ℕ) → AllLasting r t c → AllLasting r t d → c ≡ d
  -- and its part holds whenever the rule holds, and never else
  pub whenever : (r : Lasso) (c i : ℕ) → AllLasting r t c → Holds (word r) (rule t) i ↔ Holds (word r) (part_of t c) i

-- word m of the unfolded form is the part of choice c
pub record PartWord (t : List ℕ) (c m : ℕ) : Type 0 where
  pub positive : 0 < m
  pub inside : m ≤ length (unfolded_table t)
  pub formula : formula_of (formulas (unfolded_table t)) m ≡ part_of t c

-- of an unfolded form whose numbers fit their fields
pub record Unfolded (t : List ℕ) : Type 0 where
  -- the judge takes it, and it holds where the rule holds
  pub accepted : headed_checked false 16383 (headed (unfolded_table t)) ≡ Ok tt
  pub holds : (r : Lasso) (i : ℕ) → Holds (word r) (rule (unfolded_table t)) i ↔ Holds (word r) (rule t) i
  -- it joins the parts of all choices, and of nothing else, each of which is a word of it
  pub joined : rule (unfolded_table t) ≡ disjoin (map (part_of t) (choices (length (fixpoints t))))
  pub parts : (c : ℕ) → Memᴰ c (choices (length (fixpoints t))) ↔ IsChoice t c
  pub part_word : (c : ℕ) → IsChoice t c → (m : ℕ) × PartWord t c m
  -- what such a word tells where it holds
  pub told : (r : Lasso) (c m i : ℕ) → PartWord t c m → HoldsAt r (unfolded_table t) m i → OnlyLasting r t c
