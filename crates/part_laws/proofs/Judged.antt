-- What is told by the rows of the judge, and of its row call (`specs/Judged`), of every accepted plain table.
use Prim.Native.Nat.{ℕ, zero, suc, pred, ◌≤◌, ◌<◌}
use native.Mathlib.Omega.{arith}
use mathlib.Core.Path.{◌≡◌, refl, subst, ◌∙◌}
use mathlib.Core.Logic.{◌↔◌}
use mathlib.Core.Bool.{true, false}
use mathlib.Core.List.{List}
use lib.ListN.{length, get_or}
use lib.Dec.{T}
use Rattle.logic.specs.Formula.{Formula, const}
use Rattle.logic.specs.Lasso.{place, word, lasso_of}
use Rattle.logic.specs.Semantics.{Holds}
use Rattle.logic.proofs.Lasso.Period.{place_below}
use Rattle.std.specs.Prelude.{Ok}
use Rattle.tally.specs.declared.Desk.{Desk}
use Rattle.table.specs.Table.{formulas, formula_of}
use Rattle.table.specs.Checks.{checked}
use Rattle.table.specs.Header.{headed}
use Rattle.judging.specs.Judging.{row_outcome, judge_outcome, scratch_after}
use Rattle.judging.proofs.Accepted.{accepted-facts}
use Rattle.judging.proofs.LastRow.{judge_rows}
use Rattle.judge_laws.specs.Answers.{holds_in}
use Rattle.judge_laws.proofs.Promise.{row_promise, judge_promise}
use Rattle.part_laws.specs.Parts.{unfolded_table, part_of}
use Rattle.part_laws.specs.Told.{PartWord}
use Rattle.part_laws.specs.Judged.{row_of_word, PartRows}
use Rattle.part_laws.proofs.Promise.{told}

-- by number, counted from 1
by_number : (φs : List Formula) (m : ℕ) → 0 < m → get_or φs (pred m) (const false) ≡ formula_of φs m
unfolding formula_of
by_number φs zero p = absurd (omega arith)
by_number φs (suc j) p = refl

module _ (limit : ℕ) (t : List ℕ) (ok : checked true limit t ≡ Ok tt) (small : limit ≤ 16383) (samples : List ℕ) (start driven : ℕ) where
  -- rows that say of every word at which positions it holds
  rows : (after : List ℕ) → 1 ≤ length samples
      → ((j : ℕ) → j < length (unfolded_table t) → (i : ℕ)
      → T (holds_in (row_of_word samples after (suc j)) (place (length samples) start i)) ↔ Holds (word (lasso_of samples start driven)) (get_or (formulas (unfolded_table t)) j (const false)) i)
      → PartRows t samples start driven after
  rows after some promise = record {
    says = says;
    only = λ c m w x. (told limit t ok small).only (lasso_of samples start driven) c 0 ((start_says c m w).0 x);
    whenever = λ c m w a x. (start_says c m w).1 (((told limit t ok small).whenever (lasso_of samples start driven) c 0 a).0 x);
  }
    where
      says : (c m i : ℕ) → PartWord t c m
          → T (holds_in (row_of_word samples after m) (place (length samples) start i)) ↔ Holds (word (lasso_of samples start driven)) (part_of t c) i
      says c m i w =
          subst (λ (χ : Formula). T (holds_in (row_of_word samples after m) (place (length samples) start i)) ↔ Holds (word (lasso_of samples start driven)) χ i)
          (by_number (formulas (unfolded_table t)) m w.positive ∙ w.formula) (promise (pred m) (omega (arith, w.positive, w.inside)) i)

      start_says : (c m : ℕ) → PartWord t c m → T (holds_in (row_of_word samples after m) 0) ↔ Holds (word (lasso_of samples start driven)) (part_of t c) 0
      start_says c m w =
          subst (λ (k : ℕ). T (holds_in (row_of_word samples after m) k) ↔ Holds (word (lasso_of samples start driven)) (part_of t c) 0)
          (place_below (length samples) start 0 some) (says c m 0 w)

  module _ (scratch : List ℕ) where
    -- the row call
    pub row_told : row_outcome (headed (unfolded_table t)) samples start driven scratch ≡ Ok tt
        → PartRows t samples start driven (scratch_after (row_outcome (headed (unfolded_table t)) samples start driven scratch) (headed (unfolded_table t)) samples start driven scratch)
    row_told e =
        rows _ (accepted-facts (headed (unfolded_table t)) samples start driven scratch e).some
        (row_promise (headed (unfolded_table t)) samples start driven scratch e)

    -- the judge
    pub judge_told : (desk : Desk) → judge_outcome (headed (unfolded_table t)) samples start driven scratch desk ≡ Ok tt
        → PartRows t samples start driven (scratch_after (judge_outcome (headed (unfolded_table t)) samples start driven scratch desk) (headed (unfolded_table t)) samples start driven scratch)
    judge_told desk e =
        rows _ (accepted-facts (headed (unfolded_table t)) samples start driven scratch (judge_rows (headed (unfolded_table t)) samples start driven scratch desk e)).some
        (judge_promise (headed (unfolded_table t)) samples start driven scratch desk e)
