-- The part of the scratch that the row of one word takes.
use Prim.Native.Nat.{ℕ, ◌+◌, ◌-◌, ◌*◌, ◌≤◌, ◌<◌}
use mathlib.Core.Path.{◌≡◌, sym, subst, ◌∙◌}
use mathlib.Core.Bool.{false}
use mathlib.Core.List.{List}
use native.Mathlib.Nat.{suc-mul, mul-le-mul, mul-le-mul_right}
use native.Mathlib.Omega.{arith}
use lib.ListN.{length, take, drop, length-drop}
use lib.Seq.{length-take-le}
use Rattle.row_words.specs.Row.{row_words}
use Rattle.row_words.specs.Writing.{RowFor}
use Rattle.table.proofs.Accepted.{WellFormed, accepted-well-formed}
use Rattle.table_rows.specs.Rows.{Fillable}
pub use Rattle.logic.proofs.Lasso.Period.{Inside, lasso_inside}

-- one row among so many ends with the words of all
pub row_end : (m k words n : ℕ) → m < k → k * words ≤ n → m * words + words ≤ n
row_end m k words n h l = omega (arith, suc-mul m words, mul-le-mul_right words h)

-- of a scratch its length alone is looked at
pub fillable-length : {t samples : List ℕ} {start : ℕ} (s u : List ℕ) → length u ≡ length s → Fillable t samples start s → Fillable t samples start u
fillable-length s u e f = record { accepted = f.accepted; some = f.some; few = f.few; inside = f.inside; room = rw e f.room }

module _ (t samples : List ℕ) (start j : ℕ) (s : List ℕ) (words : ℕ) (h : j < length t)
    (facts : Fillable t samples start s) (wide : words ≡ row_words (length samples)) where
  well-formed : WellFormed false 16383 t
  well-formed = accepted-well-formed false 16383 t facts.accepted

  few_words : words ≤ 64
  few_words = rw wide (omega (arith, facts.few))

  pub part_end : j * words + words ≤ length s
  part_end = row_end j (length t) words (length s) h (subst (λ (w : ℕ). length t * w ≤ length s) (sym wide) facts.room)

  pub part_small : j * words + words ≤ 1048576
  part_small =
      let few : j ≤ 16383 = omega (arith, well-formed.few) in
      omega (arith, mul-le-mul few few_words, few_words)

  pub part_for : RowFor (length samples) (take (j * words + words - j * words) (drop (j * words) s))
  part_for = record {
    some = facts.some;
    few = facts.few;
    size =
        length-take-le (j * words + words - j * words) (drop (j * words) s) (simp length-drop (omega (arith, part_end)))
        ∙ omega (arith, wide);
  }
