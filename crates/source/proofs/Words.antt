-- A word of an accepted table, taken apart.
use Prim.Native.Nat.{ℕ, suc, ◌-◌, ◌<◌, ◌≤◌}
use native.Mathlib.Omega.{arith}
use mathlib.Core.Path.{◌≡◌, refl, ap, ◌∙◌}
use mathlib.Core.Bool.{true}
use mathlib.Core.List.{List}
use lib.ListN.{length, get_or, take}
use Rattle.table.specs.Node.{kind, left, right}
use Rattle.std.specs.Prelude.{Ok}
use Rattle.table.specs.Table.{formulas, formula_of}
use Rattle.table.specs.Checks.{checked}
use Rattle.table.proofs.Accepted.{WellFormed, WellFormedWord, accepted-well-formed, accepted-formula}
use Rattle.table.proofs.Fields.{left_lt, right_lt}
use Rattle.source.specs.Source.{Inside, WordAt}

-- a word of a plain table has a plain kind
pub plain-kind : (limit : ℕ) (t : List ℕ) → checked true limit t ≡ Ok tt → (j : ℕ) → 0 < j → j ≤ length t → kind (get_or t (j - 1) 0) < 12
plain-kind limit t ok j p h =
    let word = (accepted-well-formed true limit t ok).word (j - 1) (omega arith) in
    omega (arith, word.plain refl)

pub word_at : {t : List ℕ} {j k l r : ℕ} → Inside t j → kind (get_or t (j - 1) 0) < 16
    → k ≡ kind (get_or t (j - 1) 0) → l ≡ left (get_or t (j - 1) 0) → r ≡ right (get_or t (j - 1) 0) → WordAt t j k l r
unfolding formula_of
word_at {t} {j} {k} {l} {r} q fits dk dl dr =
    let w : ℕ = get_or t (j - 1) 0 in
    let h : j - 1 < length t = omega (arith, q.positive, q.inside) in
    let table : WellFormed q.plain q.limit t = accepted-well-formed q.plain q.limit t q.accepted in
    let word : WellFormedWord q.plain (take (j - 1) t) (suc (j - 1)) w = table.word (j - 1) h in
    let e : j ≡ suc (j - 1) = omega (arith, q.positive) in
    record {
      kinded = dk;
      positive = omega (arith, word.kinded);
      below = omega (arith, fits);
      formula = ap (formula_of (formulas t)) e ∙ accepted-formula table (j - 1) h ∙ rw (dk, dl, dr);
      left_operand = λ f. let x = word.operand_left (rw dk at f) in record { positive = omega (arith, x.0); below = omega (arith, x.1) };
      right_operand = λ f. let x = word.operand_right (rw dk at f) in record { positive = omega (arith, x.0); below = omega (arith, x.1) };
      left_fits = omega (arith, left_lt w);
      right_fits = omega (arith, right_lt w);
      right_blank = λ f. dr ∙ word.blank_right (rw dk at f);
    }
