-- What holds of the folded normal form's table of an accepted plain table: its length is bounded; and where it fits the fields of its words, its rule
-- holds where the rule of the table holds, is in Δ₂, and has no letter that the rule lacks, and the judge's checks 1 to 10 pass it.
use Prim.Native.Nat.{ℕ, ◌+◌, ◌*◌, ◌^◌, ◌≤◌, ◌<◌}
use native.Mathlib.Omega.{arith}
use mathlib.Core.Path.{◌≡◌, sym, subst}
use mathlib.Core.Logic.Iff
use mathlib.Core.Logic.{◌↔◌}
use mathlib.Core.Bool.{true, false}
use mathlib.Core.List.{List}
use lib.ListN.{length}
use Rattle.logic.specs.Formula.{Formula}
use Rattle.logic.specs.Lasso.{Lasso, word}
use Rattle.logic.specs.Semantics.{Holds}
use Rattle.logic.specs.Hierarchy.{Δ₂}
use Rattle.transforms.specs.NormalForm.{normal_form}
use Rattle.transforms.specs.Folding.{fold}
use Rattle.std.specs.Prelude.{Ok}
use Rattle.table.specs.Table.{rule}
use Rattle.table.specs.Checks.{checked}
use Rattle.table.specs.Steps.{fixpoints, normal_table}
use Rattle.table.proofs.Accepted.{WellFormed, accepted-well-formed}
use Rattle.logic.specs.Letters.{Letters}
use Rattle.transforms.proofs.Letters.{letters-sub}
use Rattle.numbering.proofs.Accepted.{plain_small, accepted-written}
use Rattle.numbering.proofs.Used.{rule-table_of}
use Rattle.transforms.proofs.Normal.Lasso.{normal_form-holds, normal_form-Δ₂}
use Rattle.transforms.proofs.Folding.{fold-holds, fold-Δ₂, fold-letters}
use Rattle.normal_laws.proofs.LettersKept.{normal_form-letters}
use Rattle.normal_laws.proofs.Subformulas.{rule-plain, fixpoints-number}
use Rattle.normal_laws.proofs.LengthBound.{normal_table-length}

module _ (limit : ℕ) (t : List ℕ) (ok : checked true limit t ≡ Ok tt) (small : limit ≤ 16383) where
  formed : WellFormed true limit t
  formed = accepted-well-formed true limit t ok

  -- the form has no letters but those of the rule, and so has its folding
  pub form-letters : (Q : ℕ → Type 0) → Letters Q (rule t) → Letters Q (normal_form (fixpoints t) (rule t))
  form-letters Q l = normal_form-letters Q (fixpoints t) (rule t) (λ ψ m. letters-sub Q ((fixpoints-number small formed).inside ψ m) l) l

  pub folded_letters : (Q : ℕ → Type 0) → Letters Q (rule t) → Letters Q (fold (normal_form (fixpoints t) (rule t)))
  folded_letters Q l = fold-letters Q (normal_form (fixpoints t) (rule t)) (form-letters Q l)

  -- n words of which k are until-like have a form of at most 2 ^ k * (5 n + 3 k + 1) + 2 words
  pub normal-length : length (normal_table t) ≤ 2 ^ length (fixpoints t) * (5 * length t + 3 * length (fixpoints t) + 1) + 2
  normal-length = normal_table-length small formed

  module _ (short : length (normal_table t) ≤ 16383) where
    -- the rule of the form's table is the folded normal form
    pub rule-normal_table : rule (normal_table t) ≡ fold (normal_form (fixpoints t) (rule t))
    unfolding normal_table
    rule-normal_table =
        rule-table_of (fold (normal_form (fixpoints t) (rule t))) (folded_letters (λ n. n < 16384) (plain_small (rule t) (rule-plain small formed).1)) (omega (arith, short))

    -- the form holds where the rule holds, over every lasso and at every position
    pub normal-holds : (r : Lasso) (i : ℕ) → Holds (word r) (rule (normal_table t)) i ↔ Holds (word r) (rule t) i
    normal-holds r i =
        subst (λ (χ : Formula). Holds (word r) χ i ↔ Holds (word r) (rule t) i) (sym rule-normal_table)
        (Iff.trans (fold-holds (word r) (normal_form (fixpoints t) (rule t)) i)
        (normal_form-holds (fixpoints t) (rule t) (rule-plain small formed).0 (fixpoints-number small formed) r i))

    -- the form is in Δ₂
    pub normal-Δ₂ : Δ₂ (rule (normal_table t))
    normal-Δ₂ =
        subst Δ₂ (sym rule-normal_table)
        (fold-Δ₂ (normal_form (fixpoints t) (rule t)) (normal_form-Δ₂ (fixpoints t) (rule t) (rule-plain small formed).0 (fixpoints-number small formed)))

    -- what is so of every letter of the rule is so of every letter of the form
    pub normal-letters : (Q : ℕ → Type 0) → Letters Q (rule t) → Letters Q (rule (normal_table t))
    normal-letters Q l = subst (Letters Q) (sym rule-normal_table) (folded_letters Q l)

    -- its table passes the checks 1 to 10 of the judge
    pub normal-accepted : checked false 16383 (normal_table t) ≡ Ok tt
    unfolding normal_table
    normal-accepted = accepted-written 16383 (fold (normal_form (fixpoints t) (rule t))) (folded_letters (λ p. (0 < p) × (p ≤ 32)) (rule-plain small formed).1) short (omega arith)
