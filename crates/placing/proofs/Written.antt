-- A formula's table written to a slice, or to a part of one; and a step that is refused before it writes.
use Prim.Native.Nat.{ℕ, ◌≤◌, ◌<◌, min}
use native.Mathlib.Omega.{arith}
use mathlib.Core.Path.{◌≡◌, sym, ap, ◌∙◌}
use mathlib.Core.Bool.{false}
use mathlib.Core.List.{List, [], ◌++◌, append_assoc}
use lib.ListN.{length, take, drop, take-append-drop}
use lib.Seq.{length-take-le, drop-append-le}
use Rattle.logic.specs.Formula.{Formula}
use Rattle.logic.specs.Letters.{Letters}
use Rattle.refusals.specs.declared.Refusal.{Refusal}
use Rattle.std.specs.Prelude.{Err}
use Rattle.refusals.specs.Refusals.{first}
use Rattle.table.specs.Frame.{Step}
use Rattle.table.specs.Numbering.{fits, build, table_of}
use Rattle.table.proofs.Frame.{Early, refused-answer, refused-result}
use Rattle.numbering.proofs.Used.{number_last}
use Rattle.placing.specs.State.{State, count, written, Placing}
use Rattle.placing.specs.Written.{Fitting, Written, Ends}
use Rattle.placing.proofs.Putting.{fits-true, fits-false}
use Rattle.placing.proofs.Placing.{true-fits, false-fits, placing-fits, placing-unfit, build-positive, placing_whole, whole_out}

-- the part of a longer slice that is lent
pub lent_length : (k : ℕ) (out : List ℕ) → k < length out → length (take k out) ≡ k
lent_length k out h = length-take-le k out (omega arith)

-- what was numbered from no words is the formula's table, whose last word is the formula's own
module _ (φ : Formula) (small : Letters (λ p. p < 16384) φ) {s e : State} {n : ℕ} (q : Placing s e (build (written s) φ) n) (z : count s ≡ 0) where
  pub written_all : Written (table_of φ) s.out e.out n
  unfolding table_of
  written_all = record {
    unfit = λ h. placing-unfit (placing_whole φ q z) h (build-positive [] φ);
    fit = λ h.
        let f = placing-fits (placing_whole φ q z) (omega (arith, h)) in
        record {
          fitting = f;
          long = (placing_whole φ q z).answer f ∙ number_last φ small (omega (arith, true-fits _ _ f));
          words = whole_out φ q z f;
        };
  }

-- a table of at most `most` words, written to so much of a slice: it fits the part exactly where it fits the slice
pub written_part : (u out : List ℕ) {part : List ℕ} {most k n : ℕ} → length u ≤ most → k ≡ min (length out) most
    → Written u (take k out) part n → Written u out (part ++ drop k out) n
written_part u out {part} {most} {k} {n} short h q = record { unfit = unfit; fit = fit }
  where
    lent : length (take k out) ≡ k
    lent = length-take-le k out (omega arith)

    unfit : n ≡ 0 → fits (length u) (length out) ≡ false
    unfit z = fits-false (length u) (length out) (omega (arith, short, lent, false-fits (length u) (length (take k out)) (q.unfit z)))

    fit : (n ≡ 0 → ⊥) → Fitting u out (part ++ drop k out) n
    fit z =
        let f = q.fit z in
        let inside = true-fits (length u) (length (take k out)) f.fitting in
        let here : length u ≤ length (take k out) = omega arith in
        record {
          fitting = fits-true (length u) (length out) (omega (arith, lent));
          long = f.long;
          words =
              ap (λ (x : List ℕ). x ++ drop k out) f.words
              ∙ append_assoc u (drop (length u) (take k out)) (drop k out)
              ∙ ap (λ (x : List ℕ). u ++ x) (sym (drop-append-le (length u) (take k out) (drop k out) here) ∙ ap (drop (length u)) (take-append-drop k out));
        }

-- a step that is refused before 12
pub ends-refused : (s : Step) (t result : List ℕ) → Early s → (r : Refusal) → first (s.checks t) ≡ Err r → Ends s t result (Err r) result
ends-refused s t result early r e = record { reply = sym (refused-answer s t result r e); slice = sym (refused-result s t result early r e) }
