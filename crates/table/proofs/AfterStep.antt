-- The step by a sample: what its checks tell, in their order, and that none of them refuses for length.
use Prim.Native.Nat.{ℕ, ◌≤◌}
use mathlib.Core.Path.{◌≡◌, refl, sym, ap, ◌∙◌}
use mathlib.Core.Bool.{Bool, true, false}
use mathlib.Core.List.{List}
use native.Mathlib.Omega.{arith}
use lib.Dec.{ltb}
use borrow.Author.Tests.{ltb-false, le-ltb}
use Rattle.refusals.specs.declared.Refusal.{Refusal}
use Rattle.refusals.specs.declared.Refusal.TheVariants.{TooManyDriven}
use Rattle.refusals.specs.Refusals.{Outcome}
use Rattle.std.specs.Prelude.{Ok, Err}
use Rattle.refusals.specs.Refusals.{first, decide_by, number_of, outcome_number}
use Rattle.refusals.proofs.First.{first_passed, passed_first, first_append-accepted, first_append-refused, first_append_both}
use Rattle.table.specs.Header.{body, headed_checks, headed_checked}
use Rattle.table.specs.StepChecks.{driven_checks, letter_checks, sample_checks}
use Rattle.table.specs.Frame.{after_step}
use Rattle.table.proofs.Letters.{lowest}
use Rattle.table.proofs.Header.{headed-refusal}
use Rattle.table.proofs.Frame.{Early}

-- 22 and 21 pass exactly where at most 32 letters are driven, and every word's letter is
pub record Sampled (driven : ℕ) (t : List ℕ) : Type 0 where
  pub few : driven ≤ 32
  pub letters : first (letter_checks driven 1 t) ≡ Ok tt

module _ (driven : ℕ) (t : List ℕ) where
  pub sample-accepted : first (sample_checks driven t) ≡ Ok tt → Sampled driven t
  unfolding driven_checks
  sample-accepted e =
      let p = (first_append_both (driven_checks driven) (letter_checks driven 1 t)).0 e in
      record { few = ltb-false 32 driven (first_passed (driven_checks driven) p.0).0; letters = p.1 }

  pub accepted-sample : Sampled driven t → first (sample_checks driven t) ≡ Ok tt
  unfolding driven_checks
  accepted-sample q =
      (first_append_both (driven_checks driven) (letter_checks driven 1 t)).1 (passed_first (driven_checks driven) (le-ltb 32 driven q.few, tt), q.letters)

-- they refuse by these numbers alone
sample-refusal : (driven : ℕ) (t : List ℕ) (r : Refusal) → first (sample_checks driven t) ≡ Err r → number_of r ≡ 12 → ⊥
unfolding driven_checks
sample-refusal driven t r = go (ltb 32 driven)
  where
    go : (b : Bool) → decide_by b TooManyDriven (first (letter_checks driven 1 t)) ≡ Err r → number_of r ≡ 12 → ⊥
    go true e n = let z : ◌≡◌ {A = ℕ} 22 12 = ap outcome_number e ∙ n in omega arith
    go false e n = let z : ◌≡◌ {A = ℕ} 21 12 = sym (ap number_of (lowest driven 1 t r e).2) ∙ n in omega arith

module _ (v driven : ℕ) (s : List ℕ) where
  -- a refused table; and an accepted one leaves the word to the sample
  pub table-refused : (r : Refusal) → headed_checked true 16383 s ≡ Err r → first ((after_step v driven).checks s) ≡ Err r
  unfolding headed_checked
  table-refused r e = first_append-refused (headed_checks true 16383 s) (sample_checks driven (body s)) r e

  pub table-accepted : headed_checked true 16383 s ≡ Ok tt → first ((after_step v driven).checks s) ≡ first (sample_checks driven (body s))
  unfolding headed_checked
  table-accepted e = first_append-accepted (headed_checks true 16383 s) (sample_checks driven (body s)) e

  pub both_accepted : first ((after_step v driven).checks s) ≡ Ok tt → (headed_checked true 16383 s ≡ Ok tt) × Sampled driven (body s)
  unfolding headed_checked
  both_accepted e =
      let p = (first_append_both (headed_checks true 16383 s) (sample_checks driven (body s))).0 e in
      (p.0, sample-accepted driven (body s) p.1)

pub after_early : (v driven : ℕ) → Early (after_step v driven)
after_early v driven = record { early = λ s r e n. by_table s r n (headed_checked true 16383 s) refl e }
  where
    by_table : (s : List ℕ) (r : Refusal) → number_of r ≡ 12 → (o : Outcome) → headed_checked true 16383 s ≡ o
        → first ((after_step v driven).checks s) ≡ Err r → ⊥
    by_table s r n (Ok tt) k e =
        sample-refusal driven (body s) r (sym (table-accepted v driven s k) ∙ e) n
    by_table s r n (Err q) k e =
        let a = table-refused v driven s q k in
        let same : r ≡ q = cc in
        headed-refusal true 16383 s q k (sym (ap number_of same) ∙ n)
