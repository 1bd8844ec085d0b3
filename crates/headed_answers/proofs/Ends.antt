-- A table written after the place of its header, and how the step that made it ends.
use Prim.Native.Nat.{ℕ, zero, suc, ◌≤◌, ◌<◌, min}
use mathlib.Core.Path.{◌≡◌, refl, ap, sym, ◌∙◌}
use mathlib.Core.Bool.{Bool, true, false, true≢false}
use mathlib.Core.List.{List, [], ◌∷◌}
use native.Mathlib.Omega.{arith}
use lib.ListN.{length, take, drop, replicate}
use lib.Seq.{take-append_seam}
use borrow.Author.Tests.{le-leb, lt-leb}
use Rattle.refusals.specs.declared.Refusal.TheVariants.{ResultTooShort}
use Rattle.std.specs.Prelude.{Ok, Err}
use Rattle.table.specs.Answers.{Answer}
use Rattle.refusals.specs.Refusals.{first}
use Rattle.table.specs.Header.{headed, body}
use Rattle.table.specs.StepChecks.{result_fits}
use Rattle.table.specs.Frame.{Step}
use Rattle.table.proofs.Frame.{too_long-answer, too_long-result, made_answer, made_result}
use Rattle.placing.specs.Written.{Written, Ends}
use Rattle.placing.proofs.Placing.{true-fits, false-fits}
use Rattle.header_classes.specs.Headable.{Headable}
use Rattle.headed_answers.specs.Finished.{Finishable, Finished, Given}

-- of a step whose checks pass, what was given is how it ends
pub given_ends : (s : Step) (t result : List ℕ) {e : List ℕ} {r : Answer} → first (s.checks t) ≡ Ok tt → Given (s.makes t) result e r → Ends s t result r e
given_ends s t result {e} {r} ok g = by_fit (result_fits (length (s.makes t)) (length result)) refl
  where
    by_fit : (b : Bool) → result_fits (length (s.makes t)) (length result) ≡ b → Ends s t result r e
    by_fit true f = let h = g.fit f in record { reply = h.0 ∙ sym (made_answer s t result ok f); slice = h.1 ∙ sym (made_result s t result ok f) }
    by_fit false f = let h = g.unfit f in record { reply = h.0 ∙ sym (too_long-answer s t result ok f); slice = h.1 ∙ sym (too_long-result s t result ok f) }

module _ (u : List ℕ) where
  unfit_is : (result : List ℕ) {e : List ℕ} {r : Answer} → min (length result) 16384 ≤ length u → (r ≡ Err ResultTooShort) × (e ≡ replicate (length result) 0) → Given (headed u) result e r
  unfit_is result h p = record {
    fit = λ f. absurd (true≢false (sym f ∙ lt-leb (suc (length u)) (min (length result) 16384) (omega arith)));
    unfit = λ f. p;
  }

  -- a slice with no more words than the table has lacks the place of a header
  pub given_short : (result : List ℕ) {e : List ℕ} {r : Answer} → length result ≤ length u → Finished result 0 e r → Given (headed u) result e r
  given_short result h f = unfit_is result (omega arith) (f.none refl)

  -- so does one without a word
  pub given_empty : (result : List ℕ) {e : List ℕ} {r : Answer} → length result ≡ 0 → Finished result 0 e r → Given (headed u) result e r
  given_empty result z f = given_short result (omega arith) f

  -- the words were written after the first word of a slice
  module _ (result m : List ℕ) {n : ℕ} (some : 0 < length result) (same : length m ≡ length result) (q : Written u (body result) (body m) n) where
    front : (n ≡ 0 → ⊥) → take n (body m) ≡ u
    front z = let f = q.fit z in rw (f.words, f.long) (take-append_seam u (drop (length u) (body result)))

    -- so they have a header, if the table has
    pub finishable : ((n ≡ 0 → ⊥) → Headable u) → Finishable m n
    finishable h = record {
      within = λ z. let f = q.fit z in omega (arith, f.long, true-fits (length u) (length (body result)) f.fitting, body-length result some, same);
      words = λ z. rw (front z) (h z);
    }
      where
        body-length : (s : List ℕ) → 0 < length s → suc (length (body s)) ≡ length s
        body-length [] l = absurd (omega arith)
        body-length (x ∷ s) l = refl

  pub given_finished : (result m : List ℕ) {n : ℕ} {e : List ℕ} {r : Answer} → 0 < length result → length m ≡ length result
      → Written u (body result) (body m) n → Finished m n e r → Given (headed u) result e r
  given_finished [] m l same q f = absurd (omega arith)
  given_finished (y ∷ rest) m {n = zero} l same q f =
      let p = f.none refl in
      unfit_is (y ∷ rest) (omega (arith, false-fits (length u) (length rest) (q.unfit refl))) (p.0, p.1 ∙ ap (λ (k : ℕ). replicate k 0) same)
  given_finished (y ∷ rest) m {n = suc n} {e = e} {r = r} l same q f =
      let fit = q.fit (λ z. omega arith) in
      let p = f.some (λ z. omega arith) in
      record {
        fit = λ g. (p.0 ∙ ap (λ (k : ℕ). Ok (suc k)) fit.long, p.1 ∙ rw (front (y ∷ rest) m l same q (λ z. omega arith), fit.words));
        unfit = λ g. absurd (true≢false (sym (le-leb (suc (length u)) (min (length (y ∷ rest)) 16384) (omega (arith, true-fits (length u) (length rest) fit.fitting))) ∙ g));
      }
