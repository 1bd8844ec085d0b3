-- Words copied after the place of their header, and what is then answered.
use Prim.Native.Nat.{ℕ, ◌≤◌, ◌<◌, min}
use native.Mathlib.Omega.{arith}
use mathlib.Core.Path.{◌≡◌, refl, sym, ap, ◌∙◌}
use mathlib.Core.List.{List, [], append-nil}
use lib.ListN.{length, take, drop, length-drop}
use lib.Seq.{drop-length, length-take-le}
use borrow.Rule.Slice.PartMut.{put_mid}
use Rattle.table.specs.Answers.{Answer}
use Rattle.table.specs.Header.{headed, body}
use Rattle.placing.specs.Written.{Written}
use Rattle.placing.proofs.Putting.{fits-true}
use Rattle.header_classes.specs.Headable.{Headable}
use Rattle.header_classes.proofs.Headable.{some, few}
use Rattle.headed_answers.specs.Finished.{Finishable, Finished, Given}
use Rattle.headed_answers.proofs.Lent.{lent-finishable, lent_given}

module _ {words : List ℕ} (q : Headable words) (result : List ℕ) {part : List ℕ} {k : ℕ} (long : length words < length result) (here : k ≡ length words)
    (e : part ≡ words) where
  inside : k ≤ length (body result)
  inside = omega (arith, length-drop 1 result)

  front : length (take k (body result)) ≡ length words
  front = length-take-le k (body result) inside ∙ here

  nothing : drop (length words) (take k (body result)) ≡ []
  nothing = ap (λ (n : ℕ). drop n (take k (body result))) (sym front) ∙ drop-length (take k (body result))

  written : Written words (take k (body result)) part (length words)
  written = record {
    unfit = λ z. absurd (omega (arith, some q));
    fit = λ z. record {
      fitting = fits-true (length words) _ (omega (arith, few q, front));
      long = refl;
      words = e ∙ rw (nothing, append-nil);
    };
  }

  lent : k ≡ min (length (body result)) (length words)
  lent = omega (arith, inside)

  same : length part ≡ length (take k (body result))
  same = ap length e ∙ sym front

  pub copied-finishable : (0 < length words) × Finishable (put_mid 1 k result part) (length words)
  copied-finishable = (some q, lent-finishable words result (omega arith) (length words) (omega arith) lent same written (λ z. q))

  pub copied_given : {m : List ℕ} {r : Answer} → Finished (put_mid 1 k result part) (length words) m r → Given (headed words) result m r
  copied_given = lent_given words result (omega arith) (length words) (omega arith) lent same written
