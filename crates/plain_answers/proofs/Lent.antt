-- The plain form in the part of a slice that is lent.
use Prim.Native.Nat.{ℕ, ◌+◌, ◌-◌, ◌*◌, min}
use native.Mathlib.Omega.{arith}
use mathlib.Core.Path.{◌≡◌}
use mathlib.Core.Bool.{true}
use mathlib.Core.List.{List}
use lib.ListN.{length, take, length-drop}
use borrow.Rule.Slice.PartMut.{put_mid}
use Rattle.std.specs.Prelude.{Option, None, Some}
use Rattle.table.specs.Answers.{Answer, OrNone, or_zero}
use Rattle.table.specs.Header.{headed, body}
use Rattle.table.specs.Steps.{plain_table}
use Rattle.placing.specs.Written.{Written}
use Rattle.headed_answers.specs.Finished.{Finishable, Finished, Given}
use Rattle.headed_answers.proofs.Lent.{lent-finishable, lent_given}
use Rattle.plain_laws.proofs.Promise.{plain-length, plain-accepted}
use Rattle.plain_answers.specs.Formable.{Formable}

-- the words of a plain form, written after the place of their header to a part with room for as many as any has
module _ {words : List ℕ} (q : Formable words) (result part : List ℕ) {k : ℕ} (some : length result ≡ 0 → ⊥)
    (h : k ≡ min (length result) (2 * length words + 3)) (same : length part ≡ length (take (k - 1) (body result))) where
  lent : k - 1 ≡ min (length (body result)) (2 * length words + 2)
  lent = omega (arith, some, h, length-drop 1 result)

  finishable : (n : ℕ) → Written (plain_table words) (take (k - 1) (body result)) part n → Finishable (put_mid 1 (k - 1) result part) n
  finishable n w = lent-finishable (plain_table words) result (omega (arith, some)) (2 * length words + 2) (plain-length q.limit words q.accepted) lent same w (λ z. record {
    plain_only = true;
    limit = 2 * q.limit + 2;
    accepted = plain-accepted q.limit words q.accepted (omega (arith, q.small)) true (2 * q.limit + 2) (omega arith) (omega (arith, q.small));
    small = omega (arith, q.small);
  })

  given : (n : ℕ) → Written (plain_table words) (take (k - 1) (body result)) part n
      → {e : List ℕ} {a : Answer} → Finished (put_mid 1 (k - 1) result part) n e a → Given (headed (plain_table words)) result e a
  given n = lent_given (plain_table words) result (omega (arith, some)) (2 * length words + 2) (plain-length q.limit words q.accepted) lent same

  pub form-finishable : (r : Option ℕ) → OrNone (λ n. Written (plain_table words) (take (k - 1) (body result)) part n) r
      → OrNone (Finishable (put_mid 1 (k - 1) result part)) r
  form-finishable None w = finishable 0 w
  form-finishable (Some n) w = (w.0, finishable n w.1)

  pub form_given : (r : Option ℕ) → OrNone (λ n. Written (plain_table words) (take (k - 1) (body result)) part n) r
      → {e : List ℕ} {a : Answer} → Finished (put_mid 1 (k - 1) result part) (or_zero r) e a → Given (headed (plain_table words)) result e a
  form_given None w f = given 0 w f
  form_given (Some n) w f = given n w.1 f
