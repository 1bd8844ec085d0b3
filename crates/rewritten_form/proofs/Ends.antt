-- How the normal-form step ends with words that are rewritten: an until-like word past the limit, and a normal form, which fits the result or does not.
use Prim.Native.Nat.{ℕ, ◌+◌, ◌-◌, ◌≤◌, ◌<◌, min}
use native.Mathlib.Omega.{arith}
use mathlib.Core.Path.{◌≡◌, ap, ◌∙◌}
use mathlib.Core.Bool.{true, false}
use mathlib.Core.List.{List}
use lib.ListN.{length, take, length-drop}
use borrow.Rule.Slice.PartMut.{put_mid}
use Rattle.refusals.specs.declared.Refusal.{Refusal}
use Rattle.refusals.specs.declared.Refusal.TheVariants.{TooManyFixpoints}
use Rattle.table.specs.Answers.{Answer, OrNone, or_zero}
use Rattle.std.specs.Prelude.{Ok, Err, Option, Some, None}
use Rattle.table.specs.declared.answer.Form.TheVariants as form
use Rattle.table.specs.declared.settings.Limits.{Limits}
use Rattle.refusals.specs.Refusals.{first}
use Rattle.table.specs.Limits.{plain_limit}
use Rattle.table.specs.Header.{headed, body}
use Rattle.table.specs.StepChecks.{fixpoint_checks}
use Rattle.table.specs.Steps.{is_normal, normal_table}
use Rattle.table.specs.Frame.{normal_step, form_by, form_of}
use Rattle.table.proofs.Accepted.{accepted-well-formed}
use Rattle.table.proofs.Header.{accepted-headed}
use Rattle.table.proofs.Frame.{normal-early}
use Rattle.table.proofs.Normal.{form-checked, other_checks, other_makes}
use Rattle.table.proofs.Stated.{permitted}
use Rattle.placing.specs.Written.{Written, Ends}
use Rattle.placing.proofs.Placing.{true-fits}
use Rattle.placing.proofs.Written.{ends-refused}
use Rattle.headed_answers.specs.Finished.{Finishable, Finished, Given}
use Rattle.headed_answers.proofs.Ends.{given_ends}
use Rattle.headed_answers.proofs.Lent.{lent-finishable, lent_given}
use Rattle.normal_laws.proofs.Promise.{normal-accepted}
use Rattle.fixpoint_checks.specs.Past.{Past}
use Rattle.form_rooms.specs.Rooms.{Accepted}
use Rattle.fixpoints.proofs.Positions.{fixpoints-few}
use Rattle.rewritten_form.specs.Forms.{Formed, Rewritable}

module _ (l : Limits) (t result : List ℕ) where
  -- how the frame's step ends is how the form is answered
  pub ends-formed : {a : Answer} {e : List ℕ} → Ends (normal_step l) t result a e → Formed l t result (form_by a (is_normal (body t)) (length t)) e
  unfolding form_of
  ends-formed q = record { reply = ap (λ (x : Answer). form_by x (is_normal (body t)) (length t)) q.reply; slice = q.slice }

-- words that are rewritten, of which the first until-like one past the limit was looked for
module _ {l : Limits} {words : List ℕ} (w : Rewritable l words) (result : List ℕ) {n : ℕ} (q : Past words l.fixpoints n) where
  checks : first ((normal_step l).checks (headed words)) ≡ first (fixpoint_checks l.fixpoints 1 words)
  checks = form-checked l (headed words) w.permitted w.accepted ∙ ap first (other_checks l (headed words) w.other)

  pub past_refused : 0 < n → Formed l (headed words) result (Err (TooManyFixpoints n)) result
  past_refused h = ends-formed l (headed words) result (ends-refused (normal_step l) (headed words) result (normal-early l) (TooManyFixpoints n) (checks ∙ q.many h))

  module _ (z : n ≤ 0) where
    pub all_passed : Accepted words
    all_passed =
        let h = permitted l w.permitted in
        let a = (accepted-headed true (plain_limit l) (headed words) w.accepted).words in
        let f = accepted-well-formed true (plain_limit l) words a in
        let few = fixpoints-few l.fixpoints f (q.few (omega arith)) in
        record {
          limit = plain_limit l;
          accepted = a;
          short = omega (arith, h.written);
          few = omega (arith, few, h.fixpoints);
          drafted = omega (arith, few, f.few, h.written, h.fixpoints);
        }

    given : {e : List ℕ} {r : Answer} → Given (headed (normal_table words)) result e r → Formed l (headed words) result (form_by r (is_normal words) (length (headed words))) e
    given {e} {r} g =
        let made : Given ((normal_step l).makes (headed words)) result e r = rw (other_makes l (headed words) w.other) g in
        ends-formed l (headed words) result (given_ends (normal_step l) (headed words) result (checks ∙ q.few (omega arith)) made)

    pub given_made : {e : List ℕ} {m : ℕ} {r : Answer} → r ≡ Ok m → Given (headed (normal_table words)) result e r → Formed l (headed words) result (Ok (form.Made m)) e
    given_made e g = rw (e, w.other) at (given g)

    pub given_refused : {e : List ℕ} {x : Refusal} {r : Answer} → r ≡ Err x → Given (headed (normal_table words)) result e r → Formed l (headed words) result (Err x) e
    given_refused e g = rw e at (given g)

-- the words of a form, written after the place of their header
module _ {words : List ℕ} (q : Accepted words) (result : List ℕ) {part : List ℕ} {n : ℕ} (some : length result ≡ 0 → ⊥)
    (same : length part ≡ length (take (length result - 1) (body result))) (w : Written (normal_table words) (take (length result - 1) (body result)) part n) where
  most : ℕ
  most = length (normal_table words) + length (body result)

  lent : length result - 1 ≡ min (length (body result)) most
  unfolding most
  lent = omega (arith, length-drop 1 result)

  finishable : Finishable (put_mid 1 (length result - 1) result part) n
  unfolding most
  finishable = lent-finishable (normal_table words) result (omega (arith, some)) most (omega arith) lent same w (λ z. record {
    plain_only = false;
    limit = 16383;
    accepted = normal-accepted q.limit words q.accepted (omega (arith, q.short)) (omega (arith, true-fits (length (normal_table words)) (length (take (length result - 1) (body result))) (w.fit z).fitting));
    small = omega arith;
  })

  given_part : {e : List ℕ} {r : Answer} → Finished (put_mid 1 (length result - 1) result part) n e r → Given (headed (normal_table words)) result e r
  unfolding most
  given_part = lent_given (normal_table words) result (omega (arith, some)) most (omega arith) lent same w

module _ {words : List ℕ} (q : Accepted words) (result part : List ℕ) (some : length result ≡ 0 → ⊥) (same : length part ≡ length (take (length result - 1) (body result))) where
  pub form-finishable : (n : Option ℕ) → OrNone (λ m. Written (normal_table words) (take (length result - 1) (body result)) part m) n → OrNone (Finishable (put_mid 1 (length result - 1) result part)) n
  form-finishable None w = finishable q result some same w
  form-finishable (Some n) w = (w.0, finishable q result some same w.1)

  pub form_given : (n : Option ℕ) → OrNone (λ m. Written (normal_table words) (take (length result - 1) (body result)) part m) n → (e : List ℕ) (r : Answer)
      → Finished (put_mid 1 (length result - 1) result part) (or_zero n) e r → Given (headed (normal_table words)) result e r
  form_given None w e r f = given_part q result some same w f
  form_given (Some n) w e r f = given_part q result some same w.1 f
