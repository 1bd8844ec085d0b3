-- Demand 3 of the whole way, from what the two steps promise.
use Prim.Native.Nat.{ℕ, ◌-◌, ◌≤◌, min}
use mathlib.Core.Path.{◌≡◌, refl, ap, sym, ◌∙◌}
use mathlib.Core.Logic.Iff
use mathlib.Core.Logic.{inl, inr}
use mathlib.Core.Bool.{Bool, true, false, true≢false}
use mathlib.Core.List.{List}
use native.Mathlib.Omega.{arith}
use native.Mathlib.Nat.{sub-zero}
use lib.ListN.{length, take, drop}
use borrow.Author.Tests.{le-leb}
use Rattle.refusals.specs.declared.Refusal.{Refusal}
use Rattle.refusals.specs.declared.Refusal.TheVariants.{ResultTooShort}
use Rattle.refusals.specs.Refusals.{Outcome}
use Rattle.std.specs.Prelude.{Ok, Err}
use Rattle.table.specs.Answers.{Answer}
use Rattle.table.specs.Answers.{FormAnswer}
use Rattle.table.specs.declared.answer.Form.TheVariants as formed
use Rattle.table.specs.declared.settings.Limits.{Limits}
use Rattle.refusals.specs.Refusals.{Check, first, number_of}
use Rattle.table.specs.Limits.{is_permitted, plain_limit}
use Rattle.table.specs.Checks.{checked}
use Rattle.table.specs.Header.{headed, body, headed_checks, headed_checked}
use Rattle.table.specs.StepChecks.{limit_checks, result_fits}
use Rattle.table.specs.Steps.{plain_table, is_normal, normal_table}
use Rattle.table.specs.Frame.{plain_step, form_checks, normal_step, answer_of, result_of, answer_number, form_by, form_of, form_number, is_source}
use Rattle.refusals.proofs.First.{first_append-accepted, first_append-refused}
use Rattle.table.proofs.Stated.{permitted, permitted-checks, passed_limits}
use Rattle.table.proofs.Accepted.{accepted-well-formed}
use Rattle.table.proofs.Header.{accepted-headed, headed-accepted}
use Rattle.table.proofs.Frame.{answered, refused_for_length, refused-answer, too_long-answer, made_answer, plain-early, fixpoint-refusal, normal-early}
use Rattle.table.proofs.Normal.{normal-exactly, own-checks, own-makes, other_checks, other_makes, form-checked, Own, Other, form-source, form_made, form-refused}
use Rattle.plain_laws.proofs.Promise.{plain-holds, plain-accepted, plain-letters}
use Rattle.claims.specs.Whole.{form_after, whole_form, result_after, whole_result}
use Rattle.claims.specs.Claim.{Kept, TooLong, whole_checks, Claim}
use Rattle.claims.proofs.FormStep.{fitting-few, not_normal, FormOf, forms, own-form_of, other_form_of, limited}

-- no two answers at once
never : {A : Type 0} (r : Refusal) (n : ℕ) → Err r ≡ Ok n → A
never r n e = absurd (let z : ◌≡◌ {A = ℕ} 0 1 = cc in omega arith)

refused-source : {A : Type 0} {r : Refusal} {n : ℕ} → Err r ≡ Ok (formed.Source n) → A
refused-source e = absurd (true≢false (sym (ap is_source e)))

refused_made : {A : Type 0} {r : Refusal} {n : ℕ} → Err r ≡ Ok (formed.Made n) → A
refused_made e = absurd (let z : ◌≡◌ {A = ℕ} 0 1 = cc in omega arith)

same_refusal : (r s : Refusal) → ◌≡◌ {A = FormAnswer} (Err r) (Err s) → r ≡ s
same_refusal r s e = cc

-- a form's number is that of the step's answer
form_number_lem : (l : Limits) (s : List ℕ) (slice : ℕ) → form_number (form_of l s slice) ≡ answer_number (answer_of (normal_step l) s slice)
unfolding form_of
form_number_lem l s slice = go (answer_of (normal_step l) s slice) (is_normal (body s))
  where
    go : (a : Answer) (b : Bool) → form_number (form_by a b (length s)) ≡ answer_number a
    go (Ok n) true = refl
    go (Ok n) false = refl
    go (Err r) b = refl

-- the part of the plain form's slice that is handed on: it lies within the slice, and is the plain form's table with its header
module _ (l : Limits) (t before after : List ℕ) (n : ℕ) (e : answer_of (plain_step l) t (length before) ≡ Ok n) where
  pub within : length after ≡ length before → n ≤ length after
  within k = omega (arith, fitting-few n (length before) (answered (plain_step l) t before n e).fitting)

  handed_on : after ≡ result_of (plain_step l) t before → take (n - 0) (drop 0 after) ≡ headed (plain_table (body t))
  handed_on a = rw (sub-zero, a) (answered (plain_step l) t before n e).front

module _ (l : Limits) (t plain form : List ℕ) where
  -- what the plain-form step makes
  abbrev u : List ℕ
  u = headed (plain_table (body t))

  -- the checks of a written table, and those of its plain form
  abbrev written_checks : List Check
  written_checks = headed_checks false l.written t

  abbrev until_checks : List Check
  until_checks = form_checks l (plain_table (body t))

  -- by permitted limits the plain form of an accepted table is accepted by the normal-form step
  module _ (p : is_permitted l ≡ true) (ok : headed_checked false l.written t ≡ Ok tt) where
    small : l.written ≤ 8190
    small = omega (arith, (permitted l p).written)

    written-words : checked false l.written (body t) ≡ Ok tt
    written-words = (accepted-headed false l.written t ok).words

    next_words : checked true (plain_limit l) (plain_table (body t)) ≡ Ok tt
    next_words = plain-accepted l.written (body t) written-words small true (plain_limit l) (omega arith) (limited l p)

    next_accepted : headed_checked true (plain_limit l) u ≡ Ok tt
    next_accepted = headed-accepted true (plain_limit l) (plain_table (body t)) (limited l p) next_words

    passed : first ((plain_step l).checks t) ≡ Ok tt
    unfolding headed_checked
    passed = permitted-checks l written_checks p ∙ ok

    next_checks : first ((normal_step l).checks u) ≡ first until_checks
    next_checks = form-checked l u p next_accepted

    -- a form of the plain form is one of the written rule, and stands at the front of a slice
    keeps : {v slice : List ℕ} {n : ℕ} → FormOf (plain_table (body t)) (plain_table (body t)) v → take n slice ≡ headed v → n ≡ length (headed v) → Kept t slice n
    keeps q = forms (accepted-well-formed false l.written (body t) written-words) (record {
      words = q.words;
      taken = q.taken;
      holds = λ r i. Iff.trans (q.holds r i) (plain-holds l.written (body t) written-words small r i);
      class = q.class;
      short = q.short;
      letters = λ Q h. q.letters Q (plain-letters l.written (body t) written-words small Q h);
    })

  -- and that is so where the plain-form step's checks pass
  passes : first ((plain_step l).checks t) ≡ Ok tt → (is_permitted l ≡ true) × (headed_checked false l.written t ≡ Ok tt)
  unfolding headed_checked
  passes = passed_limits l written_checks

  -- the answer and the slice, by the answer of the plain-form step
  whole_refused : (r : Refusal) → answer_of (plain_step l) t (length plain) ≡ Err r
      → (whole_form l t (length plain) (length form) ≡ Err r) × (whole_result l t (length plain) form ≡ form)
  unfolding whole_form whole_result
  whole_refused r e = (ap (λ (a : Answer). form_after a l t (length form)) e, ap (λ (a : Answer). result_after a l t form) e)

  whole_made : (n : ℕ) → answer_of (plain_step l) t (length plain) ≡ Ok n
      → (whole_form l t (length plain) (length form) ≡ form_of l u (length form))
      × (whole_result l t (length plain) form ≡ result_of (normal_step l) u form)
  unfolding whole_form whole_result
  whole_made n e = (ap (λ (a : Answer). form_after a l t (length form)) e, ap (λ (a : Answer). result_after a l t form) e)

  -- an answered form is told by the normal-form step, of a plain form that was made
  told-source : (n : ℕ) → whole_form l t (length plain) (length form) ≡ Ok (formed.Source n) → (m : ℕ) × (answer_of (plain_step l) t (length plain) ≡ Ok m) × Own l u form n
  told-source n f = by_plain (answer_of (plain_step l) t (length plain)) refl
    where
      by_plain : (p : Answer) → answer_of (plain_step l) t (length plain) ≡ p → (m : ℕ) × (answer_of (plain_step l) t (length plain) ≡ Ok m) × Own l u form n
      by_plain (Err r) e = refused-source (sym (whole_refused r e).0 ∙ f)
      by_plain (Ok m) e = (m, e, form-source l u form n (sym (whole_made m e).0 ∙ f))

  told_made : (n : ℕ) → whole_form l t (length plain) (length form) ≡ Ok (formed.Made n) → (m : ℕ) × (answer_of (plain_step l) t (length plain) ≡ Ok m) × Other l u form n
  told_made n f = by_plain (answer_of (plain_step l) t (length plain)) refl
    where
      by_plain : (p : Answer) → answer_of (plain_step l) t (length plain) ≡ p → (m : ℕ) × (answer_of (plain_step l) t (length plain) ≡ Ok m) × Other l u form n
      by_plain (Err r) e = refused_made (sym (whole_refused r e).0 ∙ f)
      by_plain (Ok m) e = (m, e, form_made l u form n (sym (whole_made m e).0 ∙ f))

  -- it is the plain form where it stands, or the form that was made
  kept_source : (n : ℕ) → whole_form l t (length plain) (length form) ≡ Ok (formed.Source n) → Kept t (result_of (plain_step l) t plain) n
  kept_source n f =
      let (m, e, q) = told-source n f in
      let a = answered (plain_step l) t plain m e in
      let both = passes a.accepted in
      let k : n ≡ m = q.long ∙ sym a.long in
      keeps both.0 both.1 (own-form_of (plain_limit l) (plain_table (body t)) (next_words both.0 both.1) (limited l both.0) q.normal) (rw k a.front) q.long

  kept_made : (n : ℕ) → whole_form l t (length plain) (length form) ≡ Ok (formed.Made n) → Kept t (whole_result l t (length plain) form) n
  kept_made n f =
      let (m, e, q) = told_made n f in
      let both = passes (answered (plain_step l) t plain m e).accepted in
      let makes = other_makes l u q.normal in
      let k : n ≡ length (headed (normal_table (plain_table (body t)))) = q.made.long ∙ ap length makes in
      let few : length (normal_table (plain_table (body t))) ≤ 16383 = omega (arith, fitting-few n (length form) q.made.fitting) in
      keeps both.0 both.1 (other_form_of (plain_limit l) (plain_table (body t)) (next_words both.0 both.1) (limited l both.0) q.normal few) (rw (whole_made m e).1 (q.made.front ∙ makes)) k

  -- to refuse for length is to answer 12; no words are made of a table that is its own form
  unfit_other : (b : Bool) → is_normal (plain_table (body t)) ≡ b → result_fits (length ((normal_step l).makes u)) (length form) ≡ false → is_normal (plain_table (body t)) ≡ false
  unfit_other false n f = n
  unfit_other true n f = absurd (true≢false (sym (le-leb 0 (min (length form) 16384) (omega arith)) ∙ (rw (own-makes l u n) at f)))

  too_long : form_number (whole_form l t (length plain) (length form)) ≡ 12 → (p : Answer) → answer_of (plain_step l) t (length plain) ≡ p
      → (is_permitted l ≡ true) × (headed_checked false l.written t ≡ Ok tt) × TooLong l t (length plain) (length form)
  too_long a (Err r) e =
      let b = (refused_for_length (plain_step l) (plain-early l) t plain).0 (ap answer_number e ∙ sym (ap form_number (whole_refused r e).0) ∙ a) in
      let q = passes b.0 in
      (q.0, q.1, inl b.1)
  too_long a (Ok m) e =
      let p = answered (plain_step l) t plain m e in
      let q = passes p.accepted in
      let b = (refused_for_length (normal_step l) (normal-early l) u form).0 (sym (form_number_lem l u (length form)) ∙ sym (ap form_number (whole_made m e).0) ∙ a) in
      let other = unfit_other (is_normal (plain_table (body t))) refl b.1 in
      (q.0, q.1, inr (rw (← p.long) p.fitting, other, sym (ap first (other_checks l u other)) ∙ sym (next_checks q.0 q.1) ∙ b.0, rw (other_makes l u other) at b.1))

  unfit : is_permitted l ≡ true → headed_checked false l.written t ≡ Ok tt → TooLong l t (length plain) (length form)
      → form_number (whole_form l t (length plain) (length form)) ≡ 12
  unfit p ok (inl f) = ap form_number (whole_refused ResultTooShort (too_long-answer (plain_step l) t plain (passed p ok) f)).0
  unfit p ok (inr q) =
      ap form_number (whole_made (length u) (made_answer (plain_step l) t plain (passed p ok) q.0)).0
      ∙ form_number_lem l u (length form)
      ∙ (refused_for_length (normal_step l) (normal-early l) u form).1 (next_checks p ok ∙ ap first (other_checks l u q.1) ∙ q.2, rw (other_makes l u q.1) q.3)

  -- the check table is that of the plain-form step, and then that of its plain form
  whole_refusal : (q : Refusal) → first ((plain_step l).checks t) ≡ Err q → first (whole_checks l t) ≡ Err q
  unfolding limit_checks
  whole_refusal q = first_append-refused ((plain_step l).checks t) until_checks q

  whole_passed : first ((plain_step l).checks t) ≡ Ok tt → first (whole_checks l t) ≡ first until_checks
  unfolding limit_checks
  whole_passed = first_append-accepted ((plain_step l).checks t) until_checks

  -- any other refusal is that of the first check that applies
  module _ (r : Refusal) (a : whole_form l t (length plain) (length form) ≡ Err r) (s : number_of r ≡ 12 → ⊥) where
    module _ (p : is_permitted l ≡ true) (ok : headed_checked false l.written t ≡ Ok tt) where
      by_until : form_of l u (length form) ≡ Err r → (o : Outcome) → first until_checks ≡ o → first until_checks ≡ Err r
      by_until b (Err q) c =
          c ∙ ap Err (same_refusal q r (sym ((form-refused l u form q).1 (refused-answer (normal_step l) u form q (next_checks p ok ∙ c))) ∙ b))
      by_until b (Ok tt) c = absurd (s (last (result_fits (length ((normal_step l).makes u)) (length form)) refl))
        where
          last : (f : Bool) → result_fits (length ((normal_step l).makes u)) (length form) ≡ f → number_of r ≡ 12
          last true f = never r _ (sym ((form-refused l u form r).0 b) ∙ made_answer (normal_step l) u form (next_checks p ok ∙ c) f)
          last false f = sym (ap answer_number ((form-refused l u form r).0 b)) ∙ (refused_for_length (normal_step l) (normal-early l) u form).1 (next_checks p ok ∙ c, f)

      by_fit : (f : Bool) → result_fits (length u) (length plain) ≡ f → first until_checks ≡ Err r
      by_fit false f = absurd (s (sym (ap form_number a) ∙ unfit p ok (inl f)))
      by_fit true f = by_until (sym (whole_made (length u) (made_answer (plain_step l) t plain (passed p ok) f)).0 ∙ a) (first until_checks) refl

    by_checks : (o : Outcome) → first ((plain_step l).checks t) ≡ o → first (whole_checks l t) ≡ Err r
    by_checks (Err q) e =
        whole_refusal q e ∙ ap Err (same_refusal q r (sym (whole_refused q (refused-answer (plain_step l) t plain q e)).0 ∙ a))
    by_checks (Ok tt) e = let both = passes e in whole_passed e ∙ by_fit both.0 both.1 (result_fits (length u) (length plain)) refl

  -- the check table's refusal is the answer
  until-refusal : (r : Refusal) → first until_checks ≡ Err r → (b : Bool) → is_normal (plain_table (body t)) ≡ b → number_of r ≡ 11
  until-refusal r c true n = let e = sym (ap first (own-checks l u n)) ∙ c in absurd (let z : ◌≡◌ {A = ℕ} 0 1 = cc in omega arith)
  until-refusal r c false n = fixpoint-refusal l.fixpoints (plain_table (body t)) r (sym (ap first (other_checks l u n)) ∙ c)

  module _ (r : Refusal) (c : first (whole_checks l t) ≡ Err r) (k : number_of r ≡ 11 → result_fits (length u) (length plain) ≡ true) where
    refuses : (o : Outcome) → first ((plain_step l).checks t) ≡ o → whole_form l t (length plain) (length form) ≡ Err r
    refuses (Err q) e = let d = whole_refusal q e in (whole_refused q (refused-answer (plain_step l) t plain q e)).0 ∙ ap Err (cc)
    refuses (Ok tt) e =
        let both = passes e in
        let d : first until_checks ≡ Err r = sym (whole_passed e) ∙ c in
        (whole_made (length u) (made_answer (plain_step l) t plain e (k (until-refusal r d (is_normal (plain_table (body t))) refl)))).0
        ∙ (form-refused l u form r).1 (refused-answer (normal_step l) u form r (next_checks both.0 both.1 ∙ d))

  -- the claim, of the answer and the slices that the definitions name
  pub claim : Claim l t plain (result_of (plain_step l) t plain) form (whole_result l t (length plain) form) (whole_form l t (length plain) (length form))
  claim = record {
    answer = refl;
    plain_slice = refl;
    form_slice = refl;
    kept_source = kept_source;
    own_source = λ n f. (normal-exactly (plain_table (body t))).0 (told-source n f).2.normal;
    kept_made = kept_made;
    other_made = λ n f. not_normal (plain_table (body t)) (told_made n f).2.normal;
    refused_for_length = (λ a. too_long a (answer_of (plain_step l) t (length plain)) refl, λ q. unfit q.0 q.1 q.2);
    refused_by_checks = λ r a s. by_checks r a s (first ((plain_step l).checks t)) refl;
    checks_refuse = λ r c k. refuses r c k (first ((plain_step l).checks t)) refl;
  }

  claimed : {plain' form' : List ℕ} {f : FormAnswer} → f ≡ whole_form l t (length plain) (length form) → plain' ≡ result_of (plain_step l) t plain
      → form' ≡ whole_result l t (length plain) form → Claim l t plain plain' form form' f
  claimed e f g = rw (e, f, g) claim

  -- so of a call, by the answer of the plain-form step
  pub claimed-refused : {r : Refusal} {plain' : List ℕ} → answer_of (plain_step l) t (length plain) ≡ Err r → plain' ≡ result_of (plain_step l) t plain
      → Claim l t plain plain' form form (Err r)
  claimed-refused {r} e f = let w = whole_refused r e in claimed (sym w.0) f (sym w.1)

  pub claimed_made : {n : ℕ} {plain' form' : List ℕ} {f : FormAnswer} → answer_of (plain_step l) t (length plain) ≡ Ok n → plain' ≡ result_of (plain_step l) t plain
      → f ≡ form_of l (take (n - 0) (drop 0 plain')) (length form) → form' ≡ result_of (normal_step l) (take (n - 0) (drop 0 plain')) form
      → Claim l t plain plain' form form' f
  claimed_made {n} {plain'} e f g h =
      let p = handed_on l t plain plain' n e f in
      let w = whole_made n e in
      claimed (g ∙ ap (λ (x : List ℕ). form_of l x (length form)) p ∙ sym w.0) f (h ∙ ap (λ (x : List ℕ). result_of (normal_step l) x form) p ∙ sym w.1)
