-- A plain table that is its own form: its header tells, and the normal-form step makes no words of it.
use Prim.Native.Nat.{ℕ, suc, ◌/◌, ◌%◌, ◌<◌, ◌^◌, min}
use mathlib.Core.Path.{◌≡◌, refl, ap, sym, ◌∙◌}
use mathlib.Core.Logic.{◌↔◌}
use mathlib.Core.Bool.{Bool, true, false, cond, true≢false}
use mathlib.Core.List.{List, [], ◌∷◌, ◌++◌}
use native.Mathlib.Omega.{arith}
use lib.ListN.{length, get_or}
use borrow.Author.Tests.{lt-leb, le-leb, eqb-true, eq-eqb}
use Rattle.logic.specs.Bit.{bit}
use Rattle.logic.specs.Hierarchy.{Δ₂}
use Rattle.logic.specs.ClassByte.{class_byte}
use Rattle.logic.proofs.Hierarchy.ClassBit.{class_bit}
use Rattle.refusals.specs.declared.Refusal.{Refusal}
use Rattle.table.specs.declared.settings.Limits.{Limits}
use Rattle.table.specs.Answers.{Answer}
use Rattle.std.specs.Prelude.{Ok, Err}
use Rattle.table.specs.declared.answer.Form.TheVariants as form
use Rattle.refusals.specs.Refusals.{first}
use Rattle.table.specs.Node.{kind, left}
use Rattle.table.specs.Table.{rule}
use Rattle.table.specs.Limits.{is_permitted, plain_limit}
use Rattle.table.specs.Header.{is_written, class_of, header_of, header, body, headed, headed_checks, headed_checked}
use Rattle.table.specs.StepChecks.{result_fits, fixpoint_checks}
use Rattle.table.specs.Steps.{is_normal, normal_table, form_table}
use Rattle.table.specs.Frame.{form_checks, normal_step, answer_of, result_of, form_by, form_of, form_words, is_source}
use Rattle.refusals.proofs.First.{first_append-accepted, first_append_both}
use Rattle.table.proofs.Fields.{left_pack}
use Rattle.table.proofs.Accepted.{accepted-well-formed}
use Rattle.table.proofs.Header.{class_lt, accepted-headed}
use Rattle.table.proofs.Stated.{permitted-checks, passed_limits}
use Rattle.table.proofs.Frame.{Answered, answered, made_answer, made_result}

-- bit 6 of the class byte is Delta-2
pub normal-exactly : (t : List ℕ) → (is_normal t ≡ true) ↔ Δ₂ (rule t)
unfolding is_normal bit
normal-exactly t =
    let b = class_bit 6 (rule t) in
    (λ e. b.0 (eqb-true (class_byte (rule t) / 2 ^ 6 % 2) 1 e), λ d. eq-eqb (class_byte (rule t) / 2 ^ 6 % 2) 1 (b.1 d))

-- the form of a table, by whether it is its own
pub own-form : (t : List ℕ) → is_normal t ≡ true → form_table t ≡ t
unfolding form_table
own-form t n = rw n refl

pub other_form : (t : List ℕ) → is_normal t ≡ false → form_table t ≡ normal_table t
unfolding form_table
other_form t n = rw n refl

unwritten : (t : List ℕ) → ((j : ℕ) → j < length t → kind (get_or t j 0) < 12) → is_written t ≡ false
unfolding is_written
unwritten [] h = refl
unwritten (w ∷ t) h = rw (lt-leb 12 (kind w) (h 0 (omega arith))) (unwritten t (λ j b. h (suc j) (omega arith)))

module _ (limit : ℕ) (small : limit < 2 ^ 14) (s : List ℕ) (e : headed_checked true limit s ≡ Ok tt) where
  -- a table of plain words has the class byte of its rule in its header
  pub normal-header : bit (left (header s)) 6 ≡ is_normal (body s)
  unfolding is_normal class_of header_of
  normal-header =
      let h = accepted-headed true limit s e in
      let f = accepted-well-formed true limit (body s) h.words in
      let plain : class_of (body s) ≡ class_byte (rule (body s)) = rw (unwritten (body s) (λ j b. (f.word j b).plain refl)) in
      let l : left (header s) ≡ class_of (body s) =
      ap (λ (u : List ℕ). left (header u)) h.whole ∙ left_pack 0 (class_of (body s)) (length (body s)) (omega (arith, class_lt (body s))) (omega (arith, f.few)) in
      ap (λ (x : ℕ). bit x 6) (l ∙ plain)

module _ (l : Limits) (s : List ℕ) where
  pub own-checks : is_normal (body s) ≡ true → form_checks l (body s) ≡ []
  own-checks n = ap (λ (b : Bool). cond b [] (fixpoint_checks l.fixpoints 1 (body s))) n

  pub own-makes : is_normal (body s) ≡ true → (normal_step l).makes s ≡ []
  own-makes n = ap (λ (b : Bool). cond b [] (headed (normal_table (body s)))) n

  pub other_checks : is_normal (body s) ≡ false → form_checks l (body s) ≡ fixpoint_checks l.fixpoints 1 (body s)
  other_checks n = ap (λ (b : Bool). cond b [] (fixpoint_checks l.fixpoints 1 (body s))) n

  pub other_makes : is_normal (body s) ≡ false → (normal_step l).makes s ≡ headed (normal_table (body s))
  other_makes n = ap (λ (b : Bool). cond b [] (headed (normal_table (body s)))) n

  -- the checks of an accepted table by permitted limits are those of its form
  pub form-checked : is_permitted l ≡ true → headed_checked true (plain_limit l) s ≡ Ok tt → first ((normal_step l).checks s) ≡ first (form_checks l (body s))
  unfolding headed_checked
  form-checked p a = permitted-checks l (headed_checks true (plain_limit l) s ++ form_checks l (body s)) p ∙ first_append-accepted (headed_checks true (plain_limit l) s) (form_checks l (body s)) a

  -- of one that is its own form no words are made, and the slice keeps its own
  module _ (slice : List ℕ) (p : is_permitted l ≡ true) (a : headed_checked true (plain_limit l) s ≡ Ok tt) (n : is_normal (body s) ≡ true) where
    passed : first ((normal_step l).checks s) ≡ Ok tt
    passed = form-checked p a ∙ ap first (own-checks n)

    nothing : result_fits (length ((normal_step l).makes s)) (length slice) ≡ true
    nothing = rw (own-makes n) (le-leb 0 (min (length slice) 16384) (omega arith))

    pub own-answer : answer_of (normal_step l) s (length slice) ≡ Ok 0
    own-answer = made_answer (normal_step l) s slice passed nothing ∙ rw (own-makes n) refl

    pub own-result : result_of (normal_step l) s slice ≡ slice
    own-result = made_result (normal_step l) s slice passed nothing ∙ rw (own-makes n) refl

-- what the answer tells
module _ (l : Limits) (s slice : List ℕ) where
  -- the table is its own form, and passes the checks
  pub record Own (n : ℕ) : Type 0 where
    pub normal : is_normal (body s) ≡ true
    pub long : n ≡ length s
    pub permitted : is_permitted l ≡ true
    pub accepted : headed_checked true (plain_limit l) s ≡ Ok tt

  -- it is not, and a form was made of it
  pub record Other (n : ℕ) : Type 0 where
    pub normal : is_normal (body s) ≡ false
    pub made : Answered (normal_step l) s slice n

  pub form-source : (n : ℕ) → form_of l s (length slice) ≡ Ok (form.Source n) → Own n
  unfolding form_of headed_checked
  form-source n f = go (answer_of (normal_step l) s (length slice)) (is_normal (body s)) refl refl f
    where
      go : (a : Answer) (b : Bool) → answer_of (normal_step l) s (length slice) ≡ a → is_normal (body s) ≡ b → form_by a b (length s) ≡ Ok (form.Source n) → Own n
      go (Ok m) true e b f =
          let p = passed_limits l (headed_checks true (plain_limit l) s ++ form_checks l (body s)) (answered (normal_step l) s slice m e).accepted in
          record { normal = b; long = ap form_words (sym f); permitted = p.0; accepted = ((first_append_both (headed_checks true (plain_limit l) s) (form_checks l (body s))).0 p.1).0 }
      go (Ok m) false e b f = absurd (true≢false (sym (ap is_source f)))
      go (Err r) b e n f = absurd (true≢false (sym (ap is_source f)))

  pub form_made : (n : ℕ) → form_of l s (length slice) ≡ Ok (form.Made n) → Other n
  unfolding form_of
  form_made n f = go (answer_of (normal_step l) s (length slice)) (is_normal (body s)) refl refl f
    where
      go : (a : Answer) (b : Bool) → answer_of (normal_step l) s (length slice) ≡ a → is_normal (body s) ≡ b → form_by a b (length s) ≡ Ok (form.Made n) → Other n
      go (Ok m) true e b f = absurd (true≢false (ap is_source f))
      go (Ok m) false e b f = record { normal = b; made = answered (normal_step l) s slice n (e ∙ ap Ok (ap form_words f)) }
      go (Err r) b e n f = absurd (let z : ◌≡◌ {A = ℕ} 0 1 = cc in omega arith)

  pub form-refused : (r : Refusal) → (form_of l s (length slice) ≡ Err r) ↔ (answer_of (normal_step l) s (length slice) ≡ Err r)
  unfolding form_of
  form-refused r = (go (answer_of (normal_step l) s (length slice)) (is_normal (body s)), λ e. ap (λ (a : Answer). form_by a (is_normal (body s)) (length s)) e)
    where
      go : (a : Answer) (b : Bool) → form_by a b (length s) ≡ Err r → a ≡ Err r
      go (Ok m) true f = absurd (true≢false (ap is_source f))
      go (Ok m) false f = cc
      go (Err q) b f = cc
