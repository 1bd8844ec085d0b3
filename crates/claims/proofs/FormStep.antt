-- What an answered call of the normal-form step tells (`specs/FormStep`).
use Prim.Native.Nat.{ℕ, ◌+◌, ◌*◌, ◌≤◌, min}
use mathlib.Core.Path.{◌≡◌, refl, ap, sym, subst, ◌∙◌}
use mathlib.Core.Logic.Iff
use mathlib.Core.Logic.{◌↔◌}
use mathlib.Core.Bool.{Bool, true, false, true≢false}
use mathlib.Core.List.{List, ◌++◌}
use native.Mathlib.Omega.{arith}
use native.Mathlib.Nat.{le_refl, mul-le-mul}
use lib.ListN.{length, take}
use lib.Seq.{take-length}
use lib.Pow.{pow_pos}
use borrow.Author.Tests.{leb-true}
use Rattle.logic.specs.Letters.{Letters}
use Rattle.logic.specs.Lasso.{Lasso, word}
use Rattle.logic.specs.Semantics.{Holds}
use Rattle.logic.specs.Driven.{Driven}
use Rattle.logic.specs.Hierarchy.{Δ₂}
use Rattle.std.specs.Prelude.{Ok}
use Rattle.table.specs.declared.answer.Form.TheVariants.{Source, Made}
use Rattle.table.specs.declared.settings.Limits.{Limits}
use Rattle.refusals.specs.Refusals.{first}
use Rattle.table.specs.Limits.{is_permitted, plain_limit, most_words}
use Rattle.table.specs.Checks.{checked}
use Rattle.table.specs.Header.{headed, body, headed_checks, headed_checked}
use Rattle.table.specs.StepChecks.{result_fits}
use Rattle.table.specs.Table.{rule}
use Rattle.table.specs.Steps.{fixpoints, is_normal, normal_table, form_table}
use Rattle.table.specs.Frame.{form_checks, normal_step, result_of, form_of}
use Rattle.refusals.proofs.First.{first_append_both}
use Rattle.table.proofs.Stated.{permitted, passed_limits}
use Rattle.table.proofs.Accepted.{WellFormed, accepted-well-formed, well-formed-accepted}
use Rattle.table.proofs.Header.{accepted-headed, headed-accepted}
use Rattle.table.proofs.Normal.{normal-exactly, own-form, other_form, own-result, other_makes}
use Rattle.table.proofs.Normal as told
use Rattle.numbering.proofs.Driven.{driven-exactly}
use Rattle.normal_laws.proofs.Promise.{normal-holds, normal-Δ₂, normal-length, normal-letters}
use Rattle.claims.specs.FormStep.{bound, Formed, MadeForm, OwnForm}
use Rattle.claims.proofs.Plain.{normal-plain}

-- what fits a slice has no more than 16,384 words, and no more than the slice
pub fitting-few : (words slice : ℕ) → result_fits words slice ≡ true → words ≤ min slice 16384
fitting-few words slice e = leb-true _ _ e

-- a form that is its own source has no more words than the bound
above : (n k : ℕ) → n ≤ bound n k
above n k = omega (arith, mul-le-mul (pow_pos k) (le_refl (5 * n + 3 * k + 1)))

-- a table that is not its own form does not lie in Delta-2
pub not_normal : (t : List ℕ) → is_normal t ≡ false → Δ₂ (rule t) → ⊥
not_normal t n d = true≢false (sym ((normal-exactly t).1 d) ∙ n)

-- an accepted plain table is accepted by every step with a higher limit, whether it takes plain tables only or not
loosened : (limit : ℕ) (p : List ℕ) → checked true limit p ≡ Ok tt → limit ≤ 16383 → (b : Bool) → checked b 16383 p ≡ Ok tt
loosened limit p ok small b =
    let f = accepted-well-formed true limit p ok in
    well-formed-accepted b 16383 p (record {
      some = f.some;
      few = omega (arith, f.few);
      word = λ j h.
          let w = f.word j h in record {
            kinded = w.kinded;
            plain = λ e. w.plain refl;
            blank_left = w.blank_left;
            blank_right = w.blank_right;
            operand_left = w.operand_left;
            operand_right = w.operand_right;
            letter = w.letter;
            new = w.new;
          };
      all_used = f.all_used;
    })

-- what is so of the words v of a form of plain words p, made for the rule of the words u
pub record FormOf (u p v : List ℕ) : Type 1 where
  pub words : v ≡ form_table p
  pub taken : (b : Bool) → checked b 16383 v ≡ Ok tt
  pub holds : (r : Lasso) (i : ℕ) → Holds (word r) (rule v) i ↔ Holds (word r) (rule u) i
  pub class : Δ₂ (rule v)
  pub short : length v ≤ bound (length p) (length (fixpoints p))
  pub letters : (Q : ℕ → Type 0) → Letters Q (rule u) → Letters Q (rule v)

-- is so of the words at the front of a slice
pub forms : {plain_only : Bool} {limit : ℕ} {t p v slice : List ℕ} {n : ℕ} → WellFormed plain_only limit (body t) → FormOf (body t) p v
    → take n slice ≡ headed v → n ≡ length (headed v) → Formed t p slice n
forms {v = v} source q w k = record {
  words = w ∙ ap headed q.words;
  long = ap length w ∙ sym k;
  holds = λ r d i. rw w (q.holds r i);
  class = subst (λ (x : List ℕ). Δ₂ (rule (body x))) (sym w) q.class;
  short = rw w q.short;
  letters = λ m. rw w (q.letters (λ x. x ≡ m → ⊥));
  drives = λ r. rw w (q.letters (Driven r.driven));
  accepted = rw w (headed-accepted false 16383 v (omega arith) (q.taken false));
  plain = rw w (headed-accepted true 16383 v (omega arith) (q.taken true));
  driven = λ m e.
      let made = accepted-well-formed false most_words v (q.taken false) in
      rw w ((driven-exactly made m).1 (q.letters (Driven m) ((driven-exactly source m).0 e)));
}

-- the form of an accepted plain table: itself where it is its own form, and the normal form of any other
module _ (limit : ℕ) (p : List ℕ) (ok : checked true limit p ≡ Ok tt) (small : limit ≤ 16383) where
  pub own-form_of : is_normal p ≡ true → FormOf p p p
  own-form_of n = record {
    words = sym (own-form p n);
    taken = loosened limit p ok small;
    holds = λ r i. Iff.rfl;
    class = (normal-exactly p).0 n;
    short = above (length p) (length (fixpoints p));
    letters = λ Q h. h;
  }

  pub other_form_of : is_normal p ≡ false → length (normal_table p) ≤ 16383 → FormOf p p (normal_table p)
  other_form_of n few = record {
    words = sym (other_form p n);
    taken = normal-plain limit p ok small few;
    holds = normal-holds limit p ok small few;
    class = normal-Δ₂ limit p ok small few;
    short = normal-length limit p ok small;
    letters = normal-letters limit p ok small few;
  }

-- permitted limits keep a plain table's words within the fields
pub limited : (l : Limits) → is_permitted l ≡ true → plain_limit l ≤ 16383
limited l p = omega (arith, (permitted l p).written)

module _ (l : Limits) (s : List ℕ) where
  passes : first ((normal_step l).checks s) ≡ Ok tt → (is_permitted l ≡ true) × (headed_checked true (plain_limit l) s ≡ Ok tt)
  unfolding headed_checked
  passes e =
      let p = passed_limits l (headed_checks true (plain_limit l) s ++ form_checks l (body s)) e in
      (p.0, ((first_append_both (headed_checks true (plain_limit l) s) (form_checks l (body s))).0 p.1).0)

  module _ (slice : List ℕ) (n : ℕ) where
    pub form-source : form_of l s (length slice) ≡ Ok (Source n) → OwnForm s slice (result_of (normal_step l) s slice) n
    form-source f =
        let q = told.form-source l s slice n f in
        let h = accepted-headed true (plain_limit l) s q.accepted in
        let front : take n s ≡ headed (body s) = rw q.long (take-length s ∙ h.whole) in
        record {
          own = (normal-exactly (body s)).0 q.normal;
          whole = q.long;
          form = forms (accepted-well-formed true (plain_limit l) (body s) h.words)
              (own-form_of (plain_limit l) (body s) h.words (limited l q.permitted) q.normal) front (q.long ∙ ap length h.whole);
          kept = own-result l s slice q.permitted q.accepted q.normal;
        }

    pub form_made : form_of l s (length slice) ≡ Ok (Made n) → MadeForm s (result_of (normal_step l) s slice) n
    form_made f =
        let q = told.form_made l s slice n f in
        let both = passes q.made.accepted in
        let h = accepted-headed true (plain_limit l) s both.1 in
        let makes = other_makes l s q.normal in
        let k : n ≡ length (headed (normal_table (body s))) = q.made.long ∙ ap length makes in
        let few : length (normal_table (body s)) ≤ 16383 = omega (arith, fitting-few n (length slice) q.made.fitting) in
        record {
          other = not_normal (body s) q.normal;
          form = forms (accepted-well-formed true (plain_limit l) (body s) h.words)
              (other_form_of (plain_limit l) (body s) h.words (limited l both.0) q.normal few) (q.made.front ∙ makes) k;
        }
