-- The ways in which reading a text ends, each with its answer and its slice: 20, 19, 2, 12, and a table.
use Prim.Native.Nat.{ℕ, suc, ◌≤◌, ◌<◌, min}
use native.Mathlib.Omega.{arith}
use mathlib.Core.Path.{◌≡◌, refl, sym, ap, subst, ◌∙◌}
use mathlib.Core.Bool.{true, false, true≢false}
use mathlib.Core.List.{List, ◌++◌}
use mathlib.Core.Option.{none}
use mathlib.Core.Option as option
use lib.ListN.{length, take, drop, replicate, length-replicate}
use borrow.Author.Tests.{lt-ltb, le-ltb, lt-leb, le-leb}
use Rattle.logic.specs.Formula.{Formula}
use Rattle.logic.proofs.Numbers.{get_or-zeros}
use Rattle.refusals.specs.declared.Refusal.{Refusal}
use Rattle.refusals.specs.declared.Refusal.TheVariants.{TooManyWords, ResultTooShort, NotGrammar, TextTooLong, LimitsOutside}
use Rattle.std.specs.Prelude.{Result, Ok, Err}
use Rattle.table.specs.Answers.{Answer}
use Rattle.table.specs.declared.settings.Limits.{Limits}
use Rattle.table.specs.Limits.{is_permitted}
use Rattle.refusals.specs.Refusals.{first, number_of}
use Rattle.table.specs.Numbering.{table_of}
use Rattle.table.specs.Header.{headed}
use Rattle.table.specs.Frame.{answer_of, result_of}
use Rattle.refusals.proofs.First.{first_refusal}
use Rattle.table.proofs.Stated.{permitted, permitted-checks, outside-checks}
use Rattle.table.proofs.Frame.{Early, stated-early, refused-answer, refused-result}
use Rattle.headed_answers.specs.Finished.{Given}
use Rattle.headed_answers.proofs.Ends.{given_ends}
use Rattle.placing.specs.State as draft
use Rattle.placing.proofs.Putting.{written-length, numbered_none}
use Rattle.grammar.specs.Reader.{reading_of, departure_of}
use Rattle.parsing.specs.Parsed.{Fresh, Parsed, OkOrPlace}
use Rattle.text.specs.Text.{table_by, text_table, read_step, text_step}

-- no check before the last refuses for length
pub text-early : (l : Limits) → Early (text_step l)
text-early l = stated-early l (record {
  early = λ t r e n. first_refusal (λ x. number_of x ≡ 12 → ⊥) ((read_step l.written).checks t) r (λ e. omega arith, (λ e. omega arith, (λ e. omega arith, tt))) e n;
})

-- no word yet
pub fresh : (text : List ℕ) → length text ≤ 1024 → Fresh text (replicate 1025 0) (draft.state (replicate 1025 0) (replicate 2052 0))
fresh text h = record {
  short = h;
  long = length-replicate {A = ℕ} 1025 0;
  wide = length-replicate {A = ℕ} 1025 0;
  numbered = numbered_none (replicate 1025 0) 2052 (omega arith) (omega arith);
  empty = get_or-zeros 2052 0;
}

module _ (l : Limits) (text : List ℕ) (slice : List ℕ) where
  refused : (r : Refusal) → first ((text_step l).checks text) ≡ Err r
      → (Err r ≡ answer_of (text_step l) text (length slice)) × (slice ≡ result_of (text_step l) text slice)
  refused r e = (sym (refused-answer (text_step l) text slice r e), sym (refused-result (text_step l) text slice (text-early l) r e))

  pub outcome_outside : is_permitted l ≡ false → (Err LimitsOutside ≡ answer_of (text_step l) text (length slice)) × (slice ≡ result_of (text_step l) text slice)
  outcome_outside h = refused LimitsOutside (outside-checks l ((read_step l.written).checks text) h)

  -- by permitted limits
  module _ (p : is_permitted l ≡ true) where
    pub outcome_long : 1024 < length text → (Err TextTooLong ≡ answer_of (text_step l) text (length slice)) × (slice ≡ result_of (text_step l) text slice)
    outcome_long h = refused TextTooLong (permitted-checks l ((read_step l.written).checks text) p ∙ rw (lt-ltb 1024 (length text) h) refl)

    module _ (h : length text ≤ 1024) where
      pub outcome_departs : (r : ℕ) → (reading_of text ≡ none) × (r ≡ departure_of text)
          → (Err (NotGrammar r) ≡ answer_of (text_step l) text (length slice)) × (slice ≡ result_of (text_step l) text slice)
      outcome_departs r d = refused (NotGrammar r) (permitted-checks l ((read_step l.written).checks text) p ∙ rw (le-ltb 1024 (length text) h, d.0, d.1) refl)

      module _ (φ : Formula) (e : reading_of text ≡ option.some φ) where
        table_is : text_table text ≡ table_of φ
        unfolding text_table
        table_is = ap table_by e

        pub outcome_many : l.written < length (table_of φ) → (Err TooManyWords ≡ answer_of (text_step l) text (length slice)) × (slice ≡ result_of (text_step l) text slice)
        outcome_many k = refused TooManyWords (permitted-checks l ((read_step l.written).checks text) p ∙ rw (le-ltb 1024 (length text) h, e, table_is, lt-ltb l.written (length (table_of φ)) k) refl)

        module _ (k : length (table_of φ) ≤ l.written) where
          passes : first ((text_step l).checks text) ≡ Ok tt
          passes = permitted-checks l ((read_step l.written).checks text) p ∙ rw (le-ltb 1024 (length text) h, e, table_is, le-ltb l.written (length (table_of φ)) k) refl

          -- the words under their header
          pub outcome_given : {words e : List ℕ} {r : Answer} → words ≡ table_of φ → Given (headed words) slice e r
              → (r ≡ answer_of (text_step l) text (length slice)) × (e ≡ result_of (text_step l) text slice)
          outcome_given {words} {e} {r} w g =
              let q = given_ends (text_step l) text slice passes (subst (λ (t : List ℕ). Given (headed t) slice e r) (w ∙ sym table_is) g) in
              (q.reply, q.slice)

          pub outcome_short : length slice < length (headed (table_of φ))
              → (Err ResultTooShort ≡ answer_of (text_step l) text (length slice)) × (replicate (length slice) 0 ≡ result_of (text_step l) text slice)
          outcome_short z = outcome_given refl (record { fit = λ f. absurd (true≢false (sym f ∙ lt-leb (suc (length (table_of φ))) (min (length slice) 16384) (omega arith))); unfit = λ f. (refl, refl) })

          pub outcome_made : length (headed (table_of φ)) ≤ length slice
              → (Ok (length (headed (table_of φ))) ≡ answer_of (text_step l) text (length slice)) × (headed (table_of φ) ++ drop (length (headed (table_of φ))) slice ≡ result_of (text_step l) text slice)
          outcome_made z = outcome_given refl (record { fit = λ f. (refl, refl); unfit = λ f. absurd (true≢false (sym (le-leb (suc (length (table_of φ))) (min (length slice) 16384) (omega (arith, (permitted l p).written))) ∙ f)) })

-- the words that were read, by their count
module _ {text : List ℕ} {s : draft.State} {r : ℕ} (p : Parsed text s r) (z : r ≡ 0) where
  pub counted : (n : ℕ) → n ≡ draft.count s → length (table_of (p.reads z).0) ≡ n
  counted n e = ap length (sym (p.reads z).2) ∙ written-length p.numbered ∙ sym e

  pub copied : (n : ℕ) → n ≡ draft.count s → take n s.out ≡ table_of (p.reads z).0
  copied n e = ap (λ (k : ℕ). take k s.out) e ∙ (p.reads z).2

-- what is no departure is a rule
pub read_rule : (text : List ℕ) (s : draft.State) (r : Result (Unit {0}) ℕ) → OkOrPlace (λ n. Parsed text s n) r → ((n : ℕ) → r ≡ Err n → ⊥) → Parsed text s 0
read_rule text s (Ok u) p f = p
read_rule text s (Err n) p f = absurd (f n refl)
