-- The promises of reading a text, said by the grammar: the reader is the grammar, the reply is the one that the grammar asks for, and the
-- table that is made means the text, and passes the checks of the plain-form step.
use Prim.Native.Nat.{ℕ, ◌≤◌, ◌<◌}
use native.Mathlib.Omega.{arith}
use mathlib.Core.Path.{◌≡◌, refl, sym, ap, subst, subst₂, ◌∙◌}
use mathlib.Core.Logic.{◌↔◌, ⊎_elim}
use mathlib.Core.Bool.{Bool, true, false, true≢false}
use mathlib.Core.List.{List, ◌++◌}
use mathlib.Core.Option.{Option, none, some}
use lib.ListN.{length, take, drop}
use borrow.Author.Tests.{ltb-false}
use Rattle.logic.specs.Formula.{Formula}
use Rattle.logic.proofs.Numbers.{lt_or_le}
use Rattle.refusals.specs.declared.Refusal.TheVariants.{NotGrammar}
use Rattle.table.specs.Answers.{Answer}
use Rattle.std.specs.Prelude.{Ok, Err}
use Rattle.table.specs.declared.settings.Limits.{Limits}
use Rattle.refusals.specs.Refusals.{first}
use Rattle.table.specs.Limits.{is_permitted}
use Rattle.table.specs.Table.{rule}
use Rattle.table.specs.Checks.{checked}
use Rattle.table.specs.Numbering.{table_of}
use Rattle.table.specs.Header.{headed, body, headed_checked}
use Rattle.table.proofs.Header.{headed-accepted}
use Rattle.table.specs.Frame.{answer_of, result_of}
use Rattle.refusals.proofs.First.{Passed, first_passed}
use Rattle.table.proofs.Stated.{permitted as within, passed_limits}
use Rattle.table.proofs.Frame.{Answered, answered}
use Rattle.logic.specs.Letters.{Letters}
use Rattle.numbering.proofs.Accepted.{plain_small, accepted-written}
use Rattle.numbering.proofs.Used.{rule-table_of}
use Rattle.grammar.specs.Grammar.{Symbol, Rule, constant_rule, letter_rule, prefixed, bracketed, Reads, Departs}
use Rattle.grammar.specs.Reader.{is_none, reading_of, departure_of}
use Rattle.text.specs.Text.{table_by, text_table, read_step, text_step}
use Rattle.text.specs.Reply.{Read, too_long, departing, too_many, too_short, table, Reply, outside, permitted}
use Rattle.grammar.proofs.Complete.{complete, one_reading}
use Rattle.grammar.proofs.Sound.{sound}
use Rattle.grammar.proofs.Viable.{departs, departs-once}
use Rattle.text.proofs.Outcomes.{outcome_outside, outcome_long, outcome_departs, outcome_many, outcome_short, outcome_made}

-- the reader reads exactly the grammar
pub reads : (text : List ℕ) (φ : Formula) → Reads text φ ↔ (reading_of text ≡ some φ)
reads text φ = (complete, sound text φ)

-- the reply and the slice are those that the limits and the grammar ask for
module _ (l : Limits) (text slice : List ℕ) where
  abbrev Replied : Type 0
  Replied = Reply l text slice (answer_of (text_step l) text (length slice)) (result_of (text_step l) text slice)

  both : {a b : Answer} {s t : List ℕ} → Reply l text slice a s → (a ≡ b) × (s ≡ t) → Reply l text slice b t
  both r e = subst₂ (λ (a : Answer) (s : List ℕ). Reply l text slice a s) e.0 e.1 r

  module _ (p : is_permitted l ≡ true) where
    module _ (short : length text ≤ 1024) where
      by_slice : (φ : Formula) → reading_of text ≡ some φ → length (table_of φ) ≤ l.written → Replied
      by_slice φ e h =
          ⊎_elim
          (λ k. both (permitted p (too_short φ short (sound text φ e) h k)) (outcome_short l text slice p short φ e h k))
          (λ k. both (permitted p (table φ short (sound text φ e) h k)) (outcome_made l text slice p short φ e h k))
          (lt_or_le (length slice) (length (headed (table_of φ))))

      by_reading : (o : Option Formula) → reading_of text ≡ o → Replied
      by_reading none e = both (permitted p (departing (departure_of text) short (departs text e))) (outcome_departs l text slice p short (departure_of text) (e, refl))
      by_reading (some φ) e =
          ⊎_elim
          (λ h. both (permitted p (too_many φ short (sound text φ e) h)) (outcome_many l text slice p short φ e h))
          (λ h. by_slice φ e h)
          (lt_or_le l.written (length (table_of φ)))

    by_length : Replied
    by_length = ⊎_elim (λ h. both (permitted p (too_long h)) (outcome_long l text slice p h)) (λ h. by_reading h (reading_of text) refl) (lt_or_le 1024 (length text))

  by_limits : (b : Bool) → is_permitted l ≡ b → Replied
  by_limits true p = by_length p
  by_limits false p = both (outside p) (outcome_outside l text slice p)

  pub replied : Replied
  replied = by_limits (is_permitted l) refl

-- and the grammar asks for one reply
read-departs : {text : List ℕ} {φ : Formula} {n : ℕ} → Reads text φ → Departs text n → ⊥
read-departs {φ = φ} r d = d.no_rule φ r

same_length : {text : List ℕ} {φ ψ : Formula} → Reads text φ → Reads text ψ → length (table_of φ) ≡ length (table_of ψ)
same_length r q = ap (λ (φ : Formula). length (table_of φ)) (one_reading r q)

one_read : {limit : ℕ} {text slice : List ℕ} {a b : Answer} {s t : List ℕ} → Read limit text slice a s → Read limit text slice b t → (a ≡ b) × (s ≡ t)
one_read (too_long h) (too_long k) = (refl, refl)
one_read (too_long h) (departing m l e) = absurd (omega arith)
one_read (too_long h) (too_many ψ l q k) = absurd (omega arith)
one_read (too_long h) (too_short ψ l q k j) = absurd (omega arith)
one_read (too_long h) (table ψ l q k j) = absurd (omega arith)
one_read (departing n h d) (too_long k) = absurd (omega arith)
one_read (departing n h d) (departing m l e) = (ap (λ (i : ℕ). Err (NotGrammar i)) (departs-once d e), refl)
one_read (departing n h d) (too_many ψ l q k) = absurd (read-departs q d)
one_read (departing n h d) (too_short ψ l q k j) = absurd (read-departs q d)
one_read (departing n h d) (table ψ l q k j) = absurd (read-departs q d)
one_read (too_many φ h r g) (too_long k) = absurd (omega arith)
one_read (too_many φ h r g) (departing m l e) = absurd (read-departs r e)
one_read (too_many φ h r g) (too_many ψ l q k) = (refl, refl)
one_read (too_many φ h r g) (too_short ψ l q k j) = absurd (omega (arith, same_length r q))
one_read (too_many φ h r g) (table ψ l q k j) = absurd (omega (arith, same_length r q))
one_read (too_short φ h r g i) (too_long k) = absurd (omega arith)
one_read (too_short φ h r g i) (departing m l e) = absurd (read-departs r e)
one_read (too_short φ h r g i) (too_many ψ l q k) = absurd (omega (arith, same_length r q))
one_read (too_short φ h r g i) (too_short ψ l q k j) = (refl, refl)
one_read (too_short φ h r g i) (table ψ l q k j) = absurd (omega (arith, same_length r q))
one_read (table φ h r g i) (too_long k) = absurd (omega arith)
one_read (table φ h r g i) (departing m l e) = absurd (read-departs r e)
one_read (table φ h r g i) (too_many ψ l q k) = absurd (omega (arith, same_length r q))
one_read (table φ h r g i) (too_short ψ l q k j) = absurd (omega (arith, same_length r q))
one_read {slice = slice} (table φ h r g i) (table ψ l q k j) =
    let e = one_reading r q in
    (ap (λ (χ : Formula). Ok (length (headed (table_of χ)))) e, ap (λ (χ : Formula). headed (table_of χ) ++ drop (length (headed (table_of χ))) slice) e)

pub one_reply : {l : Limits} {text slice : List ℕ} {a b : Answer} {s t : List ℕ} → Reply l text slice a s → Reply l text slice b t → (a ≡ b) × (s ≡ t)
one_reply (outside p) (outside q) = (refl, refl)
one_reply (outside p) (permitted q r) = absurd (true≢false (sym q ∙ p))
one_reply (permitted p r) (outside q) = absurd (true≢false (sym p ∙ q))
one_reply (permitted p r) (permitted q s) = one_read r s

-- a rule's letters are 1 to 32, so its table passes the checks of the plain-form step
rule-letters : {xs : List Symbol} {φ : Formula} → Rule xs φ → Letters (λ p. (0 < p) × (p ≤ 32)) φ
rule-letters (constant_rule b) = tt
rule-letters (letter_rule n h k) = (h, k)
rule-letters (prefixed o r) = rule-letters r
rule-letters (bracketed o r q) = (rule-letters r, rule-letters q)

pub text-words-accepted : {text : List ℕ} {φ : Formula} → Reads text φ → (limit : ℕ) → length (table_of φ) ≤ limit → limit ≤ 16383 → checked false limit (table_of φ) ≡ Ok tt
text-words-accepted {φ = φ} r limit = accepted-written limit φ (rule-letters r.rule)

pub text-accepted : {text : List ℕ} {φ : Formula} → Reads text φ → (limit : ℕ) → length (table_of φ) ≤ limit → limit ≤ 16383
    → headed_checked false limit (headed (table_of φ)) ≡ Ok tt
text-accepted {φ = φ} r limit few small = headed-accepted false limit (table_of φ) small (text-words-accepted r limit few small)

-- the rule of a text's table is the formula that the text is related to
text-rule : {text : List ℕ} {φ : Formula} → Reads text φ → length (table_of φ) ≤ 256 → rule (table_of φ) ≡ φ
text-rule {φ = φ} r few = rule-table_of φ (plain_small φ (rule-letters r.rule)) (omega arith)

-- what an answer tells: the table of the text's formula, with its header, stands at the front of the slice, and has few words
record Told (l : Limits) (text front : List ℕ) : Type 0 where
  formula : Formula
  reads : Reads text formula
  words : front ≡ headed (table_of formula)
  few : length (table_of formula) ≤ l.written
  small : l.written ≤ 256

-- of every answered call
module _ (l : Limits) (text slice : List ℕ) (n : ℕ) (made : answer_of (text_step l) text (length slice) ≡ Ok n) where
  told : Told l text (take n (result_of (text_step l) text slice))
  unfolding text_table
  told = by_reading (reading_of text) refl
    where
      a : Answered (text_step l) text slice n
      a = answered (text_step l) text slice n made

      b : (is_permitted l ≡ true) × (first ((read_step l.written).checks text) ≡ Ok tt)
      b = passed_limits l ((read_step l.written).checks text) a.accepted

      p : Passed ((read_step l.written).checks text)
      p = first_passed ((read_step l.written).checks text) b.1

      by_reading : (o : Option Formula) → reading_of text ≡ o → Told l text (take n (result_of (text_step l) text slice))
      by_reading none e = absurd (true≢false (sym (ap is_none e) ∙ p.1.0))
      by_reading (some φ) e = record {
        formula = φ;
        reads = sound text φ e;
        words = a.front ∙ ap (λ (x : Option Formula). headed (table_by x)) e;
        few = rw (← ap table_by e) (ltb-false l.written (length (table_by (reading_of text))) p.1.1.0);
        small = (within l b.0).written;
      }

  -- the text is related to the rule of the table, and to no other formula (`one-reading`)
  pub made_reads : Reads text (rule (body (take n (result_of (text_step l) text slice))))
  made_reads =
      let q = told in
      subst (Reads text) (sym (ap (λ (t : List ℕ). rule (body t)) q.words ∙ text-rule q.reads (omega (arith, q.few, q.small)))) q.reads

  -- the plain-form step takes it
  pub made_accepted : headed_checked false l.written (take n (result_of (text_step l) text slice)) ≡ Ok tt
  made_accepted = let q = told in rw q.words (text-accepted q.reads l.written q.few (omega (arith, q.small)))
