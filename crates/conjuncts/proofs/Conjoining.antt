-- The conjuncts of a part, joined one after the other.
use Prim.Native.Nat.{ℕ, zero, suc, ◌+◌, ◌*◌, ◌-◌, ◌/◌, ◌%◌, ◌^◌, ◌≤◌, ◌<◌}
use native.Mathlib.Omega.{arith}
use native.Mathlib.Numerals.{add-one}
use mathlib.Core.Path.{◌≡◌, refl, sym, ap, ◌∙◌}
use mathlib.Core.Bool.{Bool, true, false, cond}
use mathlib.Core.List.{List, [], ◌∷◌, ◌++◌, map, map-append, foldl, foldl-append, append-nil}
use lib.ListN.{length, get_or, take, length-append}
use lib.Seq.{take-length}
use lib.Dec.{eqb}
use Rattle.logic.specs.Formula.{Formula, const, bin, conj}
use Rattle.transforms.specs.NormalForm.{keep, chosen, least_of, greatest_of}
use Rattle.table.specs.Table.{formulas, formulas_after, formula_of}
use Rattle.table.specs.Steps.{fixpoints}
use Rattle.table.specs.StepChecks.{is_fixpoint_word}
use Rattle.table.proofs.Accepted.{WellFormed, accepted-well-formed, accepted-formula}
use Rattle.drafts.specs.Drafted.{SlotIs, Drafted}
use Rattle.drafts.proofs.Drafts.{drafted_below}
use Rattle.form_places.specs.declared.Rewriting.TheVariants.{Steady, Recurring, Opening}
use Rattle.fixpoint_kinds.specs.declared.Fixpoint.{Fixpoint}
use Rattle.fixpoint_kinds.specs.declared.Fixpoint.TheVariants.{Least, Greatest}
use Rattle.form_places.specs.Places.{place}
use Rattle.rewriting.specs.Slots.{word_by}
use Rattle.logic.specs.Bit.{bit}
use Rattle.fixpoints.specs.Positions.{bit_of}
use Rattle.conjuncts.specs.Filled.{Filled}
use Rattle.fixpoint_kinds.specs.Kinds.{picks, form_slot, inner_slot}
use Rattle.conjuncts.specs.Conjunct.{members_of, conjunct_of, conjoined, outer_slot, Conjoinable, Conjoined, Joinable, Joined}
use Rattle.form_places.proofs.Places.{place-fits}
use Rattle.normal_laws.proofs.Chosen.{keep_append}
use Rattle.fixpoints.proofs.UntilLike.{chosen-append, fixpoints_step, bits_before}
use Rattle.conjuncts.proofs.Members.{members_picked, picked-word}
use Rattle.conjuncts.proofs.Forms.{slot_at, filled-later, kept_bit}

-- the members among the words so far and one more
module _ {t : List ℕ} {limit : ℕ} (f : WellFormed true limit t) (i : ℕ) (h : i < length t) (x : Fixpoint) (c : ℕ) where
  members_more : members_of x (take (suc i) t) c
      ≡ members_of x (take i t) c ++ keep (picks x) (chosen (cond (is_fixpoint_word (get_or t i 0)) (get_or (formulas t) i (const false) ∷ []) []) (c / 2 ^ bit_of t i))
  members_more =
      members_picked x (take (suc i) t) c
      ∙ ap (λ (ψs : List Formula). keep (picks x) (chosen ψs c)) (fixpoints_step f i h)
      ∙ ap (keep (picks x)) (chosen-append (fixpoints (take i t)) _ c)
      ∙ ap (λ (b : ℕ). keep (picks x) (chosen (fixpoints (take i t)) c ++ chosen (cond (is_fixpoint_word (get_or t i 0)) (get_or (formulas t) i (const false) ∷ []) []) (c / 2 ^ b))) (bits_before f i (omega arith))
      ∙ keep_append (picks x) (chosen (fixpoints (take i t)) c) _
      ∙ rw (members_picked x (take i t) c)

  pub members_other : picks x (get_or (formulas t) i (const false)) ≡ false → members_of x (take (suc i) t) c ≡ members_of x (take i t) c
  unfolding chosen
  members_other e = members_more ∙ go (is_fixpoint_word (get_or t i 0))
    where
      by_bit : (b : Bool) → members_of x (take i t) c ++ keep (picks x) (cond b (get_or (formulas t) i (const false) ∷ []) []) ≡ members_of x (take i t) c
      by_bit true = rw (e, append-nil)
      by_bit false = append-nil (members_of x (take i t) c)

      go : (b : Bool) → members_of x (take i t) c ++ keep (picks x) (chosen (cond b (get_or (formulas t) i (const false) ∷ []) []) (c / 2 ^ bit_of t i)) ≡ members_of x (take i t) c
      go true = by_bit (eqb (c / 2 ^ bit_of t i % 2) 1)
      go false = append-nil (members_of x (take i t) c)

  pub members_left : picks x (get_or (formulas t) i (const false)) ≡ true → bit c (bit_of t i) ≡ false → members_of x (take (suc i) t) c ≡ members_of x (take i t) c
  unfolding chosen bit
  members_left e d = members_more ∙ rw (picked-word f i h x e, d, append-nil)

  pub members_taken : picks x (get_or (formulas t) i (const false)) ≡ true → bit c (bit_of t i) ≡ true
      → members_of x (take (suc i) t) c ≡ members_of x (take i t) c ++ (get_or (formulas t) i (const false) ∷ [])
  unfolding chosen bit
  members_taken e d = members_more ∙ rw (picked-word f i h x e, d, e)

  members_longer : length (members_of x (take i t) c) ≤ length (members_of x (take (suc i) t) c)
  members_longer = rw (members_more, length-append) (omega arith)

-- there are no more among the first words than among all
members_rise : {t : List ℕ} {limit : ℕ} → WellFormed true limit t → (x : Fixpoint) (c k i : ℕ) → i + k ≡ length t → length (members_of x (take i t) c) ≤ length (members_of x t c)
members_rise {t} f x c zero i e = let q : i ≡ length t = omega arith in rw (q, take-length t) (omega arith)
members_rise f x c (suc k) i e = omega (arith, members_longer f i (omega arith) x c, members_rise f x c k (suc i) (omega arith))

members_none : (x : Fixpoint) (t : List ℕ) (c : ℕ) → members_of x (take 0 t) c ≡ []
unfolding fixpoints formulas formulas_after least_of greatest_of chosen
members_none Least t c = refl
members_none Greatest t c = refl

-- one conjunct more
conjoined_more : (x : Fixpoint) (t : List ℕ) (c : ℕ) (l : List Formula) (ψ φ : Formula) → conjoined x t c (l ++ (ψ ∷ [])) φ ≡ bin conj (conjoined x t c l φ) (conjunct_of x t c ψ)
conjoined_more x t c l ψ φ = ap (foldl (bin conj) φ) (map-append (conjunct_of x t c) l (ψ ∷ [])) ∙ foldl-append (bin conj) φ (map (conjunct_of x t c) l) _

-- the conjuncts of the first i words are joined
pub record Joining (x : Fixpoint) (t : List ℕ) (c : ℕ) (d : List ℕ) (first : ℕ) (e : List ℕ) (next i : ℕ) : Type 0 where
  pub within : i ≤ length t
  pub long : length e ≡ length d
  pub filled : Filled t c e (length t)
  pub before : (k : ℕ) → k < first → get_or e k 0 ≡ get_or d k 0
  pub after : next ≡ first + 3 * length (members_of x (take i t) c)
  pub joined : (φ : Formula) → Drafted d φ (first - 1) → Drafted e (conjoined x t c (members_of x (take i t) c) φ) (next - 1)

-- what the slots of a conjunct stand for
conjunct_drafted : (x : Fixpoint) {t : List ℕ} {c : ℕ} {e : List ℕ} {j n next : ℕ} → Filled t c e n → 0 < j → j ≤ n → 1 < next → form_slot x j < next
    → SlotIs e next (inner_slot x (form_slot x j)) → SlotIs e (next + 1) (outer_slot x next) → Drafted e (conjunct_of x t c (formula_of (formulas t) j)) (next + 1)
conjunct_drafted Least {j = j} {next = next} q p l a b s r =
    (0, next, omega arith, omega arith, q.false_slot, (1, place Recurring j, a, b, q.true_slot, q.form Recurring j p l, s), r)
conjunct_drafted Greatest {j = j} {next = next} q p l a b s r =
    (1, next, omega arith, omega arith, q.true_slot, (0, place Steady j, omega arith, b, q.false_slot, q.form Steady j p l, s), r)

form-place : (x : Fixpoint) (j n : ℕ) → place Opening j < n → form_slot x j < n
form-place Least j n h = place-fits Recurring j n h
form-place Greatest j n h = place-fits Steady j n h

module _ {x : Fixpoint} {t positions : List ℕ} {c : ℕ} {d : List ℕ} {first : ℕ} (q : Joinable x t positions c d first) where
  well-formed : WellFormed true q.limit t
  well-formed = accepted-well-formed true q.limit t q.accepted

  pub joining_none : Joining x t c d first d first 0
  joining_none = record {
    within = omega arith;
    long = refl;
    filled = q.filled;
    before = λ k l. refl;
    after = rw (members_none x t c) (omega arith);
    joined = λ φ p. rw (members_none x t c) p;
  }

  pub joining_all : {e : List ℕ} {next i : ℕ} → Joining x t c d first e next i → length t ≤ i → Joined x t c d first e next
  joining_all {i = i} s h =
      let z : i ≡ length t = omega (arith, s.within) in
      let y : take i t ≡ t = ap (λ (n : ℕ). take n t) z ∙ take-length t in
      record { long = s.long; before = s.before; after = rw y at s.after; joined = λ φ p. rw y at (s.joined φ p) }

  module _ {e : List ℕ} {next i : ℕ} (s : Joining x t c d first e next i) (h : i < length t) where
    ψ : Formula
    ψ = get_or (formulas t) i (const false)

    -- what the code's two tests tell
    told : {r b : Bool} → ((a b : Formula) → r ≡ picks x (word_by (get_or t i 0) a b)) → r ≡ b → picks x ψ ≡ b
    unfolding ψ
    told g e = ap (picks x) (accepted-formula well-formed i h) ∙ sym (g _ _) ∙ e

    picked-bit : {r b : Bool} → r ≡ bit c (get_or positions (i + 1) 0) → r ≡ b → bit c (bit_of t i) ≡ b
    unfolding ψ
    picked-bit g e = sym (kept_bit c q.kept h g) ∙ e

    later : first ≤ next
    later = omega (arith, s.after)

    same : members_of x (take (suc i) t) c ≡ members_of x (take i t) c → Joining x t c d first e next (i + 1)
    same z = rw (add-one i) (record {
      within = h;
      long = s.long;
      filled = s.filled;
      before = s.before;
      after = rw z s.after;
      joined = λ φ p. rw z (s.joined φ p);
    })

    pub joining_other : {r : Bool} → ((a b : Formula) → r ≡ picks x (word_by (get_or t i 0) a b)) → r ≡ false → Joining x t c d first e next (i + 1)
    unfolding ψ
    joining_other g z = same (members_other well-formed i h x c (told g z))

    pub joining_left : {r o : Bool} → ((a b : Formula) → r ≡ picks x (word_by (get_or t i 0) a b)) → r ≡ true → o ≡ bit c (get_or positions (i + 1) 0) → o ≡ false
        → Joining x t c d first e next (i + 1)
    unfolding ψ
    joining_left g z k y = same (members_left well-formed i h x c (told g z) (picked-bit k y))

    module _ {r o : Bool} (g : (a b : Formula) → r ≡ picks x (word_by (get_or t i 0) a b)) (z : r ≡ true) (k : o ≡ bit c (get_or positions (i + 1) 0)) (y : o ≡ true) where
      more : members_of x (take (suc i) t) c ≡ members_of x (take i t) c ++ (ψ ∷ [])
      unfolding ψ
      more = members_taken well-formed i h x c (told g z) (picked-bit k y)

      more_length : length (members_of x (take (suc i) t) c) ≡ length (members_of x (take i t) c) + 1
      more_length = rw (more, length-append)

      pub joining_room : Conjoinable x (i + 1) e next
      joining_room = record {
        form_before = form-place x (i + 1) next (omega (arith, later, q.past_words));
        within = omega (arith, s.after, more_length, members_rise well-formed x c (length t - suc i) (suc i) (omega arith), q.long, s.long);
        narrow = omega (arith, s.long, q.narrow);
      }

      pub joining_taken : {e' : List ℕ} {n : ℕ} → Conjoined x (i + 1) e next e' n → Joining x t c d first e' n (i + 1)
      unfolding ψ formula_of
      joining_taken {e'} {n} w = rw (add-one i) (record {
        within = h;
        long = w.long ∙ s.long;
        filled = filled;
        before = λ k l. w.before k (omega (arith, later)) ∙ s.before k l;
        after = w.after ∙ omega (arith, s.after, more_length);
        joined = λ φ p. rw (more, conjoined_more, w.after) (joined φ p);
      })
        where
          fits : next + 2 < length e'
          fits = omega (arith, joining_room.within, w.long)

          filled : Filled t c e' (length t)
          filled = filled-later e' next s.filled (omega (arith, later, q.past_words)) (omega (arith, fits)) w.before

          joined : (φ : Formula) → Drafted d φ (first - 1) → Drafted e' (bin conj (conjoined x t c (members_of x (take i t) c) φ) (conjunct_of x t c ψ)) (next + 3 - 1)
          joined φ p =
              let b : 0 < next = omega (arith, later, q.past_words) in
              let z : next + 3 - 1 ≡ next + 2 = omega arith in
              rw z (
                next - 1,
                next + 1,
                omega arith,
                omega arith,
                drafted_below e e' next (omega (arith, fits)) w.before (conjoined x t c (members_of x (take i t) c) φ) (next - 1) (omega arith) (s.joined φ p),
                conjunct_drafted x {j = suc i} filled (omega arith) h (omega (arith, later, q.past_words)) (form-place x (suc i) next (omega (arith, later, q.past_words)))
                    (slot_at (omega (arith, fits)) (rw (add-one i) at w.inner)) (slot_at (omega (arith, fits)) w.outer),
                slot_at fits w.joined,
              )
