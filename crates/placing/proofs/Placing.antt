-- Steps that place words, one after the other.
-- An answer of 0 says that the table does not fit, and then nothing that it grows to fits either.
use Prim.Native.Nat.{ℕ, ◌+◌, ◌-◌, ◌≤◌, ◌<◌, zero-le}
use native.Mathlib.Omega.{arith}
use mathlib.Core.Path.{◌≡◌, refl, sym, ap, ap₂, ◌∙◌, subst}
use mathlib.Core.Bool.{Bool, true, false, true≢false}
use mathlib.Core.List.{List, [], ◌++◌}
use lib.ListN.{length, take, drop, take-append-drop}
use lib.Seq.{drop-drop}
use borrow.Author.Tests.{leb-true, leb-false}
use Rattle.logic.specs.Formula.{Formula}
use Rattle.table.specs.Numbering.{Placed, build, table_of, room, fits}
use Rattle.numbering.specs.Held.{Held}
use Rattle.placing.specs.State.{State, count, written, fits_in, Numbered, Placing}
use Rattle.numbering.proofs.Building.{Grows, grows-length, build-grows, build_held, held_build, held_within}
use Rattle.placing.proofs.Putting.{fits-true, fits-false, written-length}

pub true-fits : (a n : ℕ) → fits a n ≡ true → a ≤ room n
unfolding fits
true-fits a n e = leb-true a (room n) e

pub false-fits : (a n : ℕ) → fits a n ≡ false → room n < a
unfolding fits
false-fits a n e = leb-false a (room n) e

-- where a table does not fit, nothing that it grows to fits
pub unfit-grows : {t s : List ℕ} (n : ℕ) → Grows t s → fits (length t) n ≡ false → fits (length s) n ≡ false
unfit-grows n g e = fits-false _ _ (omega (arith, false-fits _ _ e, grows-length g))

-- a number answers only a table that fits, and 0 only one that does not
pub placing-fits : {s e : State} {p : Placed} {r : ℕ} → Placing s e p r → 0 < r → fits_in p.table s ≡ true
placing-fits {s} {p} h g = go (fits_in p.table s) refl
  where
    go : (b : Bool) → fits_in p.table s ≡ b → b ≡ true
    go true e = refl
    go false e = absurd (omega (arith, h.full e))

pub placing-unfit : {s e : State} {p : Placed} {r : ℕ} → Placing s e p r → r ≡ 0 → 0 < p.number → fits_in p.table s ≡ false
placing-unfit {s} {p} h z g = go (fits_in p.table s) refl
  where
    go : (b : Bool) → fits_in p.table s ≡ b → b ≡ false
    go true e = absurd (omega (arith, h.answer e))
    go false e = refl

-- what stands once a number was answered
pub placing-written : {s e : State} {p : Placed} {r : ℕ} → Placing s e p r → 0 < r → written e ≡ p.table
placing-written h g = h.table (placing-fits h g)

pub placing-answer : {s e : State} {p : Placed} {r : ℕ} → Placing s e p r → 0 < r → r ≡ p.number
placing-answer h g = h.answer (placing-fits h g)

-- where a step answered 0, whatever its table grows to is answered by 0 too
pub placing-full : {s e : State} {p : Placed} (q : Placed) {r : ℕ} → Placing s e p r → r ≡ 0 → 0 < p.number → Grows p.table q.table → Placing s e q 0
placing-full {s} {p} q h z g w = record {
  numbered = h.numbered;
  long = h.long;
  within = zero-le;
  answer = λ e. absurd (true≢false (sym e ∙ unfit));
  table = λ e. absurd (true≢false (sym e ∙ unfit));
  past = λ e. absurd (true≢false (sym e ∙ unfit));
  full = λ e. refl;
}
  where
    unfit : fits_in q.table s ≡ false
    unfit = unfit-grows (length s.out) w (placing-unfit h z g)

drop_more : (a b : ℕ) (l k : List ℕ) → a ≤ b → drop a l ≡ drop a k → drop b l ≡ drop b k
drop_more a b l k h e =
    let q : a + (b - a) ≡ b = omega arith in
    ap (λ (n : ℕ). drop n l) (sym q) ∙ sym (drop-drop (b - a) a l) ∙ ap (drop (b - a)) e ∙ drop-drop (b - a) a k ∙ ap (λ (n : ℕ). drop n k) q

-- steps that led from s to m: the words that stood past those of m stand there still
pub record Reached (s m : State) : Type 0 where
  pub numbered : Numbered m
  pub long : length m.out ≡ length s.out
  pub past : drop (count m) m.out ≡ drop (count m) s.out

pub reached_none : {s : State} → Numbered s → Reached s s
reached_none h = record { numbered = h; long = refl; past = refl }

pub placing-reached : {s e : State} {p : Placed} {r : ℕ} → Placing s e p r → 0 < r → Reached s e
placing-reached h g = record { numbered = h.numbered; long = h.long; past = h.past (placing-fits h g) }

-- a further step goes on from what they made
module _ {s m e : State} (q : Placed) {r : ℕ} (h : Reached s m) (k : Placing m e q r) (w : Grows (written m) q.table) where
  same : fits_in q.table m ≡ fits_in q.table s
  same = ap (fits (length q.table)) h.long

  past : fits_in q.table m ≡ true → drop (count e) e.out ≡ drop (count e) s.out
  past f =
      k.past f
      ∙ drop_more (count m) (count e) m.out s.out
      (omega (arith, grows-length w, written-length h.numbered, written-length k.numbered, ap length (k.table f)))
      h.past

  pub placing_on : Placing s e q r
  placing_on = record {
    numbered = k.numbered;
    long = k.long ∙ h.long;
    within = k.within;
    answer = λ f. k.answer (same ∙ f);
    table = λ f. k.table (same ∙ f);
    past = λ f. past (same ∙ f);
    full = λ f. k.full (same ∙ f);
  }

  pub reached_on : 0 < r → Reached s e
  reached_on g = record { numbered = k.numbered; long = k.long ∙ h.long; past = past (placing-fits k g) }

-- once a formula's words are placed, it is held at the answer, and so is all that was held before
pub build-positive : (t : List ℕ) (φ : Formula) → 0 < (build t φ).number
build-positive t φ = (held_within (build t φ).table φ (build t φ).number (build_held t φ)).0

pub placing_held : {s e : State} (φ : Formula) {r : ℕ} → Placing s e (build (written s) φ) r → 0 < r → Held (written e) φ r
placing_held {s} φ h g = rw (placing-written h g, placing-answer h g) (build_held (written s) φ)

pub placing-grows : {s e : State} (φ : Formula) {r : ℕ} → Placing s e (build (written s) φ) r → 0 < r → Grows (written s) (written e)
placing-grows {s} φ h g = rw (placing-written h g) (build-grows (written s) φ)

-- a formula that is held already needs no words
pub placing_again : {s : State} (φ : Formula) (n : ℕ) → Numbered s → Held (written s) φ n → Placing s s (build (written s) φ) n
placing_again {s} φ n h k =
    rw (held_build (written s) φ n h.distinct k)
    (record {
      numbered = h;
      long = refl;
      within = omega (arith, (held_within (written s) φ n k).1, written-length h);
      answer = λ e. refl;
      table = λ e. refl;
      past = λ e. refl;
      full = λ e. absurd (true≢false (sym (fits-true _ _ (rw (written-length h) h.within)) ∙ e));
    })

-- the whole: a table that is built from no words stands at the front of the slice, and what was past it stands there still
module _ {s e : State} (φ : Formula) {r : ℕ} (h : Placing s e (build (written s) φ) r) (z : count s ≡ 0) where
  pub placing_whole : Placing s e (build [] φ) r
  placing_whole = subst (λ (n : ℕ). Placing s e (build (take n s.out) φ) r) z h

  pub whole_count : fits (length (table_of φ)) (length s.out) ≡ true → count e ≡ length (table_of φ)
  unfolding table_of
  whole_count f = sym (written-length h.numbered) ∙ ap length (placing_whole.table f)

  pub whole_out : fits (length (table_of φ)) (length s.out) ≡ true → e.out ≡ table_of φ ++ drop (length (table_of φ)) s.out
  unfolding table_of
  whole_out f = sym (take-append-drop (count e) e.out) ∙ ap₂ (λ (a b : List ℕ). a ++ b) (placing_whole.table f) (placing_whole.past f ∙ ap (λ (n : ℕ). drop n s.out) (whole_count f))
