-- Numbering a draft by a stack of slots: the slots fall from the root to what is needed next, each has no number yet, and what is left to do
-- ends in the table of the whole. What stays so when a slot is pushed, and when one is placed and popped.
use Prim.Native.Nat.{ℕ, ◌+◌, ◌-◌, ◌^◌, ◌≤◌, ◌<◌}
use native.Mathlib.Nat.{eq-or-lt_of_le}
use native.Mathlib.Omega.{arith}
use mathlib.Core.Path.{◌≡◌, refl, sym, ◌∙◌, subst}
use mathlib.Core.Logic.{◌⊎◌, inl, inr, ⊎_elim}
use mathlib.Core.List.{List}
use lib.ListN.{length, get_or, set}
use lib.Seq.{get_or-set_same, get_or-set_other}
use Rattle.logic.specs.Formula.{Formula}
use Rattle.table.specs.Numbering.{put, build}
use Rattle.numbering.proofs.Building.{put-grows, build-grows}
use Rattle.drafts.specs.Drafted.{Drafted}
use Rattle.slots.specs.Slot.{kind, left, right}
use Rattle.slot_turns.specs.Turn.{turn_of, Turnable}
use Rattle.placing.specs.State.{State, written, Numbered, Placing, Putting}
use Rattle.draft_numbering.specs.Numberable.{Remembered, Numberable, Rooted}
use Rattle.slot_turns.specs.declared.Turn.{Turn}
use Rattle.slot_turns.specs.declared.Turn.TheVariants.{Operand, Word}
use Rattle.drafts.proofs.Drafts.{drafted_within}
use Rattle.draft_numbering.proofs.Next.{Next, here, next_then, next_grows, build_next}
use Rattle.placing.proofs.Placing.{Reached, reached_none, reached_on, placing_on, placing-full, placing-written, placing_held, build-positive}
use Rattle.placing.proofs.Putting.{written-length}
use Rattle.draft_numbering.proofs.Remembering.{remembered-grows, remembered-set}
use Rattle.draft_numbering.proofs.Steps.{Stepped, turn-stepped, slot_turnable}

-- slot i stands at height h of the stack, and φ is the formula of the root
pub record Entry (d : List ℕ) (root : ℕ) (φ : Formula) (t numbers : List ℕ) (h i : ℕ) : Type 0 where
  pub formula : Formula
  pub drafted : Drafted d formula i
  pub next : Next t φ formula
  pub none : get_or numbers i 0 ≡ 0
  pub low : i + h ≤ root

pub record Going (d : List ℕ) (root : ℕ) (s e : State) (numbers stack : List ℕ) (height : ℕ) : Type 0 where
  pub some : 0 < height
  pub reached : Reached s e
  pub kept : Remembered d numbers (written e)
  pub bottom : get_or stack 0 0 ≡ root
  pub falls : (g h : ℕ) → g < h → h < height → get_or stack h 0 < get_or stack g 0
  pub entry : (φ : Formula) → Drafted d φ root → (h : ℕ) → h < height → Entry d root φ (written e) numbers h (get_or stack h 0)
  pub same : (φ : Formula) → Drafted d φ root → build (written e) φ ≡ build (written s) φ

pub root_within : {d : List ℕ} {root : ℕ} {numbers stack built : List ℕ} → Numberable d root numbers stack built → root < length d
root_within {d} {root} h = drafted_within d h.formula root h.drafted

-- the root alone
pub going_start : {d : List ℕ} {root : ℕ} {s : State} {numbers : List ℕ} (stack : List ℕ) → Numbered s → Remembered d numbers (written s)
    → 0 < length stack → get_or numbers root 0 ≡ 0 → Going d root s s numbers (set stack 0 root) 1
going_start {d} {root} {s} {numbers} stack h k l z = record {
  some = omega arith;
  reached = reached_none h;
  kept = k;
  bottom = first;
  falls = λ g i a b. absurd (omega arith);
  entry = λ φ f i a. let e : i ≡ 0 = omega arith in rw (e, first) (record { formula = φ; drafted = f; next = here; none = z; low = omega arith });
  same = λ φ f. refl;
}
  where
    first : get_or (set stack 0 root) 0 0 ≡ root
    first = get_or-set_same stack 0 root 0 l

module _ {d : List ℕ} {root : ℕ} {s e : State} {numbers stack : List ℕ} {height : ℕ} (few : length d ≤ 2 ^ 20) (g : Going d root s e numbers stack height) where
  abbrev top : ℕ
  top = get_or stack (height - 1) 0

  -- the fields of the top are what its kind has, and its turn is what its formula needs next
  pub going-low : (φ : Formula) → Drafted d φ root → top + height ≤ root + 1
  going-low φ f = omega (arith, g.some, (g.entry φ f (height - 1) (omega (arith, g.some))).low)

  pub going_none : (φ : Formula) → Drafted d φ root → get_or numbers top 0 ≡ 0
  going_none φ f = (g.entry φ f (height - 1) (omega (arith, g.some))).none

  pub going_turnable : (φ : Formula) → Drafted d φ root → length d ≤ length numbers → Turnable (kind (get_or d top 0)) (left (get_or d top 0)) (right (get_or d top 0)) numbers
  going_turnable φ f long =
      let t = g.entry φ f (height - 1) (omega (arith, g.some)) in
      let n = g.reached.numbered in
      slot_turnable d numbers (written e) few g.kept n.distinct (omega (arith, written-length n, n.within)) long t.formula top t.drafted

  stepped : {u : Turn} → turn_of (get_or d top 0) numbers ≡ u → (φ : Formula) → Drafted d φ top → Stepped d numbers (written e) φ top u
  stepped q φ f = subst (Stepped d numbers (written e) φ top) q (turn-stepped d numbers (written e) few g.kept g.reached.numbered.distinct φ top f)

  pub going-earlier : (φ : Formula) → Drafted d φ root → (j : ℕ) → turn_of (get_or d top 0) numbers ≡ Operand j → j < top
  going-earlier φ f j q = let t = g.entry φ f (height - 1) (omega (arith, g.some)) in (stepped q t.formula t.drafted).earlier

  -- an operand of the top is needed first
  pub going_push : (φ : Formula) → Drafted d φ root → (j : ℕ) → height < length stack → turn_of (get_or d top 0) numbers ≡ Operand j
      → Going d root s e numbers (set stack height j) (height + 1)
  going_push ψ r j l turned = record {
    some = omega arith;
    reached = g.reached;
    kept = g.kept;
    bottom = old 0 (omega arith) ∙ g.bottom;
    falls = λ a b p q. falls a b p (split b q);
    entry = λ φ f h q. entry φ f h (split h q);
    same = g.same;
  }
    where
      next_stack : List ℕ
      next_stack = set stack height j

      old : (h : ℕ) → h < height → get_or next_stack h 0 ≡ get_or stack h 0
      old h q = get_or-set_other stack height h j 0 (omega arith)

      new : get_or next_stack height 0 ≡ j
      new = get_or-set_same stack height j 0 l

      split : (h : ℕ) → h < height + 1 → (h ≡ height) ⊎ (h < height)
      split h q = eq-or-lt_of_le (omega arith)

      entry : (φ : Formula) → Drafted d φ root → (h : ℕ) → (h ≡ height) ⊎ (h < height) → Entry d root φ (written e) numbers h (get_or next_stack h 0)
      entry φ f h (inr q) = rw (old h q) (g.entry φ f h q)
      entry φ f h (inl q) =
          let t = g.entry φ f (height - 1) (omega arith) in
          let n = stepped turned t.formula t.drafted in
          rw (q, new) (record {
            formula = n.formula;
            drafted = n.drafted;
            next = next_then t.next n.next;
            none = n.none;
            low = omega (arith, n.earlier, t.low);
          })

      falls : (a b : ℕ) → a < b → (b ≡ height) ⊎ (b < height) → get_or next_stack b 0 < get_or next_stack a 0
      falls a b p (inr q) = rw (old b q, old a (omega arith)) (g.falls a b p q)
      falls a b p (inl q) = rw (q, new, old a (omega arith)) (⊎_elim (λ c. rw c (going-earlier ψ r j turned)) (λ c. omega (arith, going-earlier ψ r j turned, g.falls a (height - 1) c (omega arith))) (last a (omega arith)))
        where
          last : (a : ℕ) → a ≤ height - 1 → (a ≡ height - 1) ⊎ (a < height - 1)
          last a h = eq-or-lt_of_le h

  -- the word of the top is placed
  module _ {f : State} (w : ℕ) {n : ℕ} (within : top < length numbers) (turned : turn_of (get_or d top 0) numbers ≡ Word w) (p : Putting e f (put (written e) w) n) where
    word : (φ : Formula) → Drafted d φ top → build (written e) φ ≡ put (written e) w
    word = stepped turned

    placing : (φ : Formula) → Drafted d φ top → Placing e f (build (written e) φ) n
    placing φ h = rw (word φ h) p.placed

    -- the formula of the root is what is left to do
    rest : (φ : Formula) (h : Drafted d φ root) → build (put (written e) w).table φ ≡ build (written e) φ
    rest φ h =
        let t = g.entry φ h (height - 1) (omega arith) in
        rw (← word t.formula t.drafted) (build_next (written e) g.reached.numbered.distinct t.next)

    kept : 0 < n → Remembered d (set numbers top n) (written f)
    kept l =
        remembered-set top n within (λ φ h. placing_held φ (placing φ h) l)
        (remembered-grows (rw (placing-written p.placed l) (put-grows (written e) w)) g.kept)

    pub going-full : (numbers : List ℕ) → n ≡ 0 → Rooted d root s f numbers 0
    going-full numbers z = record {
      placed = λ φ h. rw (← g.same φ h) (placing_on (build (written e) φ) g.reached (unplaced φ h) (build-grows (written e) φ));
      remembered = λ l. absurd (omega arith);
    }
      where
        unplaced : (φ : Formula) → Drafted d φ root → Placing e f (build (written e) φ) 0
        unplaced φ h =
            let t = g.entry φ h (height - 1) (omega arith) in
            placing-full (build (written e) φ) (placing t.formula t.drafted) z (build-positive (written e) t.formula)
            (rw (word t.formula t.drafted, ← rest φ h) (build-grows (put (written e) w).table φ))

    -- it was the root's
    pub going_done : 0 < n → height ≡ 1 → Rooted d root s f (set numbers top n) n
    going_done l z = record {
      placed = λ φ h.
          rw (← g.same φ h)
          (placing_on (build (written e) φ) g.reached (placing φ (subst (Drafted d φ) (sym (rw z g.bottom)) h)) (build-grows (written e) φ));
      remembered = λ a. kept l;
    }

    -- it was above the root
    pub going_pop : 0 < n → 1 < height → Going d root s f (set numbers top n) stack (height - 1)
    going_pop l two = record {
      some = omega arith;
      reached = reached_on (put (written e) w) g.reached p.placed (put-grows (written e) w) l;
      kept = kept l;
      bottom = g.bottom;
      falls = λ a b q r. g.falls a b q (omega arith);
      entry = λ φ h i q. let t = g.entry φ h i (omega arith) in record {
        formula = t.formula;
        drafted = t.drafted;
        next = next_grows (rw (placing-written p.placed l) (put-grows (written e) w)) t.next;
        none = get_or-set_other numbers top (get_or stack i 0) n 0 (omega (arith, g.falls i (height - 1) q (omega arith))) ∙ t.none;
        low = t.low;
      };
      same = λ φ h. rw (placing-written p.placed l) (rest φ h ∙ g.same φ h);
    }
