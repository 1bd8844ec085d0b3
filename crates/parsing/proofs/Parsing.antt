-- A text read byte by byte: how it stands after i bytes, where it ends, and where it departs from the grammar.
use Prim.Native.Nat.{ℕ, suc, ◌+◌, ◌≤◌, ◌<◌}
use native.Mathlib.Omega.{arith}
use native.Mathlib.Numerals.{add-one}
use mathlib.Core.Path.{◌≡◌, refl, sym, ap, ◌∙◌}
use mathlib.Core.Bool.{true, false, true≢false}
use mathlib.Core.List.{List, [], ◌∷◌}
use mathlib.Core.Option.{Option, none, some}
use lib.ListN.{length, get_or, drop}
use lib.Seq.{drop-cons, drop-length}
use borrow.Author.Tests.{ne_eqb}
use Rattle.logic.specs.Formula.{Formula}
use Rattle.table.specs.Numbering.{table_of}
use Rattle.placing.specs.State as draft
use Rattle.placing.proofs.Putting.{written-length}
use Rattle.turns.specs.declared.Turn.TheVariants as turns
use Rattle.turns.specs.declared.Reader.{Reader}
use Rattle.grammar.specs.Reader.{waiting, bracket, joined, Config, operand, ended, stuck, State, inside, lettered, alive, of_letter, mark_of, step, run, start, accepted, final, reading_of, departure_from, departure_of}
use Rattle.settling.specs.Settled.{Room}
use Rattle.turns.specs.Numbers.{Words, words, step_words, viewed, size, is_stuck, is_ended}
use Rattle.parsing.specs.Parsed.{Fresh, Parsed}
use Rattle.grammar.proofs.Complete.{dead_none}
use Rattle.settling.proofs.Settling.{top-length}
use Rattle.turns.proofs.Sizes.{step_size}
use Rattle.parsing.proofs.Imaging.{ConfigImage, Image, step_image}

-- after i bytes: a state of the reader, whose image the code holds, that still leads to what the text is
pub record Going (text : List ℕ) (i : ℕ) (y : Words) : Type 0 where
  pub at : State
  pub image : Image at y
  pub lives : alive at ≡ true
  pub few : size y ≤ i
  pub place : departure_of text ≡ departure_from i at (drop i text)
  pub reads : reading_of text ≡ final (run at (drop i text))

pub going_start : (text : List ℕ) → Going text 0 (words 0 turns.Operand [] [])
unfolding departure_of reading_of
going_start text = record { at = start; image = ((refl, omega arith), tt); lives = refl; few = omega arith; place = refl; reads = refl }

-- a state whose image is stuck is dead, and no other
dead_stuck : (x : State) (y : Words) → Image x y → is_stuck y.turn ≡ true → alive x ≡ false
dead_stuck (inside left (operand s)) y i e = absurd (true≢false (sym e ∙ ap (λ (v : Words). is_stuck v.turn) i.0.0))
dead_stuck (inside left (ended φ s)) y i e = absurd (true≢false (sym e ∙ ap (λ (v : Words). is_stuck v.turn) i.0.0))
dead_stuck (inside left stuck) y i e = refl
dead_stuck (lettered n s) y i e = absurd (true≢false (sym e ∙ ap (λ (v : Words). is_stuck v.turn) i.0))

alive-going : (x : State) (y : Words) → Image x y → is_stuck y.turn ≡ false → alive x ≡ true
alive-going (inside left (operand s)) y i e = refl
alive-going (inside left (ended φ s)) y i e = refl
alive-going (inside left stuck) y i e = absurd (true≢false (sym (ap is_stuck i.0) ∙ e))
alive-going (lettered n s) y i e = refl

-- the place, by whether a byte leaves the reader alive
module _ (n : ℕ) (x : State) (b : ℕ) (bs : List ℕ) where
  departure_later : alive (step x b) ≡ true → departure_from n x (b ∷ bs) ≡ departure_from (suc n) (step x b) bs
  unfolding departure_from
  departure_later e = rw e

  departure_here : alive (step x b) ≡ false → departure_from n x (b ∷ bs) ≡ suc n
  unfolding departure_from
  departure_here e = rw e

-- one byte more
module _ (text : List ℕ) (i : ℕ) (y z : Words) (g : Going text i y) (h : i < length text) (k : length text ≤ 1024) (e : z ≡ step_words y (get_or text i 0)) where
  stepped : Image (step g.at (get_or text i 0)) z
  stepped = rw e (step_image g.at y (get_or text i 0) g.lives (omega (arith, g.few)) g.image)

  pub going_more : is_stuck z.turn ≡ false → Going text (i + 1) z
  unfolding run
  going_more f =
      let b = get_or text i 0 in
      let l = alive-going (step g.at b) z stepped f in
      let d = drop-cons text i 0 h in
      rw add-one
      (record {
        at = step g.at b;
        image = stepped;
        lives = l;
        few = omega (arith, g.few, step_size y b, ap size e);
        place = g.place ∙ ap (departure_from i g.at) d ∙ departure_later i g.at b (drop (suc i) text) l;
        reads = g.reads ∙ ap (λ (bs : List ℕ). final (run g.at bs)) d;
      })

  pub going-dead : is_stuck z.turn ≡ true → (reading_of text ≡ none) × (i + 1 ≡ departure_of text)
  unfolding run
  going-dead f =
      let b = get_or text i 0 in
      let l = dead_stuck (step g.at b) z stepped f in
      let d = drop-cons text i 0 h in (
        g.reads ∙ ap (λ (bs : List ℕ). final (run g.at bs)) d ∙ dead_none (step g.at b) (drop (suc i) text) l,
        add-one i ∙ sym (g.place ∙ ap (departure_from i g.at) d ∙ departure_here i g.at b (drop (suc i) text) l),
      )

-- the end is read as a space
abbrev Ends : Option Formula → Words → Type 0
Ends none z = is_ended z.turn ≡ true → length z.stack ≡ 0 → ⊥
Ends (some φ) z = (is_ended z.turn ≡ true) × (length z.stack ≡ 0) × (z.table ≡ table_of φ)

ends_config : (c : Config) (z : Words) → ConfigImage 0 c z → Ends (accepted c) z
unfolding table_of
ends_config (operand s) z i = λ e l. true≢false (sym e ∙ ap (λ (v : Words). is_ended v.turn) i.0)
ends_config (ended φ []) z i = (ap (λ (v : Words). is_ended v.turn) i.0, ap (λ (v : Words). length v.stack) i.0, ap (λ (v : Words). v.table) i.0)
ends_config (ended φ (waiting o ∷ s)) z i = λ e l. omega (arith, ap (λ (v : Words). length v.stack) i.0)
ends_config (ended φ (bracket ∷ s)) z i = λ e l. omega (arith, ap (λ (v : Words). length v.stack) i.0)
ends_config (ended φ (joined o a ∷ s)) z i = λ e l. omega (arith, ap (λ (v : Words). length v.stack) i.0)
ends_config stuck z i = λ e l. true≢false (sym e ∙ ap is_ended i)

ends-state : (x : State) (y z : Words) → Image x y → Image (step x 32) z → Ends (final x) z
unfolding step mark_of
ends-state (inside [] c) y z i j = ends_config c z j.0
ends-state (inside (b ∷ bs) c) y z i j = ends_config stuck z (rw (ne_eqb 32 b (λ e. omega (arith, i.1.0))) at j).0
ends-state (lettered n s) y z i j = ends_config (of_letter n s) z j.0

-- what was read at the end
module _ (text : List ℕ) (i : ℕ) (y z : Words) (g : Going text i y) (h : length text ≤ i) (l : i ≤ length text) (k : length text ≤ 1024) (e : z ≡ step_words y 32) where
  same : i ≡ length text
  same = omega arith

  none_left : drop i text ≡ []
  none_left = rw same (drop-length text)

  ends : Ends (reading_of text) z
  unfolding run
  ends =
      let r = g.reads ∙ ap (λ (bs : List ℕ). final (run g.at bs)) none_left in
      rw r (ends-state g.at y z g.image (rw e (step_image g.at y 32 g.lives (omega (arith, g.few)) g.image)))

  by_reading : (o : Option Formula) → reading_of text ≡ o → Ends o z → is_ended z.turn ≡ true → length z.stack ≡ 0 → (φ : Formula) × (reading_of text ≡ some φ) × (z.table ≡ table_of φ)
  by_reading none r q a b = absurd (q a b)
  by_reading (some φ) r q a b = (φ, r, q.2)

  pub going-read : is_ended z.turn ≡ true → length z.stack ≡ 0 → (φ : Formula) × (reading_of text ≡ some φ) × (z.table ≡ table_of φ)
  going-read a b = by_reading (reading_of text) refl ends a b

  early : (o : Option Formula) → Ends o z → (is_ended z.turn ≡ true → length z.stack ≡ 0 → ⊥) → o ≡ none
  early none q f = refl
  early (some φ) q f = absurd (f q.0 q.1)

  pub going-early : (is_ended z.turn ≡ true → length z.stack ≡ 0 → ⊥) → (reading_of text ≡ none) × (i + 1 ≡ departure_of text)
  unfolding departure_from
  going-early f = (early (reading_of text) ends f, add-one i ∙ sym (g.place ∙ ap (departure_from i g.at) none_left))

-- room for the next byte, and what a view holds
pub going_room : (text : List ℕ) (i : ℕ) (r : Reader) (stack : List ℕ) (s : draft.State) → draft.Numbered s → length stack ≡ 1025 → length s.out ≡ 1025
    → Going text i (viewed r stack s) → i ≤ 1024 → Room stack s r.depth 1
going_room text i r stack s n l w g h = record { numbered = n; long = l; wide = w; room = omega (arith, g.few, top-length stack r.depth, written-length n) }

pub fresh-going : (text stack : List ℕ) (s : draft.State) → Fresh text stack s → Going text 0 (viewed (record { left = 0; turn = turns.Operand; depth = 0 }) stack s)
fresh-going text stack s f = rw f.empty (going_start text)

-- what the code answers, at a byte, past the last, and where it has read a rule
pub departed : (text : List ℕ) (i : ℕ) (s : draft.State) → draft.Numbered s → (reading_of text ≡ none) × (i + 1 ≡ departure_of text) → Parsed text s (i + 1)
departed text i s n d = record { numbered = n; departs = λ h. d; reads = λ e. absurd (omega arith) }

pub was_read : (text : List ℕ) (s : draft.State) → draft.Numbered s → (φ : Formula) × (reading_of text ≡ some φ) × (draft.written s ≡ table_of φ) → Parsed text s 0
was_read text s n d = record { numbered = n; departs = λ h. absurd (omega arith); reads = λ e. d }
