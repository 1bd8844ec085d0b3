-- Marks of operands: none, and those of one more word.
use Prim.Native.Nat.{ℕ, suc, ◌/◌, ◌≤◌, ◌<◌}
use mathlib.Core.Path.{◌≡◌, refl, sym, ◌∙◌}
use mathlib.Core.Bool.{Bool, true, false, ◌||◌, or-false, or-true, or_assoc}
use mathlib.Core.List.{List, [], ◌∷◌, ◌++◌}
use native.Mathlib.Omega.{arith}
use lib.ListN.{length, get_or, set, replicate, length-set, length-replicate, get_or-replicate}
use lib.Seq.{get_or-set_same, get_or-set_other}
use lib.Dec.{eqb}
use borrow.Author.Tests.{eqb-true, eqb-false}
use Rattle.table.specs.Node.{Shape, none, constant, letter, unary, binary, kind, left, right, shape}
use Rattle.table.specs.Checks.{uses, used}
use Rattle.layouts.specs.declared.Layout.{Layout}
use Rattle.layouts.specs.declared.Layout.TheVariants.{Constant, Letter, Unary, Binary}
use Rattle.layouts.specs.Layout.{layout_of}
use Rattle.lookup.proofs.Laws.{indexed_none}
use Rattle.field_faults.specs.Marks.{marked_by}
use Rattle.fields.specs.Marks.{marked_with}
use Rattle.use_faults.specs.Marks.{Marked}
use Rattle.faults.specs.Marks.{Room, Kept}

used_snoc : (n : ℕ) (t : List ℕ) (w : ℕ) → used n (t ++ (w ∷ [])) ≡ (used n t || uses n w)
unfolding used
used_snoc n [] w = or-false (uses n w)
used_snoc n (v ∷ t) w = rw (used_snoc n t w) (sym (or_assoc (uses n v) (used n t) (uses n w)))

-- whether n is an operand, by the layout of the fields l and r
abbrev uses_by : Layout → ℕ → ℕ → ℕ → Bool
uses_by Constant l r n = false
uses_by Letter l r n = false
uses_by Unary l r n = eqb r n
uses_by Binary l r n = eqb l n || eqb r n

uses_by_layout : (n w : ℕ) → uses n w ≡ uses_by (layout_of (shape (kind w))) (left w) (right w) n
unfolding uses
uses_by_layout n w = go (shape (kind w)) refl
  where
    go : (s : Shape) → shape (kind w) ≡ s → uses n w ≡ uses_by (layout_of (shape (kind w))) (left w) (right w) n
    go none e = rw e
    go (constant b) e = rw e
    go (letter b) e = rw e
    go (unary o) e = rw e
    go (binary o) e = rw e

mark_set : (marks : List Bool) (a n : ℕ) → n < length marks → get_or (set marks a true) n false ≡ (get_or marks n false || eqb a n)
mark_set marks a n l = go (eqb a n) refl
  where
    go : (b : Bool) → eqb a n ≡ b → get_or (set marks a true) n false ≡ (get_or marks n false || b)
    go true e = rw (eqb-true a n e, or-true) (get_or-set_same marks n true false l)
    go false e = rw or-false (get_or-set_other marks a n true false (λ i. eqb-false a n e (sym i)))

marks_by_layout : (y : Layout) (l r : ℕ) (marks : List Bool) (n : ℕ) → n < length marks → get_or (marked_by y l r marks) n false ≡ (get_or marks n false || uses_by y l r n)
marks_by_layout Constant l r marks n h = sym (or-false _)
marks_by_layout Letter l r marks n h = sym (or-false _)
marks_by_layout Unary l r marks n h = mark_set marks r n h
marks_by_layout Binary l r marks n h =
    mark_set (set marks l true) r n (rw length-set h) ∙ rw (mark_set marks l n h) (or_assoc (get_or marks n false) (eqb l n) (eqb r n))

pub length_marks : (y : Layout) (l r : ℕ) (marks : List Bool) → length (marked_by y l r marks) ≡ length marks
length_marks Constant l r marks = refl
length_marks Letter l r marks = refl
length_marks Unary l r marks = length-set marks r true
length_marks Binary l r marks = simp length-set

marked_none : (n : ℕ) → Marked [] (replicate n false)
unfolding used
marked_none n = record { at = λ i l. get_or-replicate n i false false (omega (arith, length-replicate n false)) }

-- one word more
pub marked_more : {t : List ℕ} {marks : List Bool} (w : ℕ) → Marked t marks → Marked (t ++ (w ∷ [])) (marked_with w marks)
marked_more {t} {marks} w m =
    record {
      at =
          λ n h.
          let l : n < length marks = rw length_marks at h in
          marks_by_layout (layout_of (shape (kind w))) (left w) (right w) marks n l ∙ rw (used_snoc, uses_by_layout, m.at n l);
    }

-- an index and marks of zeros, for k words
pub room_for : (t : List ℕ) (k n m : ℕ) → length t ≤ k → suc k ≤ n / 2 → k ≤ m → Room t (replicate n 0) (replicate m false)
room_for t k n m p q r =
    let zero : ℕ = 0 in
    record { words = omega (arith, length-replicate n zero); numbers = omega (arith, length-replicate m false) }

-- room is a matter of lengths
pub room_kept : {t index index' : List ℕ} {marks marks' : List Bool} → Room t index marks → length index' ≡ length index → length marks' ≡ length marks → Room t index' marks'
room_kept r e f = record { words = rw e r.words; numbers = rw f r.numbers }

pub kept_none : (n m : ℕ) → 2 ≤ n → n ≤ 32768 → Kept [] (replicate n 0) (replicate m false)
kept_none n m p q = record { indexed = indexed_none n p q; marked = marked_none m }
