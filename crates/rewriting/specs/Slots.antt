-- The rewritings of a word, the slot of a formula, and what the opening form of a word puts into its slots.
use Rattle.std.specs.Prelude.{ℕ, ◌<◌, ◌≡◌, Bool, cond}
use Rattle.logic.specs.Formula.{Formula, Binary, const, lit, un, bin, conj, disj, until, weak, release, strong, implies}
use Rattle.transforms.specs.Rewriting.{steady, recurring, opening}
use Rattle.table.specs.Node.{Shape, none, constant, letter, unary, binary, kind, left, right, shape, unary_kind, binary_kind}
use Rattle.table.specs.Table.{formula_by}
use Rattle.slots.specs.Slot.{pack}
use Rattle.form_places.specs.declared.Rewriting.{Rewriting}
use Rattle.form_places.specs.declared.Rewriting.TheVariants.{Steady, Recurring, Opening}
use Rattle.form_places.specs.Places.{place, globally_slot, Narrow}

-- a rewriting by the sets M and N
abbrev pub by : Rewriting → (Formula → Bool) → (Formula → Bool) → Formula → Formula
by Steady M N φ = steady M φ
by Recurring M N φ = recurring N φ
by Opening M N φ = opening M φ

-- a plain word
pub record Plain (w : ℕ) : Type 0 where
  pub kinded : 0 < kind w
  pub plain : kind w < 12
  pub narrow : Narrow w

-- a word's formula, given those of its operands
abbrev pub word_by : ℕ → Formula → Formula → Formula
word_by w a b = formula_by (shape (kind w)) (right w) a b

-- the slot of a formula's operator, over operands at the slots l and r
abbrev pub slot_by : Formula → ℕ → ℕ → ℕ
slot_by (const b) l r = pack (cond b 2 1) 0 0
slot_by (lit b p) l r = pack (cond b 3 4) 0 p
slot_by (un o a) l r = pack (unary_kind o) 0 r
slot_by (bin o a b) l r = pack (binary_kind o) l r

-- x is the slot of the operator of w, over operands at the slots l and r
pub record KeptSlot (w l r x : ℕ) : Type 0 where
  pub is : (a b : Formula) → x ≡ slot_by (word_by w a b) l r

-- the operands of an opening form: for R the left one, and for W the right one, is an or with a G
abbrev pub left_by : Binary → ℕ → ℕ → ℕ
left_by conj e l = place Opening l
left_by disj e l = place Opening l
left_by until e l = place Opening l
left_by weak e l = place Opening l
left_by release e l = e
left_by strong e l = place Opening l
left_by implies e l = place Opening l

abbrev pub right_by : Binary → ℕ → ℕ → ℕ
right_by conj e r = place Opening r
right_by disj e r = place Opening r
right_by until e r = place Opening r
right_by weak e r = e
right_by release e r = place Opening r
right_by strong e r = place Opening r
right_by implies e r = place Opening r

abbrev pub open_left : Shape → ℕ → ℕ → ℕ
open_left none e l = 0
open_left (constant b) e l = 0
open_left (letter b) e l = 0
open_left (unary o) e l = 0
open_left (binary o) e l = left_by o e l

abbrev pub open_right : Shape → ℕ → ℕ → ℕ
open_right none e r = 0
open_right (constant b) e r = 0
open_right (letter b) e r = 0
open_right (unary o) e r = place Opening r
open_right (binary o) e r = right_by o e r

pub record OpeningSlot (w e x : ℕ) : Type 0 where
  pub is : (M : Formula → Bool) (a b : Formula)
      → x ≡ slot_by (opening M (word_by w a b)) (open_left (shape (kind w)) e (left w)) (open_right (shape (kind w)) e (right w))

-- that G, and that or, the G being at slot g
pub record AlwaysSlot (w x : ℕ) : Type 0 where
  pub of_weak : shape (kind w) ≡ binary weak → x ≡ globally_slot (place Steady (left w))
  pub of_release : shape (kind w) ≡ binary release → x ≡ globally_slot (place Steady (right w))

pub record EitherSlot (w g x : ℕ) : Type 0 where
  pub of_weak : shape (kind w) ≡ binary weak → x ≡ pack (binary_kind disj) (place Opening (right w)) g
  pub of_release : shape (kind w) ≡ binary release → x ≡ pack (binary_kind disj) (place Opening (left w)) g
