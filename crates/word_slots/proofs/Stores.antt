-- Slots written one after the other: the two of a word that ask whether it is chosen, and the three after them.
use Prim.Native.Nat.{ℕ, ◌+◌, ◌*◌, ◌<◌}
use native.Mathlib.Omega.{arith}
use mathlib.Core.Path.{◌≡◌, ◌∙◌}
use mathlib.Core.Bool.{Bool, false}
use mathlib.Core.List.{List}
use lib.ListN.{length, get_or, set, length-set}
use lib.Seq.{get_or-set_same, get_or-set_other}
use Rattle.table.specs.Node.{left, right}
use Rattle.form_places.specs.declared.Rewriting.TheVariants.{Steady, Recurring, Opening}
use Rattle.form_places.specs.Places.{place}
use Rattle.rewriting.specs.Slots.{AlwaysSlot, EitherSlot, OpeningSlot}
use Rattle.chosen_forms.specs.Rewritten.{Rewritten}
use Rattle.word_slots.specs.WordSlots.{WordChosen, WordFilled}

abbrev pub two : List ℕ → ℕ → ℕ → ℕ → List ℕ
two d b v w = set (set d b v) (b + 1) w

module _ (d : List ℕ) (b v w : ℕ) where
  pub two_others : (i : ℕ) → (i ≡ b → ⊥) → (i ≡ b + 1 → ⊥) → get_or (two d b v w) i 0 ≡ get_or d i 0
  two_others i f g = get_or-set_other (set d b v) (b + 1) i w 0 g ∙ get_or-set_other d b i v 0 f

  module _ (h : b + 1 < length d) where
    pub two_0 : get_or (two d b v w) b 0 ≡ v
    two_0 = get_or-set_other (set d b v) (b + 1) b w 0 (omega arith) ∙ get_or-set_same d b v 0 (omega arith)

    pub two_1 : get_or (two d b v w) (b + 1) 0 ≡ w
    two_1 = get_or-set_same (set d b v) (b + 1) w 0 (simp length-set (omega arith))

module _ (w j : ℕ) {chosen : Bool} (d : List ℕ) (h : place Opening j < length d) where
  pub word-chosen : {s r : ℕ} → Rewritten Steady w chosen (place Steady (left w)) (place Steady (right w)) s
      → Rewritten Recurring w chosen (place Recurring (left w)) (place Recurring (right w)) r → WordChosen w j chosen d (two d (5 * j) s r)
  word-chosen {s} {r} hs hr = record {
    long = simp length-set;
    others = two_others d (5 * j) s r;
    steady_slot = rw (two_0 d (5 * j) s r (omega arith)) hs;
    recurring_slot = rw (two_1 d (5 * j) s r (omega arith)) hr;
  }

abbrev rest : List ℕ → ℕ → ℕ → ℕ → ℕ → List ℕ
rest d b x y z = set (set (set d (b + 2) x) (b + 3) y) (b + 4) z

module _ (d : List ℕ) (b x y z : ℕ) (h : b + 4 < length d) where
  rest_before : (i : ℕ) → i < b + 2 → get_or (rest d b x y z) i 0 ≡ get_or d i 0
  rest_before i l =
      get_or-set_other (set (set d (b + 2) x) (b + 3) y) (b + 4) i z 0 (omega arith)
      ∙ get_or-set_other (set d (b + 2) x) (b + 3) i y 0 (omega arith)
      ∙ get_or-set_other d (b + 2) i x 0 (omega arith)

  rest_2 : get_or (rest d b x y z) (b + 2) 0 ≡ x
  rest_2 =
      get_or-set_other (set (set d (b + 2) x) (b + 3) y) (b + 4) (b + 2) z 0 (omega arith)
      ∙ get_or-set_other (set d (b + 2) x) (b + 3) (b + 2) y 0 (omega arith)
      ∙ get_or-set_same d (b + 2) x 0 (omega arith)

  rest_3 : get_or (rest d b x y z) (b + 3) 0 ≡ y
  rest_3 =
      get_or-set_other (set (set d (b + 2) x) (b + 3) y) (b + 4) (b + 3) z 0 (omega arith)
      ∙ get_or-set_same (set d (b + 2) x) (b + 3) y 0 (simp length-set (omega arith))

  rest_4 : get_or (rest d b x y z) (b + 4) 0 ≡ z
  rest_4 = get_or-set_same (set (set d (b + 2) x) (b + 3) y) (b + 4) z 0 (simp length-set (omega arith))

pub word-filled : {w j : ℕ} {d : List ℕ} (e : List ℕ) {a o p : ℕ} → place Opening j < length d → WordChosen w j false d e
    → AlwaysSlot w a → EitherSlot w (5 * j + 2) o → OpeningSlot w (5 * j + 3) p → WordFilled w j d (rest e (5 * j) a o p)
word-filled {w} {j} {d} e {a} {o} {p} h c ha ho hp =
    let l : 5 * j + 4 < length e = omega (arith, c.long) in record {
      long = simp length-set c.long;
      before = λ i b. rest_before e (5 * j) a o p l i (omega arith) ∙ c.others i (omega arith) (omega arith);
      slots = record {
        steady_slot = rw (rest_before e (5 * j) a o p l (5 * j) (omega arith)) c.steady_slot;
        recurring_slot = rw (rest_before e (5 * j) a o p l (5 * j + 1) (omega arith)) c.recurring_slot;
        always_slot = rw (rest_2 e (5 * j) a o p l) ha;
        either_slot = rw (rest_3 e (5 * j) a o p l) ho;
        opening_slot = rw (rest_4 e (5 * j) a o p l) hp;
      };
    }
