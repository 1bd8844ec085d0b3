-- How a word and its step stand in a draft once those of the words before it do, by the word's kind.
use Prim.Native.Nat.{ℕ, ◌+◌, ◌*◌, ◌<◌, ◌≤◌, ◌^◌}
use native.Mathlib.Nat.{eq-or-lt_of_le}
use native.Mathlib.Omega.{arith}
use mathlib.Core.Path.{◌≡◌, refl, sym, ap, ◌∙◌, subst}
use mathlib.Core.Logic.{◌⊎◌, inl, inr}
use mathlib.Core.Bool.{Bool, true, false, beq, cond}
use mathlib.Core.List.{List}
use lib.ListN.{length, set, length-set}
use lib.Dec.{eqb}
use Rattle.logic.specs.Formula.{Formula, Binary, un, bin, next, conj, disj, until, weak, release, strong}
use Rattle.logic.specs.Lasso.{letter_in}
use Rattle.logic.specs.Letters.{Letters}
use Rattle.transforms.specs.Folding.{fold}
use Rattle.transforms.specs.After.{after_binary, after}
use Rattle.logic.proofs.Numbers.{in_range}
use Rattle.table.specs.Node.{Shape, constant, letter, binary, shape, binary_kind, kind_of, right_field}
use Rattle.table.specs.Checks.{is_operand}
use Rattle.table.specs.Table.{formula_by}
use Rattle.table.proofs.Accepted.{accepted-well-formed}
use Rattle.table.proofs.Letters.{formula-letters}
use Rattle.table.proofs.Shapes.{shape-unary, shape-binary, shape-constant, shape-letter, kind_of-shape}
use Rattle.slots.specs.Slot.{pack}
use Rattle.drafts.specs.Drafted.{Drafted}
use Rattle.drafts.proofs.Drafts.{drafted-set}
use Rattle.folding.specs.Folded.{folded_slot}
use Rattle.folding.proofs.Folds.{drafted-copy, folded_constant, folded_letter, folded_unary, folded_binary}
use Rattle.source.specs.Source.{Earlier, WordAt}
use Rattle.source.proofs.Words.{plain-kind}
use Rattle.sample_letters.specs.Constant.{constant_at}
use Rattle.after_slots.specs.Slots.{stored, copied, leaf_slots, junction_slots, next_slots, fixpoint_slots}
use Rattle.after_draft.specs.Filling.{word_of, Room, Stepped, Filled, Next}

-- ---- the kinds

-- and, or: the operator, which the step keeps
pub record Junction (s : Shape) : Type 0 where
  pub operator : Binary
  pub is : s ≡ binary operator
  pub form : (a b w : Formula) → after_binary operator a b w ≡ bin operator a b

-- U, W, R, M: the operator, and those of its step
pub record Fixpoint (inner outer : Binary) (s : Shape) : Type 0 where
  pub operator : Binary
  pub is : s ≡ binary operator
  pub form : (a b w : Formula) → after_binary operator a b w ≡ bin outer b (bin inner a w)

constant_at_lem : (k : ℕ) → 1 ≤ k → k < 3 → (b : Bool) × (shape k ≡ constant b)
constant_at_lem k h l = in_range (λ n. (b : Bool) × (shape n ≡ constant b)) 1 1 k h (omega arith) ((false, shape-constant false), (true, shape-constant true))

letter_at : (k : ℕ) → 3 ≤ k → k < 5 → (b : Bool) × (shape k ≡ letter b)
letter_at k h l = in_range (λ n. (b : Bool) × (shape n ≡ letter b)) 3 1 k h (omega arith) ((true, shape-letter true), (false, shape-letter false))

junction_at : (k : ℕ) → 5 ≤ k → k < 7 → Junction (shape k)
junction_at k h l = in_range (λ n. Junction (shape n)) 5 1 k h (omega arith) (
  record { operator = conj; is = shape-binary conj; form = λ a b w. refl },
  record { operator = disj; is = shape-binary disj; form = λ a b w. refl },
)

pub until_at : (k : ℕ) → 8 ≤ k → k < 10 → Fixpoint conj disj (shape k)
until_at k h l = in_range (λ n. Fixpoint conj disj (shape n)) 8 1 k h (omega arith) (
  record { operator = until; is = shape-binary until; form = λ a b w. refl },
  record { operator = weak; is = shape-binary weak; form = λ a b w. refl },
)

pub release_at : (k : ℕ) → 10 ≤ k → k < 12 → Fixpoint disj conj (shape k)
release_at k h l = in_range (λ n. Fixpoint disj conj (shape n)) 10 1 k h (omega arith) (
  record { operator = release; is = shape-binary release; form = λ a b w. refl },
  record { operator = strong; is = shape-binary strong; form = λ a b w. refl },
)

-- ---- slots set at word j

module _ {v : ℕ} {t d : List ℕ} {j : ℕ} (q : Next v t d j) where
  -- the slots of the word are in the draft
  pub inside : 3 * j + 2 < length d
  inside = omega (arith, q.word.inside, q.room.slots)

  pub numbered : j < 16384
  numbered = omega (arith, q.word.inside, (accepted-well-formed true 16383 t q.room.accepted).few)

  -- the words before it still stand once a slot of its own is set
  kept : (k s : ℕ) → 3 * j ≤ k → k < length d → (i : ℕ) → 0 < i → i < j → Stepped v t (set d k s) i
  kept k s h l i p b =
      let w = q.before i p b in
      record {
        own = drafted-set d k s (fold (word_of t i)) (3 * i) l (omega arith) w.own;
        step = drafted-set d k s (fold (after v (word_of t i))) (3 * i + 2) l (omega arith) w.step;
      }

  next_set : (k s : ℕ) → 3 * j ≤ k → k < length d → Next v t (set d k s) j
  next_set k s h l = record {
    room = record {
      accepted = q.room.accepted;
      slots = omega (arith, q.room.slots, length-set d k s);
      few = omega (arith, q.room.few, length-set d k s);
    };
    word = q.word;
    before = kept k s h l;
  }

  -- the last of them, that of its step
  step_set : (s : ℕ) → Drafted d (fold (word_of t j)) (3 * j) → Drafted (set d (3 * j + 2) s) (fold (after v (word_of t j))) (3 * j + 2)
      → Filled v t (set d (3 * j + 2) s) j
  step_set s own step = record { word = λ i p h. go i p (eq-or-lt_of_le h) }
    where
      go : (i : ℕ) → 0 < i → (i ≡ j) ⊎ (i < j) → Stepped v t (set d (3 * j + 2) s) i
      go i p (inl e) = rw e (record { own = drafted-set d (3 * j + 2) s (fold (word_of t j)) (3 * j) inside (omega arith) own; step = step })
      go i p (inr b) = kept (3 * j + 2) s (omega arith) inside i p b

  pub narrow : 3 * j + 2 < 2 ^ 20
  narrow = omega (arith, inside, q.room.few)

-- its kind is a plain one
pub plain_at : {v : ℕ} {t d : List ℕ} {j k l r : ℕ} → Next v t d j → WordAt t j k l r → k < 12
plain_at {t = t} {j = j} q word = omega (arith, word.kinded, plain-kind 16383 t q.room.accepted j q.word.positive q.word.inside)

-- ---- the word, by its kind

module _ {v : ℕ} {t d : List ℕ} {j k l r : ℕ} (q : Next v t d j) (word : WordAt t j k l r) where
  -- the draft with the word's own slot
  abbrev owned : ℕ → List ℕ
  owned s = stored d (3 * j) s

  owned_next : (s : ℕ) → Next v t (owned s) j
  unfolding stored
  owned_next s = next_set q (3 * j) (folded_slot s d) (omega arith) (omega (arith, inside q))

  formula_by_lem : {s : Shape} → shape k ≡ s → word_of t j ≡ formula_by s r (word_of t l) (word_of t r)
  formula_by_lem e = word.formula ∙ ap (λ (s : Shape). formula_by s r (word_of t l) (word_of t r)) e

  kind_by : {s : Shape} → shape k ≡ s → k ≡ kind_of s
  kind_by e = sym (kind_of-shape k word.below) ∙ ap kind_of e

  constant_by : (b : Bool) → shape k ≡ constant b → Filled v t (leaf_slots d j k 0 k) j
  unfolding fold after stored
  constant_by b e =
      let form = formula_by_lem e in
      let kind : k ≡ cond b 2 1 = kind_by e in
      let p = owned_next (pack k 0 0) in
      step_set p _
      (rw (form, kind) (folded_constant d (3 * j) (omega (arith, inside q)) (omega (arith, narrow q)) b))
      (rw (form, kind) (folded_constant (owned (pack (cond b 2 1) 0 0)) (3 * j + 2) (rw kind at (inside p)) (omega (arith, narrow p)) b))

  pub constant-filled : 1 ≤ k → k < 3 → Filled v t (leaf_slots d j k 0 k) j
  constant-filled h m = let c = constant_at_lem k h m in constant_by c.0 c.1

  -- the letters of an accepted table are 1 to 32
  pub letter_range : 3 ≤ k → k < 5 → (1 ≤ r) × (r ≤ 32)
  letter_range h m =
      let f = accepted-well-formed true 16383 t q.room.accepted in
      subst (Letters (λ p. (1 ≤ p) × (p ≤ 32))) (formula_by_lem (letter_at k h m).1)
      (formula-letters (λ p. (1 ≤ p) × (p ≤ 32)) f (λ i l p. (f.word i l).letter p) j q.word.inside)

  letter_by : (b : Bool) → shape k ≡ letter b → {c : ℕ} → c ≡ constant_at v k r → Filled v t (leaf_slots d j k r c) j
  unfolding fold after stored
  letter_by b e {c} z =
      let form = formula_by_lem e in
      let kind : k ≡ cond b 3 4 = kind_by e in
      let p = owned_next (pack k 0 r) in
      let sign : eqb k 3 ≡ b = ap (λ (n : ℕ). eqb n 3) kind ∙ by_sign b in
      let is : c ≡ cond (beq b (letter_in v r)) 2 1 = z ∙ ap (λ (x : Bool). cond (beq x (letter_in v r)) 2 1) sign in
      step_set p _
      (rw (form, kind) (folded_letter d (3 * j) (omega (arith, inside q)) (omega (arith, narrow q)) b r word.right_fits))
      (rw (form, is) (folded_constant (owned (pack k 0 r)) (3 * j + 2) (inside p) (omega (arith, narrow p)) (beq b (letter_in v r))))
    where
      by_sign : (b : Bool) → eqb (cond b 3 4) 3 ≡ b
      by_sign true = refl
      by_sign false = refl

  pub letter-filled : {c : ℕ} → 3 ≤ k → k < 5 → c ≡ constant_at v k r → Filled v t (leaf_slots d j k r c) j
  letter-filled h m z = let b = letter_at k h m in letter_by b.0 b.1 z

  pub right_unary : k ≡ 7 → Earlier r j
  right_unary e = word.right_operand (ap (λ (n : ℕ). is_operand (right_field (shape n))) e ∙ rw (shape-unary next))

  pub next_filled : k ≡ 7 → Filled v t (next_slots d j r) j
  unfolding fold after stored copied
  next_filled e =
      let m = right_unary e in
      let before = q.before r m.positive m.below in
      let form : word_of t j ≡ un next (word_of t r) = formula_by_lem (ap shape e ∙ shape-unary next) in
      let p = owned_next (pack 7 0 (3 * r)) in
      step_set p _
      (rw form (folded_unary d (3 * j) (omega (arith, inside q)) (omega (arith, narrow q)) next (fold (word_of t r)) (3 * r) (omega (arith, m.below)) before.own))
      (rw form (drafted-copy (owned (pack 7 0 (3 * r))) (3 * j + 2) (inside p) (fold (word_of t r)) (3 * r) (omega (arith, m.below))
      (p.before r m.positive m.below).own))

  module _ (o : Binary) (e : shape k ≡ binary o) where
    pub left_binary : Earlier l j
    left_binary = word.left_operand (rw e)

    pub right_binary : Earlier r j
    right_binary = word.right_operand (rw e)

    own-binary : Drafted (owned (pack k (3 * l) (3 * r))) (fold (word_of t j)) (3 * j)
    unfolding fold stored
    own-binary =
        rw (formula_by_lem e, kind_by e)
        (folded_binary d (3 * j) (omega (arith, inside q)) (omega (arith, narrow q)) o (fold (word_of t l)) (fold (word_of t r)) (3 * l) (3 * r)
        (omega (arith, left_binary.below)) (omega (arith, right_binary.below))
        (q.before l left_binary.positive left_binary.below).own (q.before r right_binary.positive right_binary.below).own)

    step_form : after v (word_of t j) ≡ after_binary o (after v (word_of t l)) (after v (word_of t r)) (word_of t j)
    unfolding after
    step_form = rw (formula_by_lem e)

  -- the operands of and, or, and of the fixpoints
  pub junction-operands : 5 ≤ k → k < 7 → Earlier l j × Earlier r j
  junction-operands h m = let o = junction_at k h m in (left_binary o.operator o.is, right_binary o.operator o.is)

  junction_by : (o : Binary) → shape k ≡ binary o → ((a b w : Formula) → after_binary o a b w ≡ bin o a b) → Filled v t (junction_slots d j k l r) j
  unfolding fold stored
  junction_by o e f =
      let a = left_binary o e in
      let b = right_binary o e in
      let d1 : List ℕ = owned (pack k (3 * l) (3 * r)) in
      let p = owned_next (pack k (3 * l) (3 * r)) in
      let a_form : Formula = after v (word_of t l) in
      let b_form : Formula = after v (word_of t r) in
      let last = folded_binary d1 (3 * j + 2) (inside p) (omega (arith, narrow p)) o (fold a_form) (fold b_form) (3 * l + 2) (3 * r + 2)
      (omega (arith, a.below)) (omega (arith, b.below)) (p.before l a.positive a.below).step (p.before r b.positive b.below).step in
      step_set p _ (own-binary o e)
      (rw (step_form o e ∙ f a_form b_form (word_of t j))
      (subst (λ (n : ℕ). Drafted (stored d1 (3 * j + 2) (pack n (3 * l + 2) (3 * r + 2))) (fold (bin o a_form b_form)) (3 * j + 2)) (sym (kind_by e)) last))

  pub junction-filled : 5 ≤ k → k < 7 → Filled v t (junction_slots d j k l r) j
  junction-filled h m = let o = junction_at k h m in junction_by o.operator o.is o.form

  module _ {inner outer : Binary} (o : Fixpoint inner outer (shape k)) where
    pub fixpoint-operands : Earlier l j × Earlier r j
    fixpoint-operands = (left_binary o.operator o.is, right_binary o.operator o.is)

    pub fixpoint-filled : Filled v t (fixpoint_slots d j k (binary_kind inner) (binary_kind outer) l r) j
    unfolding fold stored
    fixpoint-filled =
        let a = fixpoint-operands.0 in
        let b = fixpoint-operands.1 in
        let own = own-binary o.operator o.is in
        let d1 : List ℕ = owned (pack k (3 * l) (3 * r)) in
        let p = owned_next (pack k (3 * l) (3 * r)) in
        let s : ℕ = pack (binary_kind inner) (3 * l + 2) (3 * j) in
        let d2 : List ℕ = stored d1 (3 * j + 1) s in
        let n = next_set p (3 * j + 1) (folded_slot s d1) (omega arith) (omega (arith, inside p)) in
        let word-form : Formula = word_of t j in
        let a_form : Formula = after v (word_of t l) in
        let b_form : Formula = after v (word_of t r) in
        let middle : Drafted d2 (fold (bin inner a_form word-form)) (3 * j + 1) =
        folded_binary d1 (3 * j + 1) (omega (arith, inside p)) (omega (arith, narrow p)) inner (fold a_form) (fold word-form) (3 * l + 2) (3 * j)
        (omega (arith, a.below)) (omega arith) (p.before l a.positive a.below).step own in
        step_set n _ (drafted-set d1 (3 * j + 1) (folded_slot s d1) (fold word-form) (3 * j) (omega (arith, inside p)) (omega arith) own)
        (rw (step_form o.operator o.is ∙ o.form a_form b_form word-form)
        (folded_binary d2 (3 * j + 2) (inside n) (omega (arith, narrow n)) outer (fold b_form) (fold (bin inner a_form word-form)) (3 * r + 2) (3 * j + 1)
        (omega (arith, b.below)) (omega arith) (n.before r b.positive b.below).step middle))

-- before the first word
pub none_filled : (v : ℕ) (t d : List ℕ) → Filled v t d 0
none_filled v t d = record { word = λ j p h. absurd (omega arith) }

-- after j words comes the next one
pub next_word : {v : ℕ} {t d e : List ℕ} {j : ℕ} → Room t d → length e ≡ length d → Filled v t e j → j < length t → Next v t e (j + 1)
next_word {v} {t} {d} {e} {j} q h f l = record {
  room = record { accepted = q.accepted; slots = omega (arith, q.slots); few = omega (arith, q.few) };
  word = record { plain = true; limit = 16383; accepted = q.accepted; positive = omega arith; inside = omega arith };
  before = λ i p b. f.word i p (omega arith);
}
