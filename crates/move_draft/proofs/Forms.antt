-- How a word stands in a draft, combined and moved, once the words before it do, by the word's kind.
use Prim.Native.Nat.{ℕ, ◌+◌, ◌-◌, ◌*◌, ◌<◌, ◌≤◌}
use native.Mathlib.Nat.{eq-or-lt_of_le}
use native.Mathlib.Omega.{arith}
use mathlib.Core.Path.{◌≡◌, refl, sym, ap, ◌∙◌, subst}
use mathlib.Core.Logic.{◌⊎◌, inl, inr}
use mathlib.Core.Bool.{Bool, true, false, beq, cond}
use mathlib.Core.List.{List, map}
use lib.ListN.{length, get_or, set}
use lib.Dec.{T, eqb}
use Rattle.logic.specs.Bit.{bit}
use Rattle.logic.specs.Formula.{Formula, Binary, const, un, bin, next}
use Rattle.logic.specs.ClassByte.{class_byte, in_Σ₁, in_Π₁}
use Rattle.logic.specs.Lasso.{letter_in}
use Rattle.logic.specs.Letters.{Letters}
use Rattle.logic.proofs.Numbers.{in_range}
use Rattle.table.specs.Node.{constant, letter, binary, shape, binary_kind, right_field}
use Rattle.table.specs.Checks.{is_operand}
use Rattle.table.proofs.Accepted.{accepted-well-formed}
use Rattle.table.proofs.Letters.{formula-letters}
use Rattle.table.proofs.Shapes.{shape-unary}
use Rattle.slots.specs.Slot.{pack}
use Rattle.drafts.specs.Drafted.{Drafted}
use Rattle.source.specs.Source.{Earlier, WordAt}
use Rattle.source.proofs.Words.{plain-kind}
use Rattle.automata.specs.Positive.{Positive, any_of, atom}
use Rattle.automata_laws.specs.StateClass.{StateClass, sigma₁, pi₁, class_bit, in_class, within, is_smallest, smallest_in}
use Rattle.automata_laws.specs.FormulaAutomaton.{State, is_proper, combination, moved_by, move_of}
use Rattle.state_classes.specs.Kept.{word_of, offset}
use Rattle.std.specs.Bool.{then_some}
use Rattle.state_slots.specs.Slots.{three, class_slots}
use Rattle.state_slots.proofs.Standing.{Stands, Keeps, keeps_all, keeps-set, keeps-three, drafted-keeps, stored-stands, copied-stands, apart-drafted}
use Rattle.state_slots.proofs.Classes.{given_state, given_other, classed}
use Rattle.word_states.specs.declared.Held.{Held}
use Rattle.class_bits.specs.Levels.{second_class}
use Rattle.word_states.specs.States.{shown, Moving}
use Rattle.word_states.proofs.Smallest.{bit_of, sigma-shown, pi-shown, second-shown, own-smallest}
use Rattle.word_states.proofs.Words.{constant_at_lem, letter_at, formula_by_lem, kind_by, combined-proper, byte_is, state-stands}
use Rattle.sample_letters.specs.Constant.{constant_at}
use Rattle.move_slots.specs.Slots.{constant_slots, over_slots, junction_slots, held_slots, state_slots, letter_slots}
use Rattle.next_slots.specs.Slots.{next_slots}
use Rattle.temporal_slots.specs.Slots.{lane, inner_slot, outer_slot, fixpoint_slots}
use Rattle.move_draft.specs.Filling.{class_at, combined_by, move_by, Moved, Filled, Next}
use Rattle.move_draft.proofs.Moves.{moved-proper, Junction, junction_at, Fixpoint}

-- ---- three slots, by their places

lanes : (e : List ℕ) (i : ℕ) (f : ℕ → Formula) → Drafted e (f 0) i × Drafted e (f 1) (i + 1) × Drafted e (f 2) (i + 2)
    → (n : ℕ) → n < 3 → Drafted e (f n) (i + n)
lanes e i f r n h =
    in_range (λ n. Drafted e (f n) (i + n)) 0 2 n (omega arith) (omega arith) (subst (Drafted e (f 0)) (omega arith) r.0, (r.1, r.2))

-- a kind over two times three
over_lanes : (d : List ℕ) (i k l r : ℕ) (o : Binary) (f g : ℕ → Formula) → i + 2 < length d → l + 2 < i → r + 2 < i → k ≡ binary_kind o
    → ((n : ℕ) → n < 3 → Drafted d (f n) (l + n)) → ((n : ℕ) → n < 3 → Drafted d (g n) (r + n))
    → (n : ℕ) → n < 3 → Drafted (over_slots d i k l r) (bin o (f n) (g n)) (i + n)
over_lanes d i k l r o f g h hl hr e p q =
    let z : l ≡ l + 0 = omega arith in
    let w : r ≡ r + 0 = omega arith in
    lanes (over_slots d i k l r) i (λ n. bin o (f n) (g n))
    (apart-drafted d i _ _ _ (bin o (f 0) (g 0)) (bin o (f 1) (g 1)) (bin o (f 2) (g 2)) h
    (l, r, omega arith, omega arith, subst (Drafted d (f 0)) (sym z) (p 0 (omega arith)), subst (Drafted d (g 0)) (sym w) (q 0 (omega arith)), rw e)
    (l + 1, r + 1, omega arith, omega arith, p 1 (omega arith), q 1 (omega arith), rw e)
    (l + 2, r + 2, omega arith, omega arith, p 2 (omega arith), q 2 (omega arith), rw e))

-- ---- word j, after those before it

module _ {v : ℕ} {upper : Bool} {t bytes starts d : List ℕ} {j : ℕ} (q : Next v upper t bytes starts d j) where
  -- the slots of the word are in the draft
  pub inside : 7 * j + 6 < length d
  inside = omega (arith, q.word.inside, q.room.slots)

  pub numbered : j < 16384
  numbered = omega (arith, q.word.inside, (accepted-well-formed true 16383 t q.room.accepted).few)

  -- the words so far, once its slots are set
  finished : {e : List ℕ} → Keeps d e (7 * j) → ((n : ℕ) → n < 3 → Drafted e (combined_by t (class_at upper n) j) (7 * j + n))
      → ((n : ℕ) → n < 3 → Drafted e (move_by v t (class_at upper n) j) (7 * j + 4 + n)) → Filled v upper t e j
  finished {e} g combined moved = record { word = λ i p h. go i p (eq-or-lt_of_le h) }
    where
      go : (i : ℕ) → 0 < i → (i ≡ j) ⊎ (i < j) → Moved v upper t e i
      go i p (inl z) = rw z (record { combined = combined; moved = moved })
      go i p (inr b) =
          let w = q.before i p b in
          record {
            combined = λ n h. drafted-keeps g (combined_by t (class_at upper n) i) (7 * i + n) (omega arith) (w.combined n h);
            moved = λ n h. drafted-keeps g (move_by v t (class_at upper n) i) (7 * i + 4 + n) (omega arith) (w.moved n h);
          }

-- its kind is a plain one
pub plain_at : {v : ℕ} {upper : Bool} {t bytes starts d : List ℕ} {j k l r : ℕ} → Next v upper t bytes starts d j → WordAt t j k l r → k < 12
plain_at {t = t} {j = j} q word = omega (arith, word.kinded, plain-kind 16383 t q.room.accepted j q.word.positive q.word.inside)

module _ {v : ℕ} {upper : Bool} {t bytes starts d : List ℕ} {j k l r : ℕ} (q : Next v upper t bytes starts d j) (word : WordAt t j k l r) where
  -- ---- constants, and, or

  constant_by : (b : Bool) → shape k ≡ constant b → Filled v upper t (constant_slots d j k) j
  unfolding combination move_of
  constant_by b e =
      let form = formula_by_lem word e in
      let kind : k ≡ cond b 2 1 = kind_by word e in
      let s = pack k 0 0 in
      let is : s ≡ pack (cond b 2 1) 0 0 = rw kind in
      let d1 : List ℕ = three d (7 * j) s s s in
      let long : length d1 ≡ length d = (keeps-three (7 * j) s s s (omega arith) (keeps_all d 0)).long in
      let one = apart-drafted d (7 * j) s s s (const b) (const b) (const b) (omega (arith, inside q)) is is is in
      let two = apart-drafted d1 (7 * j + 4) s s s (const b) (const b) (const b) (omega (arith, inside q, long)) is is is in
      let later = keeps-three (7 * j + 4) s s s (omega arith) (keeps_all d1 (7 * j + 3)) in
      finished q (keeps-three (7 * j + 4) s s s (omega arith) (keeps-three (7 * j) s s s (omega arith) (keeps_all d (7 * j))))
      (rw form (λ n h. drafted-keeps later (const b) (7 * j + n) (omega arith) (lanes d1 (7 * j) (λ n. const b) one n h)))
      (rw form (lanes (constant_slots d j k) (7 * j + 4) (λ n. const b) two))

  pub constant-filled : 1 ≤ k → k < 3 → Filled v upper t (constant_slots d j k) j
  constant-filled h m = let c = constant_at_lem k h m in constant_by c.0 c.1

  left_binary : (o : Binary) → shape k ≡ binary o → Earlier l j
  left_binary o e = word.left_operand (rw e)

  right_binary : (o : Binary) → shape k ≡ binary o → Earlier r j
  right_binary o e = word.right_operand (rw e)

  pub junction-operands : 5 ≤ k → k < 7 → Earlier l j × Earlier r j
  junction-operands h m = let o = junction_at k h m in (left_binary o.operator o.is, right_binary o.operator o.is)

  junction_by : Junction (shape k) → Filled v upper t (junction_slots d j k l r) j
  junction_by o =
      let a = left_binary o.operator o.is in
      let b = right_binary o.operator o.is in
      let form = formula_by_lem word o.is in
      let kind : k ≡ binary_kind o.operator = kind_by word o.is in
      let d1 : List ℕ = over_slots d (7 * j) k (7 * l) (7 * r) in
      let first = keeps-three (7 * j) _ _ _ (omega arith) (keeps_all d (7 * j)) in
      let later = keeps-three (7 * j + 4) _ _ _ (omega arith) (keeps_all d1 (7 * j + 3)) in
      let combined_l : ℕ → Formula = λ n. combined_by t (class_at upper n) l in
      let combined_r : ℕ → Formula = λ n. combined_by t (class_at upper n) r in
      let move_l : ℕ → Formula = λ n. move_by v t (class_at upper n) l in
      let move_r : ℕ → Formula = λ n. move_by v t (class_at upper n) r in
      let left = q.before l a.positive a.below in
      let right = q.before r b.positive b.below in
      let one = over_lanes d (7 * j) k (7 * l) (7 * r) o.operator combined_l combined_r (omega (arith, inside q)) (omega (arith, a.below)) (omega (arith, b.below)) kind left.combined right.combined in
      let two = over_lanes d1 (7 * j + 4) k (7 * l + 4) (7 * r + 4) o.operator move_l move_r (omega (arith, inside q, first.long)) (omega (arith, a.below)) (omega (arith, b.below)) kind
      (λ n h. drafted-keeps first (move_l n) (7 * l + 4 + n) (omega (arith, a.below)) (left.moved n h))
      (λ n h. drafted-keeps first (move_r n) (7 * r + 4 + n) (omega (arith, b.below)) (right.moved n h)) in
      finished q (keeps-three (7 * j + 4) _ _ _ (omega arith) first)
      (rw form (λ n h. rw (o.combined t (within (class_at upper n)) (word_of t l) (word_of t r)) (drafted-keeps later (bin o.operator (combined_l n) (combined_r n)) (7 * j + n) (omega arith) (one n h))))
      (rw form (λ n h. rw (o.moved t (class_at upper n) v (word_of t l) (word_of t r)) (two n h)))

  pub junction-filled : 5 ≤ k → k < 7 → Filled v upper t (junction_slots d j k l r) j
  junction-filled h m = junction_by (junction_at k h m)

  pub right_unary : k ≡ 7 → Earlier r j
  right_unary e = word.right_operand (ap (λ (n : ℕ). is_operand (right_field (shape n))) e ∙ rw (shape-unary next))

  -- the letters of an accepted table are 1 to 32
  pub letter_range : 3 ≤ k → k < 5 → (1 ≤ r) × (r ≤ 32)
  letter_range h m =
      let f = accepted-well-formed true 16383 t q.room.accepted in
      subst (Letters (λ p. (1 ≤ p) × (p ≤ 32))) (formula_by_lem word (letter_at k h m).1)
      (formula-letters (λ p. (1 ≤ p) × (p ≤ 32)) f (λ i l p. (f.word i l).letter p) j q.word.inside)

  -- ---- proper words: in which of the classes it is, and the numbers of its states

  module _ {h : Held} (m : Moving (get_or bytes (j - 1) 0) (get_or starts j 0) upper h) where
    byte : get_or bytes (j - 1) 0 ≡ class_byte (word_of t j)
    byte = byte_is q.room.kept j q.word.positive q.word.inside

    abbrev in_sigma : Bool
    in_sigma = in_Σ₁ (word_of t j)

    abbrev in_pi : Bool
    in_pi = in_Π₁ (word_of t j)

    abbrev in_further : Bool
    in_further = in_class (second_class upper) (word_of t j)

    abbrev number : StateClass → ℕ
    number Γ = get_or starts j 0 + offset Γ (get_or bytes (j - 1) 0)

    sigma_is : h.sigma ≡ then_some in_sigma (number sigma₁)
    sigma_is = m.sigma ∙ ap (λ b. then_some b (number sigma₁)) (ap (λ (n : ℕ). bit n 1) byte ∙ bit_of (word_of t j) sigma₁)

    pi_is : h.pi ≡ then_some in_pi (number pi₁)
    pi_is = m.pi ∙ ap (λ b. then_some b (number pi₁)) (ap (λ (n : ℕ). bit n 2) byte ∙ bit_of (word_of t j) pi₁)

    further_is : h.further ≡ then_some in_further (number (second_class upper))
    further_is = m.further ∙ ap (λ b. then_some b (number (second_class upper))) (ap (λ (n : ℕ). bit n (class_bit (second_class upper))) byte ∙ bit_of (word_of t j) (second_class upper))

    held_are : (g : List ℕ) (i x y z : ℕ) → held_slots g i h x y z ≡ class_slots g i (then_some in_sigma x) (then_some in_pi y) (then_some in_further z)
    held_are g i x y z = rw (sigma_is, pi_is, further_is, given_other in_sigma (number sigma₁) x, given_other in_pi (number pi₁) y, given_other in_further (number (second_class upper)) z)

    states_are : state_slots d j h
        ≡ class_slots d (7 * j) (then_some in_sigma (pack 3 0 (number sigma₁))) (then_some in_pi (pack 3 0 (number pi₁))) (then_some in_further (pack 3 0 (number (second_class upper))))
    states_are = rw (sigma_is, pi_is, further_is, given_state in_sigma (number sigma₁), given_state in_pi (number pi₁), given_state in_further (number (second_class upper)))

    -- it is smallest in the classes that are told
    sigma-least : in_sigma ≡ true → T (is_smallest (word_of t j) sigma₁)
    sigma-least e = rw e tt

    pi-least : in_pi ≡ true → T (is_smallest (word_of t j) pi₁)
    pi-least e = rw e tt

    further-least : in_sigma ≡ false → in_pi ≡ false → in_further ≡ true → T (is_smallest (word_of t j) (second_class upper))
    further-least a b c = go upper c
      where
        go : (u : Bool) → in_class (second_class u) (word_of t j) ≡ true → T (is_smallest (word_of t j) (second_class u))
        go true e = rw (e, a, b) tt
        go false e = rw (e, a, b) tt

    module _ (proper : T (is_proper (word_of t j))) where
      -- what is made of its states, by the three classes
      made : (f : StateClass → Positive State) (e : List ℕ) (i x y z : ℕ) → i + 2 < length e
          → (in_sigma ≡ true → Stands e i x (shown t (f sigma₁))) → (in_pi ≡ true → Stands e i y (shown t (f pi₁)))
          → (in_sigma ≡ false → in_pi ≡ false → in_further ≡ true → Stands e i z (shown t (f (second_class upper))))
          → (n : ℕ) → n < 3 → Drafted (class_slots e i (then_some in_sigma x) (then_some in_pi y) (then_some in_further z)) (shown t (any_of (map f (smallest_in (within (class_at upper n)) (word_of t j))))) (i + n)
      made f e i x y z long a b c =
          let φ : Formula = word_of t j in
          let k = classed e i in_sigma in_pi in_further x y z (shown t (f sigma₁)) (shown t (f pi₁)) (shown t (f (second_class upper))) long a b c in
          lanes (class_slots e i (then_some in_sigma x) (then_some in_pi y) (then_some in_further z)) i (λ n. shown t (any_of (map f (smallest_in (within (class_at upper n)) φ)))) (
            rw (sigma-shown t f φ) k.one,
            rw (pi-shown t f φ) k.two,
            rw (second-shown t f φ upper) k.three,
          )

      state : StateClass → Positive State
      state Γ = atom (record { formula = word_of t j; class = Γ })

      stands : (Γ : StateClass) → T (is_smallest (word_of t j) Γ) → Stands d (7 * j) (pack 3 0 (number Γ)) (shown t (state Γ))
      unfolding state
      stands Γ = state-stands q.room.kept j q.word.positive q.word.inside proper d (7 * j) (number Γ) Γ refl

      -- the draft with the word's combinations
      abbrev e : List ℕ
      e = state_slots d j h

      first : Keeps d e (7 * j)
      first = keeps-three (7 * j) _ _ _ (omega arith) (keeps_all d (7 * j))

      combined : (n : ℕ) → n < 3 → Drafted e (combined_by t (class_at upper n) j) (7 * j + n)
      unfolding state
      combined n l =
          rw (combined-proper (within (class_at upper n)) (word_of t j) proper, states_are)
          (made state d (7 * j) (pack 3 0 (number sigma₁)) (pack 3 0 (number pi₁)) (pack 3 0 (number (second_class upper))) (omega (arith, inside q))
          (λ a. stands sigma₁ (sigma-least a))
          (λ a. stands pi₁ (pi-least a))
          (λ a b c. stands (second_class upper) (further-least a b c)) n l)

      -- and moved, by slots that stand for the moves of its states
      module _ (g : List ℕ) (x y z : ℕ) (kept : Keeps e g (7 * j + 3)) where
        proper-filled : (in_sigma ≡ true → Stands g (7 * j + 4) x (shown t (move_of (word_of t j) sigma₁ v)))
            → (in_pi ≡ true → Stands g (7 * j + 4) y (shown t (move_of (word_of t j) pi₁ v)))
            → (in_sigma ≡ false → in_pi ≡ false → in_further ≡ true → Stands g (7 * j + 4) z (shown t (move_of (word_of t j) (second_class upper) v)))
            → Filled v upper t (held_slots g (7 * j + 4) h x y z) j
        proper-filled a b c =
            let later = keeps-three (7 * j + 4) _ _ _ (omega arith) kept in
            finished q (record { long = later.long ∙ first.long; same = λ i l. later.same i (omega arith) ∙ first.same i l })
            (λ n l. drafted-keeps later (combined_by t (class_at upper n) j) (7 * j + n) (omega arith) (combined n l))
            (λ n l. rw (moved-proper (class_at upper n) (word_of t j) (λ Δ. move_of (word_of t j) Δ v) proper, held_are g (7 * j + 4) x y z)
            (made (λ Δ. move_of (word_of t j) Δ v) g (7 * j + 4) x y z (omega (arith, inside q, kept.long, first.long)) a b c n l))

    -- ---- letters

    letter_by : (b : Bool) → shape k ≡ letter b → {c : ℕ} → c ≡ constant_at v k r → Filled v upper t (letter_slots d j h c) j
    unfolding move_of
    letter_by b e {c} z =
        let form = formula_by_lem word e in
        let kind : k ≡ cond b 3 4 = kind_by word e in
        let sign : eqb k 3 ≡ b = ap (λ (n : ℕ). eqb n 3) kind ∙ by_sign b in
        let is : pack c 0 0 ≡ pack (cond (beq b (letter_in v r)) 2 1) 0 0 = ap (λ (n : ℕ). pack n 0 0) (z ∙ ap (λ (x : Bool). cond (beq x (letter_in v r)) 2 1) sign) in
        proper-filled (rw form tt) (state_slots d j h) _ _ _ (keeps_all _ _) (λ a. rw form is) (λ a. rw form is) (λ a b c. rw form is)
      where
        by_sign : (b : Bool) → eqb (cond b 3 4) 3 ≡ b
        by_sign true = refl
        by_sign false = refl

    pub letter-filled : {c : ℕ} → 3 ≤ k → k < 5 → c ≡ constant_at v k r → Filled v upper t (letter_slots d j h c) j
    letter-filled a b z = let s = letter_at k a b in letter_by s.0 s.1 z

    -- ---- X

    pub next_filled : k ≡ 7 → Filled v upper t (next_slots d j h r) j
    unfolding move_of
    next_filled e =
        let b = right_unary e in
        let form : word_of t j ≡ un next (word_of t r) = formula_by_lem word (ap shape e ∙ shape-unary next) in
        let proper : T (is_proper (word_of t j)) = rw form tt in
        let g : List ℕ = state_slots d j h in
        let operand : (n : ℕ) → n < 3 → Drafted g (combined_by t (class_at upper n) r) (7 * r + n) =
        λ n l. drafted-keeps (first proper) (combined_by t (class_at upper n) r) (7 * r + n) (omega (arith, b.below)) ((q.before r b.positive b.below).combined n l) in
        let zero : 7 * r + 0 ≡ 7 * r = omega arith in
        proper-filled proper g _ _ _ (keeps_all _ _)
        (λ a. rw form (copied-stands g (7 * j + 4) (7 * r) (omega (arith, b.below)) (combined_by t sigma₁ r) (subst (Drafted g (combined_by t sigma₁ r)) zero (operand 0 (omega arith)))))
        (λ a. rw form (copied-stands g (7 * j + 4) (7 * r + 1) (omega (arith, b.below)) (combined_by t pi₁ r) (operand 1 (omega arith))))
        (λ a b' c. rw form (copied-stands g (7 * j + 4) (7 * r + 2) (omega (arith, b.below)) (combined_by t (second_class upper) r) (operand 2 (omega arith))))

    -- ---- U, W, R, M

    module _ {inner outer : Binary} (o : Fixpoint inner outer (shape k)) where
      pub fixpoint-operands : Earlier l j × Earlier r j
      fixpoint-operands = (left_binary o.operator o.is, right_binary o.operator o.is)

      form : word_of t j ≡ bin o.operator (word_of t l) (word_of t r)
      form = formula_by_lem word o.is

      is_proper_lem : T (is_proper (word_of t j))
      is_proper_lem = rw form (o.proper (word_of t l) (word_of t r))

      abbrev with_inner : ℕ → List ℕ
      with_inner i = set (state_slots d j h) (7 * j + 3) (inner_slot j i (binary_kind inner) l)

      -- the state at place i, where it is the word's
      own-state : (i : ℕ) → i < 3 → T (is_smallest (word_of t j) (class_at upper i))
          → Drafted (state_slots d j h) (shown t (atom (record { formula = word_of t j; class = class_at upper i }))) (7 * j + i)
      own-state i b least =
          rw (combined-proper (within (class_at upper i)) (word_of t j) is_proper_lem, own-smallest (word_of t j) (class_at upper i) least) at (combined is_proper_lem i b)

      move-stands : (i : ℕ) → i < 3 → T (is_smallest (word_of t j) (class_at upper i))
          → Stands (with_inner i) (7 * j + 4) (outer_slot j i (binary_kind outer) r) (shown t (move_of (word_of t j) (class_at upper i) v))
      move-stands i b least =
          let a = fixpoint-operands.0 in
          let c = fixpoint-operands.1 in
          let Γ : StateClass = class_at upper i in
          let e : List ℕ = state_slots d j h in
          let itself : Formula = shown t (atom (record { formula = word_of t j; class = Γ })) in
          let inward : Formula = bin inner (move_by v t Γ l) itself in
          let kept : Keeps d (with_inner i) (7 * j) = keeps-set (7 * j + 3) _ (omega arith) (first is_proper_lem) in
          let in_first = drafted-keeps (first is_proper_lem) (move_by v t Γ l) (7 * l + 4 + i) (omega (arith, a.below)) ((q.before l a.positive a.below).moved i b) in
          let middle : Drafted (with_inner i) inward (7 * j + 3) =
          stored-stands e (7 * j + 3) (inner_slot j i (binary_kind inner) l) (omega (arith, inside q, (first is_proper_lem).long)) inward
          (7 * l + 4 + i, 7 * j + i, omega (arith, a.below), omega arith, in_first, own-state i b least, refl) in
          let right = drafted-keeps kept (move_by v t Γ r) (7 * r + 4 + i) (omega (arith, c.below)) ((q.before r c.positive c.below).moved i b) in
          let stands : Stands (with_inner i) (7 * j + 4) (outer_slot j i (binary_kind outer) r) (bin outer (move_by v t Γ r) inward) =
          (7 * r + 4 + i, 7 * j + 3, omega (arith, c.below), omega arith, right, middle, refl) in
          let moves : shown t (move_of (word_of t j) Γ v) ≡ bin outer (move_by v t Γ r) inward = rw form (o.move t Γ v (word_of t l) (word_of t r)) in
          rw moves stands

      -- at the place that its class has
      at_lane : (n : ℕ) → lane h ≡ n → n < 3 → T (is_smallest (word_of t j) (class_at upper n))
          → Stands (with_inner (lane h)) (7 * j + 4) (outer_slot j (lane h) (binary_kind outer) r) (shown t (move_of (word_of t j) (class_at upper n) v))
      at_lane n z b least =
          subst (λ (i : ℕ). Stands (with_inner i) (7 * j + 4) (outer_slot j i (binary_kind outer) r) (shown t (move_of (word_of t j) (class_at upper n) v))) (sym z) (move-stands n b least)

      -- it is not in both classes of the first level
      not_sigma : in_pi ≡ true → in_sigma ≡ false
      not_sigma e = go in_sigma refl
        where
          go : (b : Bool) → in_sigma ≡ b → b ≡ false
          go false z = refl
          go true z =
              let s : T (in_Σ₁ (word_of t j)) = rw z tt in
              let p : T (in_Π₁ (word_of t j)) = rw e tt in
              absurd (o.one (word_of t l) (word_of t r) (rw form at s) (rw form at p))

      pub fixpoint-filled : Filled v upper t (fixpoint_slots d j h (binary_kind inner) (binary_kind outer) l r) j
      fixpoint-filled =
          proper-filled is_proper_lem (with_inner (lane h)) _ _ _ (keeps-set (7 * j + 3) _ (omega arith) (keeps_all _ _))
          (λ a. at_lane 0 (rw (sigma_is, a)) (omega arith) (sigma-least a))
          (λ a. at_lane 1 (rw (sigma_is, pi_is, not_sigma a, a)) (omega arith) (pi-least a))
          (λ a b c. at_lane 2 (rw (sigma_is, pi_is, a, b)) (omega arith) (further-least a b c))

-- ---- the root of a state: its word moved by its class is the state's move

pub state-move : (v : ℕ) (t : List ℕ) (φ : Formula) (Γ : StateClass) → T (is_proper φ) → T (is_smallest φ Γ)
    → moved_by Γ φ (λ Δ. move_of φ Δ v) ≡ move_of φ Γ v
state-move v t φ Γ p s = moved-proper Γ φ (λ Δ. move_of φ Δ v) p ∙ rw (own-smallest φ Γ s)
