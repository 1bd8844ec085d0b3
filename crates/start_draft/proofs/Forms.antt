-- How a word stands in the draft of the start, once the words before it do, by the word's kind.
use Prim.Native.Nat.{ℕ, ◌+◌, ◌-◌, ◌*◌, ◌<◌, ◌≤◌}
use native.Mathlib.Nat.{eq-or-lt_of_le}
use native.Mathlib.Omega.{arith}
use mathlib.Core.Path.{◌≡◌, refl, sym, ap, ap₂, ◌∙◌}
use mathlib.Core.Logic.{◌⊎◌, inl, inr}
use mathlib.Core.Bool.{true, false, cond, false≢true}
use mathlib.Core.List.{List}
use lib.ListN.{length, get_or, set}
use lib.Dec.{T}
use Rattle.logic.specs.Formula.{Formula, Binary, const, bin, next, conj, disj, until, weak, release, strong}
use Rattle.logic.specs.ClassByte.{class_byte}
use Rattle.logic.proofs.Numbers.{in_range}
use Rattle.table.specs.Node.{Shape, binary, shape, binary_kind}
use Rattle.table.specs.Table.{formula_by}
use Rattle.table.proofs.Accepted.{accepted-well-formed}
use Rattle.table.proofs.Shapes.{shape-unary, shape-binary, shape-letter}
use Rattle.slots.specs.Slot.{pack}
use Rattle.drafts.specs.Drafted.{Drafted}
use Rattle.source.specs.Source.{Earlier, WordAt}
use Rattle.source.proofs.Words.{plain-kind}
use Rattle.automata.specs.Positive.{Positive, atom}
use Rattle.automata_laws.specs.StateClass.{StateClass, every, is_smallest}
use Rattle.automata_laws.specs.FormulaAutomaton.{State, is_proper, combination}
use Rattle.state_classes.specs.Kept.{word_of, offset}
use Rattle.state_slots.proofs.Standing.{Stands, Keeps, keeps_all, keeps-set, keeps-three, drafted-keeps, stored-stands}
use Rattle.std.specs.Prelude.{None}
use Rattle.std.specs.Bool.{then_some}
use Rattle.state_slots.specs.Slots.{class_slots}
use Rattle.state_slots.proofs.Classes.{given_state, classed}
use Rattle.word_states.specs.declared.Held.{Held}
use Rattle.word_states.specs.States.{shown, Starting}
use Rattle.word_states.proofs.Smallest.{sigma_class, pi_class, has_sigma, has_pi, every-shown}
use Rattle.word_states.proofs.Starts.{sigma-bit, pi-bit, sigma-offset, pi-offset, sigma-least, pi-least}
use Rattle.word_states.proofs.Words.{constant_at_lem, formula_by_lem, kind_by, combined-proper, byte_is, state-stands}
use Rattle.start_draft.specs.Filling.{state_slots, combination_at, Filled, Next}

-- and, or: the operator, which is kept
pub record Junction (s : Shape) : Type 0 where
  pub operator : Binary
  pub is : s ≡ binary operator
  pub combined : (t : List ℕ) (a b : Formula) → shown t (combination every (bin operator a b)) ≡ bin operator (shown t (combination every a)) (shown t (combination every b))

junction_at : (k : ℕ) → 5 ≤ k → k < 7 → Junction (shape k)
unfolding combination
junction_at k h l = in_range (λ n. Junction (shape n)) 5 1 k h (omega arith) (
  record { operator = conj; is = shape-binary conj; combined = λ t a b. refl },
  record { operator = disj; is = shape-binary disj; combined = λ t a b. refl },
)

-- letters, X, U, W, R, M
abbrev Proper : Shape → Type 0
Proper s = (n : ℕ) (a b : Formula) → T (is_proper (formula_by s n a b))

letter-proper : (k : ℕ) → 3 ≤ k → k < 5 → Proper (shape k)
letter-proper k h l = in_range (λ n. Proper (shape n)) 3 1 k h (omega arith) (rw (shape-letter true) (λ n a b. tt), rw (shape-letter false) (λ n a b. tt))

later-proper : (k : ℕ) → 7 ≤ k → k < 12 → Proper (shape k)
later-proper k h l = in_range (λ n. Proper (shape n)) 7 4 k h (omega arith) (
  rw (shape-unary next) (λ n a b. tt),
  (
    rw (shape-binary until) (λ n a b. tt),
    (rw (shape-binary weak) (λ n a b. tt), (rw (shape-binary release) (λ n a b. tt), rw (shape-binary strong) (λ n a b. tt))),
  ),
)

module _ {t bytes starts d : List ℕ} {j : ℕ} (q : Next t bytes starts d j) where
  pub inside : 3 * j + 2 < length d
  inside = omega (arith, q.word.inside, q.room.slots)

  pub numbered : j < 16384
  numbered = omega (arith, q.word.inside, (accepted-well-formed true 16383 t q.room.accepted).few)

  -- the words so far, once its slots are set
  finished : {e : List ℕ} → Keeps d e (3 * j) → Drafted e (combination_at t j) (3 * j + 2) → Filled t e j
  finished {e} g r = record { word = λ i p h. go i p (eq-or-lt_of_le h) }
    where
      go : (i : ℕ) → 0 < i → (i ≡ j) ⊎ (i < j) → Drafted e (combination_at t i) (3 * i + 2)
      go i p (inl z) = rw z r
      go i p (inr b) = drafted-keeps g (combination_at t i) (3 * i + 2) (omega arith) (q.before i p b)

  -- one slot, which stands for the word
  stored : (s : ℕ) → Stands d (3 * j + 2) s (combination_at t j) → Filled t (set d (3 * j + 2) s) j
  stored s r = finished (keeps-set (3 * j + 2) s (omega arith) (keeps_all d (3 * j))) (stored-stands d (3 * j + 2) s inside (combination_at t j) r)

pub plain_at : {t bytes starts d : List ℕ} {j k l r : ℕ} → Next t bytes starts d j → WordAt t j k l r → k < 12
plain_at {t = t} {j = j} q word = omega (arith, word.kinded, plain-kind 16383 t q.room.accepted j q.word.positive q.word.inside)

module _ {t bytes starts d : List ℕ} {j k l r : ℕ} (q : Next t bytes starts d j) (word : WordAt t j k l r) where
  pub constant-filled : 1 ≤ k → k < 3 → Filled t (set d (3 * j + 2) (pack k 0 0)) j
  unfolding combination
  constant-filled h m =
      let c = constant_at_lem k h m in
      let kind : k ≡ cond c.0 2 1 = kind_by word c.1 in
      stored q (pack k 0 0) (rw (formula_by_lem word c.1) (ap (λ (n : ℕ). pack n 0 0) kind))

  pub junction-operands : 5 ≤ k → k < 7 → Earlier l j × Earlier r j
  junction-operands h m = let o = junction_at k h m in (word.left_operand (rw o.is), word.right_operand (rw o.is))

  pub junction-filled : 5 ≤ k → k < 7 → Filled t (set d (3 * j + 2) (pack k (3 * l + 2) (3 * r + 2))) j
  junction-filled h m =
      let o = junction_at k h m in
      let a = (junction-operands h m).0 in
      let b = (junction-operands h m).1 in
      let kind : k ≡ binary_kind o.operator = kind_by word o.is in
      let form : combination_at t j ≡ bin o.operator (combination_at t l) (combination_at t r) = rw (formula_by_lem word o.is) (o.combined t (word_of t l) (word_of t r)) in
      stored q (pack k (3 * l + 2) (3 * r + 2)) (rw form (
        3 * l + 2,
        3 * r + 2,
        omega (arith, a.below),
        omega (arith, b.below),
        q.before l a.positive a.below,
        q.before r b.positive b.below,
        ap (λ (n : ℕ). pack n (3 * l + 2) (3 * r + 2)) kind,
      ))

  -- a proper word
  pub letter_is : 3 ≤ k → k < 5 → T (is_proper (word_of t j))
  letter_is h m = rw word.formula (letter-proper k h m r (word_of t l) (word_of t r))

  pub later_is : 7 ≤ k → T (is_proper (word_of t j))
  later_is h = rw word.formula (later-proper k h (plain_at q word) r (word_of t l) (word_of t r))

  module _ (proper : T (is_proper (word_of t j))) {h : Held} (m : Starting (get_or bytes (j - 1) 0) (get_or starts j 0) h) where
    byte : get_or bytes (j - 1) 0 ≡ class_byte (word_of t j)
    byte = byte_is q.room.kept j q.word.positive q.word.inside

    -- the numbers of its states
    abbrev first : ℕ
    first = get_or starts j 0 + offset (sigma_class (word_of t j)) (get_or bytes (j - 1) 0)

    abbrev second : ℕ
    second = get_or starts j 0 + offset (pi_class (word_of t j)) (get_or bytes (j - 1) 0)

    sigma_is : h.sigma ≡ then_some (has_sigma (word_of t j)) first
    sigma_is = m.sigma ∙ rw byte (ap₂ (λ b (n : ℕ). then_some b (get_or starts j 0 + n)) (sigma-bit (word_of t j)) (sym (sigma-offset (word_of t j))))

    pi_is : h.pi ≡ then_some (has_pi (word_of t j)) second
    pi_is = m.pi ∙ rw byte (ap₂ (λ b (n : ℕ). then_some b (get_or starts j 0 + n)) (pi-bit (word_of t j)) (sym (pi-offset (word_of t j))))

    slots_are : state_slots d j h ≡ class_slots d (3 * j) (then_some (has_sigma (word_of t j)) (pack 3 0 first)) (then_some (has_pi (word_of t j)) (pack 3 0 second)) None
    slots_are = rw (sigma_is, pi_is, given_state (has_sigma (word_of t j)) first, given_state (has_pi (word_of t j)) second)

    state : StateClass → Positive State
    state Γ = atom (record { formula = word_of t j; class = Γ })

    stands : (Γ : StateClass) → T (is_smallest (word_of t j) Γ) → Stands d (3 * j) (pack 3 0 (get_or starts j 0 + offset Γ (get_or bytes (j - 1) 0))) (shown t (state Γ))
    unfolding state
    stands Γ = state-stands q.room.kept j q.word.positive q.word.inside proper d (3 * j) _ Γ refl

    pub proper-filled : Filled t (state_slots d j h) j
    unfolding state
    proper-filled =
        let φ : Formula = word_of t j in
        let k = classed d (3 * j) (has_sigma φ) (has_pi φ) false (pack 3 0 first) (pack 3 0 second) 0
        (shown t (state (sigma_class φ))) (shown t (state (pi_class φ))) (const false) (inside q)
        (λ a. stands (sigma_class φ) (sigma-least φ a))
        (λ a. stands (pi_class φ) (pi-least φ a))
        (λ a b c. absurd (false≢true c)) in
        finished q (keeps-three (3 * j) _ _ _ (omega arith) (keeps_all d (3 * j))) (rw (combined-proper every φ proper, every-shown t state φ, slots_are) k.three)
