-- A word of a plain table by its kind, and the slots of its states.
use Prim.Native.Nat.{ℕ, suc, ◌+◌, ◌-◌, ◌≤◌, ◌<◌}
use native.Mathlib.Omega.{arith}
use mathlib.Core.Path.{◌≡◌, refl, sym, ap, ◌∙◌}
use mathlib.Core.Bool.{Bool, true, false}
use mathlib.Core.List.{List}
use lib.ListN.{length, get_or}
use lib.Dec.{T}
use Rattle.logic.specs.Formula.{Formula, const, lit, un, bin, conj, disj, until, weak, release, strong, implies}
use Rattle.logic.specs.ClassByte.{class_byte}
use Rattle.logic.proofs.Numbers.{in_range}
use Rattle.table.specs.Node.{Shape, constant, letter, shape, kind_of}
use Rattle.table.specs.Table.{formula_by}
use Rattle.table.proofs.Shapes.{shape-constant, shape-letter, kind_of-shape}
use Rattle.slots.specs.Slot.{pack}
use Rattle.source.specs.Source.{WordAt}
use Rattle.automata.specs.Positive.{atom}
use Rattle.automata_laws.specs.StateClass.{StateClass, is_smallest}
use Rattle.automata_laws.specs.FormulaAutomaton.{is_proper, states_of, combination}
use Rattle.state_classes.specs.Kept.{offset, word_of, Kept}
use Rattle.state_slots.proofs.Standing.{Stands}
use Rattle.word_states.specs.States.{shown}
use Rattle.word_states.proofs.Smallest.{number_small}

-- ---- by its kind

pub constant_at_lem : (k : ℕ) → 1 ≤ k → k < 3 → (b : Bool) × (shape k ≡ constant b)
constant_at_lem k h l = in_range (λ n. (b : Bool) × (shape n ≡ constant b)) 1 1 k h (omega arith) ((false, shape-constant false), (true, shape-constant true))

pub letter_at : (k : ℕ) → 3 ≤ k → k < 5 → (b : Bool) × (shape k ≡ letter b)
letter_at k h l = in_range (λ n. (b : Bool) × (shape n ≡ letter b)) 3 1 k h (omega arith) ((true, shape-letter true), (false, shape-letter false))

module _ {t : List ℕ} {j k l r : ℕ} (word : WordAt t j k l r) {s : Shape} (e : shape k ≡ s) where
  pub formula_by_lem : word_of t j ≡ formula_by s r (word_of t l) (word_of t r)
  formula_by_lem = word.formula ∙ ap (λ (s : Shape). formula_by s r (word_of t l) (word_of t r)) e

  pub kind_by : k ≡ kind_of s
  kind_by = sym (kind_of-shape k word.below) ∙ ap kind_of e

-- ---- its states

-- the combination of a proper formula is the or of its states
pub combined-proper : (Γs : List StateClass) (φ : Formula) → T (is_proper φ) → combination Γs φ ≡ states_of Γs φ
unfolding combination
combined-proper Γs (const b) p = absurd p
combined-proper Γs (lit b n) p = refl
combined-proper Γs (un o a) p = refl
combined-proper Γs (bin conj a b) p = absurd p
combined-proper Γs (bin disj a b) p = absurd p
combined-proper Γs (bin until a b) p = refl
combined-proper Γs (bin weak a b) p = refl
combined-proper Γs (bin release a b) p = refl
combined-proper Γs (bin strong a b) p = refl
combined-proper Γs (bin implies a b) p = refl

module _ {t bytes starts : List ℕ} (kept : Kept t bytes starts) (j : ℕ) (positive : 0 < j) (inside : j ≤ length t) where
  pub byte_is : get_or bytes (j - 1) 0 ≡ class_byte (word_of t j)
  byte_is =
      let e : suc (j - 1) ≡ j = omega arith in
      kept.byte (j - 1) (omega arith) ∙ rw e

  -- the slot of a state, as a letter with its number
  pub state-stands : T (is_proper (word_of t j)) → (e : List ℕ) (i n : ℕ) (Γ : StateClass) → n ≡ get_or starts j 0 + offset Γ (get_or bytes (j - 1) 0)
      → T (is_smallest (word_of t j) Γ) → Stands e i (pack 3 0 n) (shown t (atom (record { formula = word_of t j; class = Γ })))
  state-stands proper e i n Γ is least =
      let same = is ∙ ap (λ (b : ℕ). get_or starts j 0 + offset Γ b) byte_is ∙ sym (kept.number j Γ positive inside proper least) in
      (number_small kept (record { formula = word_of t j; class = Γ }), ap (pack 3 0) same)
