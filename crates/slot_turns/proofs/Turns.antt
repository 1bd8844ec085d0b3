-- What numbering needs of a slot next, by the count of its operands and the numbers that they have.
use Prim.Native.Nat.{ℕ, zero, suc, ◌<◌}
use native.Mathlib.Nat.{le_of_suc-le-suc, not-suc-le-zero}
use mathlib.Core.Path.{◌≡◌, refl, ◌∙◌}
use mathlib.Core.List.{List}
use lib.ListN.{get_or}
use Rattle.table.specs.Node as node
use Rattle.slots.specs.Slot.{kind, left, right}
use Rattle.slot_turns.specs.Turn.{arity, needing, turn_by, turn_of}
use Rattle.slot_turns.specs.declared.Turn.{Turn}
use Rattle.slot_turns.specs.declared.Turn.TheVariants.{Operand, Word}

needing_not : (n i : ℕ) (t : Turn) → (n ≡ 0 → ⊥) → needing n i t ≡ t
needing_not zero i t h = absurd (h refl)
needing_not (suc n) i t h = refl

module _ (s : ℕ) (numbers : List ℕ) where
  abbrev a : ℕ
  a = get_or numbers (left s) 0

  abbrev b : ℕ
  b = get_or numbers (right s) 0

  abbrev k : ℕ
  k = arity (node.shape (kind s))

  pub leaf-word : k ≡ 0 → turn_of s numbers ≡ Word (node.pack (kind s) 0 (right s))
  unfolding turn_of
  leaf-word e = rw e

  pub unary-operand : k ≡ 1 → b ≡ 0 → turn_of s numbers ≡ Operand (right s)
  unfolding turn_of
  unary-operand e z = rw (e, z)

  pub unary-word : k ≡ 1 → (b ≡ 0 → ⊥) → turn_of s numbers ≡ Word (node.pack (kind s) 0 b)
  unfolding turn_of
  unary-word e z = rw e (needing_not b (right s) _ z)

  two : 1 < k → (t : Turn) → ((n : ℕ) → turn_by (suc (suc n)) s a b ≡ t) → turn_by k s a b ≡ t
  two h t f = go k h
    where
      go : (j : ℕ) → 1 < j → turn_by j s a b ≡ t
      go zero m = absurd (not-suc-le-zero m)
      go (suc zero) m = absurd (not-suc-le-zero (le_of_suc-le-suc m))
      go (suc (suc n)) m = f n

  pub left_operand : 1 < k → a ≡ 0 → turn_of s numbers ≡ Operand (left s)
  unfolding turn_of
  left_operand h z = two h _ (λ n. rw z)

  pub right_operand : 1 < k → (a ≡ 0 → ⊥) → b ≡ 0 → turn_of s numbers ≡ Operand (right s)
  unfolding turn_of
  right_operand h y z = two h _ (λ n. needing_not a (left s) _ y ∙ rw z)

  pub binary-word : 1 < k → (a ≡ 0 → ⊥) → (b ≡ 0 → ⊥) → turn_of s numbers ≡ Word (node.pack (kind s) a b)
  unfolding turn_of
  binary-word h y z = two h _ (λ n. needing_not a (left s) _ y ∙ needing_not b (right s) _ z)
