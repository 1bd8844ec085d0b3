-- The three slots of a conjunct, written one after the other.
use Prim.Native.Nat.{ℕ, ◌+◌, ◌-◌, ◌<◌}
use native.Mathlib.Omega.{arith}
use mathlib.Core.Path.{◌≡◌, refl, ◌∙◌}
use mathlib.Core.List.{List}
use lib.ListN.{length, get_or, set, length-set}
use lib.Seq.{get_or-set_same, get_or-set_other}
use Rattle.logic.specs.Formula.{conj}
use Rattle.table.specs.Node.{binary_kind}
use Rattle.slots.specs.Slot.{pack}
use Rattle.word_slots.proofs.Stores.{two, two_others, two_0, two_1}
use Rattle.fixpoint_kinds.specs.declared.Fixpoint.{Fixpoint}
use Rattle.fixpoint_kinds.specs.Kinds.{form_slot, inner_slot}
use Rattle.conjuncts.specs.Conjunct.{outer_slot, Conjoined}

pub three-conjoined : (x : Fixpoint) (j : ℕ) (d : List ℕ) (next : ℕ) {i o a : ℕ} → next + 2 < length d → i ≡ inner_slot x (form_slot x j) → o ≡ outer_slot x next
    → a ≡ pack (binary_kind conj) (next - 1) (next + 1) → Conjoined x j d next (set (two d next i o) (next + 2) a) (next + 3)
three-conjoined x j d next {i} {o} {a} h p q r = record {
  long = simp length-set;
  before = λ k l. last k (omega arith) ∙ two_others d next i o k (omega arith) (omega arith);
  inner = last next (omega arith) ∙ two_0 d next i o (omega arith) ∙ p;
  outer = last (next + 1) (omega arith) ∙ two_1 d next i o (omega arith) ∙ q;
  joined = get_or-set_same (two d next i o) (next + 2) a 0 (simp length-set (omega arith)) ∙ r;
  after = refl;
}
  where
    last : (k : ℕ) → (k ≡ next + 2 → ⊥) → get_or (set (two d next i o) (next + 2) a) k 0 ≡ get_or (two d next i o) k 0
    last k f = get_or-set_other (two d next i o) (next + 2) k a 0 f
