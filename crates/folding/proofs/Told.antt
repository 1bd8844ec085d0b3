-- The slot of a folded word, by what its operands make of it.
use Prim.Native.Nat.{ℕ}
use mathlib.Core.Path.{◌≡◌, refl}
use mathlib.Core.List.{List}
use lib.ListN.{get_or}
use Rattle.std.specs.Prelude.{Option, Some, None}
use Rattle.transforms.specs.Folding as folding
use Rattle.transforms.specs.Folding.{pick}
use Rattle.table.specs.Node.{shape}
use Rattle.slots.specs.Slot.{kind, left, right}
use Rattle.fold_rules.specs.declared.Side.{Side}
use Rattle.fold_rules.specs.declared.Side.TheVariants.{Left, Right}
use Rattle.fold_rules.specs.Rules.{rule_of, answer}
use Rattle.folding.specs.Folded.{folded_slot}

abbrev pub pick_by : Option Side → ℕ → ℕ → ℕ → ℕ
pick_by (Some Left) a b s = a
pick_by (Some Right) a b s = b
pick_by None a b s = s

pick_by_lem : (f : folding.Fold) (a b s : ℕ) → pick_by (answer f) a b s ≡ pick f a b s
pick_by_lem folding.left a b s = refl
pick_by_lem folding.right a b s = refl
pick_by_lem folding.stands a b s = refl

pub told : (s : ℕ) (e : List ℕ) {l m a b k i j : ℕ} {r : Option Side} → l ≡ left s → m ≡ right s → a ≡ get_or e l 0 → b ≡ get_or e m 0 → k ≡ kind s → i ≡ kind a → j ≡ kind b
    → r ≡ answer (rule_of (shape k) (shape i) (shape j)) → pick_by r a b s ≡ folded_slot s e
unfolding folded_slot
told s e {l} {m} {a} {b} {k} {i} {j} {r} hl hm ha hb hk hi hj hr =
    rw (hr, hk, hi, hj, ha, hb, hl, hm) (pick_by_lem (rule_of (shape (kind s)) (shape (kind (get_or e (left s) 0))) (shape (kind (get_or e (right s) 0)))) (get_or e (left s) 0) (get_or e (right s) 0) s)
