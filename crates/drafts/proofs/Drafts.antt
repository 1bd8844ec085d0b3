-- What a slot stands for depends on the slots up to it alone.
use Prim.Native.Nat.{ℕ, ◌<◌, ◌≤◌}
use native.Mathlib.Omega.{arith}
use mathlib.Core.Path.{◌≡◌, ◌∙◌}
use mathlib.Core.List.{List}
use lib.ListN.{length, get_or, set, length-set}
use lib.Seq.{get_or-set_same, get_or-set_other}
use Rattle.logic.specs.Formula.{Formula, const, lit, un, bin}
use Rattle.drafts.specs.Drafted.{SlotIs, Drafted}

module _ (d e : List ℕ) (k : ℕ) (long : k ≤ length e) (same : (i : ℕ) → i < k → get_or e i 0 ≡ get_or d i 0) where
  pub slot_below : {i s : ℕ} → i < k → SlotIs d i s → SlotIs e i s
  slot_below {i} {s} h r = record { within = omega arith; is = same i h ∙ r.is }

  pub drafted_below : (φ : Formula) (i : ℕ) → i < k → Drafted d φ i → Drafted e φ i
  drafted_below (const b) i h r = slot_below h r
  drafted_below (lit b p) i h r = (r.0, slot_below h r.1)
  drafted_below (un o a) i h r = (r.0, r.1, drafted_below a r.0 (omega (arith, r.1)) r.2, slot_below h r.3)
  drafted_below (bin o a b) i h r = (
    r.0,
    r.1,
    r.2,
    r.3,
    drafted_below a r.0 (omega (arith, r.2)) r.4,
    drafted_below b r.1 (omega (arith, r.3)) r.5,
    slot_below h r.6,
  )

-- a slot that is set later
pub drafted-set : (d : List ℕ) (k s : ℕ) (φ : Formula) (i : ℕ) → k < length d → i < k → Drafted d φ i → Drafted (set d k s) φ i
drafted-set d k s φ i h l r =
    drafted_below d (set d k s) k (omega (arith, length-set d k s)) (λ j m. get_or-set_other d k j s 0 (omega arith)) φ i l r

pub slot-set : (d : List ℕ) (k s : ℕ) → k < length d → SlotIs (set d k s) k s
slot-set d k s h = record { within = omega (arith, length-set d k s); is = get_or-set_same d k s 0 h }

pub drafted_within : (d : List ℕ) (φ : Formula) (i : ℕ) → Drafted d φ i → i < length d
drafted_within d (const b) i r = r.within
drafted_within d (lit b p) i r = r.1.within
drafted_within d (un o a) i r = r.3.within
drafted_within d (bin o a b) i r = r.6.within
