-- What a slot stands for before it is stored, and slots that stay as they are.
use Prim.Native.Nat.{ℕ, suc, ◌+◌, ◌≤◌, ◌<◌}
use native.Mathlib.Omega.{arith}
use mathlib.Core.Path.{◌≡◌, refl, ◌∙◌}
use mathlib.Core.Bool.{cond}
use mathlib.Core.List.{List}
use lib.ListN.{length, get_or, set, length-set}
use lib.Seq.{get_or-set_other}
use Rattle.logic.specs.Formula.{Formula, const, lit, un, bin}
use Rattle.table.specs.Node.{unary_kind, binary_kind}
use Rattle.slots.specs.Slot.{pack}
use Rattle.drafts.specs.Drafted.{SlotIs, Drafted}
use Rattle.drafts.proofs.Drafts.{drafted_below, drafted-set, drafted_within, slot-set}
use Rattle.state_slots.specs.Slots.{three}

-- the slot s stands for a formula over the slots of d below n
abbrev pub Stands : List ℕ → ℕ → ℕ → Formula → Type 0
Stands d n s (const b) = s ≡ pack (cond b 2 1) 0 0
Stands d n s (lit b p) = (p < 16384) × (s ≡ pack (cond b 3 4) 0 p)
Stands d n s (un o a) = (m : ℕ) × (m < n) × Drafted d a m × (s ≡ pack (unary_kind o) 0 m)
Stands d n s (bin o a b) = (l : ℕ) × (r : ℕ) × (l < n) × (r < n) × Drafted d a l × Drafted d b r × (s ≡ pack (binary_kind o) l r)

-- e is as long as d, and has its slots below k
pub record Keeps (d e : List ℕ) (k : ℕ) : Type 0 where
  pub long : length e ≡ length d
  pub same : (i : ℕ) → i < k → get_or e i 0 ≡ get_or d i 0

pub keeps_all : (d : List ℕ) (k : ℕ) → Keeps d d k
keeps_all d k = record { long = refl; same = λ i h. refl }

pub keeps-set : {d e : List ℕ} {k : ℕ} (m s : ℕ) → k ≤ m → Keeps d e k → Keeps d (set e m s) k
keeps-set {d} {e} {k} m s h g = record { long = length-set e m s ∙ g.long; same = λ i l. get_or-set_other e m i s 0 (omega arith) ∙ g.same i l }

pub keeps-three : {d e : List ℕ} {k : ℕ} (i x y z : ℕ) → k ≤ i → Keeps d e k → Keeps d (three e i x y z) k
keeps-three i x y z h g = keeps-set (i + 2) z (omega arith) (keeps-set (i + 1) y (omega arith) (keeps-set i x h g))

pub drafted-keeps : {d e : List ℕ} {k : ℕ} → Keeps d e k → (φ : Formula) (i : ℕ) → i < k → Drafted d φ i → Drafted e φ i
drafted-keeps {d} {e} g φ i h r =
    drafted_below d e (suc i) (omega (arith, g.long, drafted_within d φ i r)) (λ j l. g.same j (omega arith)) φ i (omega arith) r

pub stands-keeps : {d e : List ℕ} {n : ℕ} → Keeps d e n → (φ : Formula) {m : ℕ} (s : ℕ) → m ≤ n → Stands d m s φ → Stands e n s φ
stands-keeps g (const b) s h r = r
stands-keeps g (lit b p) s h r = r
stands-keeps g (un o a) s h r = (r.0, omega (arith, r.1), drafted-keeps g a r.0 (omega (arith, r.1)) r.2, r.3)
stands-keeps g (bin o a b) s h r = (
  r.0,
  r.1,
  omega (arith, r.2),
  omega (arith, r.3),
  drafted-keeps g a r.0 (omega (arith, r.2)) r.4,
  drafted-keeps g b r.1 (omega (arith, r.3)) r.5,
  r.6,
)

-- stored, it does
pub stored-stands : (d : List ℕ) (k s : ℕ) → k < length d → (φ : Formula) → Stands d k s φ → Drafted (set d k s) φ k
stored-stands d k s h φ = go φ
  where
    slot : {x : ℕ} → s ≡ x → SlotIs (set d k s) k x
    slot e = record { within = (slot-set d k s h).within; is = (slot-set d k s h).is ∙ e }

    go : (φ : Formula) → Stands d k s φ → Drafted (set d k s) φ k
    go (const b) r = slot r
    go (lit b p) r = (r.0, slot r.1)
    go (un o a) r = (r.0, r.1, drafted-set d k s a r.0 h r.1 r.2, slot r.3)
    go (bin o a b) r = (r.0, r.1, r.2, r.3, drafted-set d k s a r.0 h r.2 r.4, drafted-set d k s b r.1 h r.3 r.5, slot r.6)

-- what a slot of the draft stands for, it stands for at another place too
pub copied-stands : (d : List ℕ) (n i : ℕ) → i ≤ n → (φ : Formula) → Drafted d φ i → Stands d n (get_or d i 0) φ
copied-stands d n i h (const b) r = r.is
copied-stands d n i h (lit b p) r = (r.0, r.1.is)
copied-stands d n i h (un o a) r = (r.0, omega (arith, r.1), r.2, r.3.is)
copied-stands d n i h (bin o a b) r = (r.0, r.1, omega (arith, r.2), omega (arith, r.3), r.4, r.5, r.6.is)

-- three slots, of which the last may stand over the others
module _ (d : List ℕ) (i x y z : ℕ) (φ ψ χ : Formula) (h : i + 2 < length d) (p : Stands d i x φ) (q : Stands d i y ψ) where
  abbrev one : List ℕ
  one = set d i x

  abbrev two : List ℕ
  two = set one (i + 1) y

  first_kept : Keeps d one i
  first_kept = keeps-set i x (omega arith) (keeps_all d i)

  pub first_drafted : Drafted two φ i
  first_drafted =
      drafted-keeps (keeps-set (i + 1) y (omega arith) (keeps_all one (i + 1))) φ i (omega arith) (stored-stands d i x (omega arith) φ p)

  pub second-drafted : Drafted two ψ (i + 1)
  second-drafted =
      stored-stands one (i + 1) y (omega (arith, length-set d i x)) ψ
      (stands-keeps (keeps_all one (i + 1)) ψ y (omega arith) (stands-keeps first_kept ψ y (omega arith) q))

  pub three-drafted : Stands two (i + 2) z χ
      → Drafted (three d i x y z) φ i × Drafted (three d i x y z) ψ (i + 1) × Drafted (three d i x y z) χ (i + 2)
  three-drafted r =
      let g = keeps-set (i + 2) z (omega arith) (keeps_all two (i + 2)) in (
        drafted-keeps g φ i (omega arith) first_drafted,
        drafted-keeps g ψ (i + 1) (omega arith) second-drafted,
        stored-stands two (i + 2) z (omega (arith, length-set d i x, length-set one (i + 1) y)) χ r,
      )

  -- where it does not
  pub apart-drafted : Stands d i z χ → Drafted (three d i x y z) φ i × Drafted (three d i x y z) ψ (i + 1) × Drafted (three d i x y z) χ (i + 2)
  apart-drafted r =
      three-drafted (stands-keeps (keeps_all two (i + 2)) χ z (omega arith) (stands-keeps (keeps-set (i + 1) y (omega arith) first_kept) χ z (omega arith) r))
