-- The slots of a word's states, by whether it is in each of the classes.
use Prim.Native.Nat.{ℕ, ◌+◌, ◌<◌}
use native.Mathlib.Omega.{arith}
use mathlib.Core.Path.{◌≡◌, refl}
use mathlib.Core.Bool.{Bool, true, false, cond}
use mathlib.Core.List.{List}
use lib.ListN.{length}
use Rattle.std.specs.Prelude.{Some}
use Rattle.std.specs.Bool.{then_some}
use Rattle.std.specs.Option.{option_and}
use Rattle.logic.specs.Formula.{Formula, const, bin, disj}
use Rattle.slots.specs.Slot.{pack}
use Rattle.drafts.specs.Drafted.{Drafted}
use Rattle.state_slots.specs.Slots.{state_slot, class_slots}
use Rattle.state_slots.proofs.Standing.{Stands, first_drafted, second-drafted, three-drafted, apart-drafted}

-- the formula of a class that holds the word, and of those that there are
abbrev pub given : Bool → Formula → Formula
given b φ = cond b φ (const false)

abbrev pub joined : (first second third : Bool) → (φ ψ χ : Formula) → Formula
joined first second third φ ψ χ = cond first (cond second (bin disj φ ψ) φ) (cond second ψ (given third χ))

-- the formulas at the slots i, i + 1 and i + 2
pub record Classed (e : List ℕ) (i : ℕ) (first second third : Bool) (φ ψ χ : Formula) : Type 0 where
  pub one : Drafted e (given first φ) i
  pub two : Drafted e (given second ψ) (i + 1)
  pub three : Drafted e (joined first second third φ ψ χ) (i + 2)

-- what is made of a number that is given, and a slot in its place
pub given_state : (b : Bool) (n : ℕ) → state_slot (then_some b n) ≡ then_some b (pack 3 0 n)
given_state true n = refl
given_state false n = refl

pub given_other : (b : Bool) (n x : ℕ) → option_and (then_some b n) (Some x) ≡ then_some b x
given_other true n x = refl
given_other false n x = refl

pub classed : (d : List ℕ) (i : ℕ) (first second third : Bool) (x y z : ℕ) (φ ψ χ : Formula) → i + 2 < length d
    → (first ≡ true → Stands d i x φ) → (second ≡ true → Stands d i y ψ) → (first ≡ false → second ≡ false → third ≡ true → Stands d i z χ)
    → Classed (class_slots d i (then_some first x) (then_some second y) (then_some third z)) i first second third φ ψ χ
classed d i true true c x y z φ ψ χ h p q r =
    let one = first_drafted d i x y 0 φ ψ χ h (p refl) (q refl) in
    let two = second-drafted d i x y 0 φ ψ χ h (p refl) (q refl) in
    let k = three-drafted d i x y _ φ ψ (bin disj φ ψ) h (p refl) (q refl) (i, i + 1, omega arith, omega arith, one, two, refl) in
    record { one = k.0; two = k.1; three = k.2 }
classed d i true false c x y z φ ψ χ h p q r =
    let k = apart-drafted d i x _ x φ (const false) φ h (p refl) refl (p refl) in
    record { one = k.0; two = k.1; three = k.2 }
classed d i false true c x y z φ ψ χ h p q r =
    let k = apart-drafted d i _ y y (const false) ψ ψ h refl (q refl) (q refl) in
    record { one = k.0; two = k.1; three = k.2 }
classed d i false false true x y z φ ψ χ h p q r =
    let k = apart-drafted d i _ _ z (const false) (const false) χ h refl refl (r refl refl refl) in
    record { one = k.0; two = k.1; three = k.2 }
classed d i false false false x y z φ ψ χ h p q r =
    let k = apart-drafted d i _ _ _ (const false) (const false) (const false) h refl refl refl in
    record { one = k.0; two = k.1; three = k.2 }
