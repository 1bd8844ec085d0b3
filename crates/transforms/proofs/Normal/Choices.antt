-- Every subset of the numbered fixpoint formulas is a choice, and every choice among k has its place in `choices k`.
use Prim.Native.Nat.{ℕ, suc, ◌+◌, ◌*◌, ◌/◌, ◌%◌, ◌^◌, ◌<◌}
use native.Mathlib.Omega.{arith}
use mathlib.Core.Path.{◌≡◌, refl, ap}
use mathlib.Core.Bool.{Bool, true, false, cond}
use mathlib.Core.List.Memᴰ
use mathlib.Core.List.{List, [], ◌∷◌, Memᴰ}
use lib.ListN.{length}
use lib.Count.{ones, ones-le}
use lib.Dec.{eqb, eqb_refl}
use Rattle.logic.specs.Formula.{Formula}
use Rattle.transforms.specs.NormalForm.{keep, chosen, choices_of, choices}
use Rattle.transforms.proofs.Normal.Membership.{keep_mem, mem_join_all, mem_from, mem_below}

-- the choice of the formulas that pass a test
pub choice_by : (Formula → Bool) → List Formula → ℕ
choice_by p [] = 0
choice_by p (ψ ∷ ψs) = cond (p ψ) 1 0 + 2 * choice_by p ψs

-- one digit put below the others
odd : (c : ℕ) → (1 + 2 * c) % 2 ≡ 1
odd c = omega arith

even : (c : ℕ) → (0 + 2 * c) % 2 ≡ 0
even c = omega arith

low_digit : (b : Bool) (c : ℕ) → eqb ((cond b 1 0 + 2 * c) % 2) 1 ≡ b
low_digit true c = ap (λ d. eqb d 1) (odd c)
low_digit false c = ap (λ d. eqb d 1) (even c)

high-digits : (b : Bool) (c : ℕ) → (cond b 1 0 + 2 * c) / 2 ≡ c
high-digits true c = omega arith
high-digits false c = omega arith

below_double : (b : Bool) (c k : ℕ) → c < 2 ^ k → cond b 1 0 + 2 * c < 2 ^ suc k
below_double true c k h = omega arith
below_double false c k h = omega arith

pub chosen_by : (p : Formula → Bool) (ψs : List Formula) → chosen ψs (choice_by p ψs) ≡ keep p ψs
unfolding choice_by chosen
chosen_by p [] = refl
chosen_by p (ψ ∷ ψs) = rw (low_digit (p ψ) (choice_by p ψs), high-digits (p ψ) (choice_by p ψs), chosen_by p ψs)

pub choice_below : (p : Formula → Bool) (ψs : List Formula) → choice_by p ψs < 2 ^ length ψs
unfolding choice_by
choice_below p [] = omega arith
choice_below p (ψ ∷ ψs) =
    below_double (p ψ) (choice_by p ψs) (length ψs) (choice_below p ψs)

pub mem_choices : (k c : ℕ) → c < 2 ^ k → Memᴰ c (choices k)
unfolding choices choices_of
mem_choices k c h =
    mem_join_all (keep_mem (λ d. eqb (ones d) (ones c)) (eqb_refl (ones c)) (mem_below (2 ^ k) c h))
    (Memᴰ.map (choices_of k) (mem_from 0 (suc k) (ones c) (omega arith) (omega (arith, ones-le k c h))))
