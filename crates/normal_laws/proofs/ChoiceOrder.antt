-- The order of the choices: fewer chosen words first, equal counts by higher number. The empty choice is the first.
use Prim.Native.Nat.{ℕ, zero, suc, ◌+◌, ◌/◌, ◌%◌, ◌^◌, ◌≤◌, ◌<◌}
use native.Mathlib.Omega.{arith}
use native.Mathlib.Decide.{ℕ_discrete}
use mathlib.Core.Path.{◌≡◌, refl, sym, ap}
use mathlib.Core.List.{List, [], ◌∷◌, ◌++◌, map, foldl}
use lib.ListN.{length}
use lib.Count.{ones, ones_step}
use lib.Pow.{pow_pos}
use borrow.Author.Tests.{ne_eqb}
use Rattle.logic.specs.Formula.{Formula, bin, disj}
use Rattle.transforms.specs.NormalForm.{chosen_in, from, below, join_all, choices_of, choices, disjoin, part, normal_form}
use Rattle.table.specs.Table.{rule}
use Rattle.table.specs.Steps.{fixpoints}

-- a formula, or the parts of choices, joined from the left
abbrev pub disjoined : List ℕ → List ℕ → Formula → Formula
disjoined t cs φ = foldl (bin disj) φ (map (part (fixpoints t) (rule t)) cs)

-- the choices below a limit with so many chosen words
abbrev pub choices_below : ℕ → ℕ → List ℕ
choices_below limit n = chosen_in (below limit) n

-- a number that is not 0 has a one
ones-positive : (n c : ℕ) → c ≤ n → 0 < c → 0 < ones c
ones-positive zero c h p = absurd (omega arith)
ones-positive (suc n) c h p = go (ℕ_discrete (c % 2) 0) (ones-positive n (c / 2) (omega arith))
  where
    go : Dec (c % 2 ≡ 0) → (0 < c / 2 → 0 < ones (c / 2)) → 0 < ones c
    go (yes e) r = omega (arith, ones_step c, r (omega arith))
    go (no e) r = omega (arith, ones_step c, e)

empty_first : (n : ℕ) → choices_below (suc n) 0 ≡ 0 ∷ []
unfolding ones
empty_first zero = refl
empty_first (suc n) = rw (ne_eqb (ones (suc n)) 0 (λ e. omega (arith, ones-positive (suc n) (suc n) (omega arith) (omega arith)))) (empty_first n)

-- the choices with one chosen word up to n of them
abbrev pub up_to : ℕ → ℕ → List ℕ
up_to k n = join_all (map (choices_of k) (from 1 n))

pub choices_first : (k : ℕ) → choices k ≡ 0 ∷ up_to k k
unfolding choices choices_of
choices_first k = ap (λ (l : List ℕ). l ++ up_to k k) (some (2 ^ k) (pow_pos k))
  where
    some : (n : ℕ) → 0 < n → choices_below n 0 ≡ 0 ∷ []
    some zero h = absurd (omega arith)
    some (suc n) h = empty_first n

-- the form: the part of the empty choice, and those of all others
pub normal_form-disjoined : (t : List ℕ) → disjoined t (up_to (length (fixpoints t)) (length (fixpoints t))) (part (fixpoints t) (rule t) 0) ≡ normal_form (fixpoints t) (rule t)
unfolding normal_form
normal_form-disjoined t = sym (ap (λ (cs : List ℕ). disjoin (map (part (fixpoints t) (rule t)) cs)) (choices_first (length (fixpoints t))))
