-- The normal form of source 002, Theorem 23, in the order of documents 01 and 02: choices, their parts, and the form.
use Rattle.std.specs.Prelude.{ℕ, zero, suc, ◌/◌, ◌%◌, ◌^◌, Bool, false, ◌||◌, cond, length, eqb}
use mathlib.Core.List.{List, [], ◌∷◌, ◌++◌, map, foldl}
use Rattle.std.specs.Int.Count.{ones}
use Rattle.logic.specs.Formula.{Formula, const, lit, un, bin, conj, disj, is_least_op, is_greatest_op, F, G, same}
use Rattle.transforms.specs.Rewriting.{steady, recurring, opening}

-- formulas whose operator is a least or a greatest fixpoint
abbrev pub is_least : Formula → Bool
is_least (const b) = false
is_least (lit b n) = false
is_least (un o a) = false
is_least (bin o a b) = is_least_op o

abbrev pub is_greatest : Formula → Bool
is_greatest (const b) = false
is_greatest (lit b n) = false
is_greatest (un o a) = false
is_greatest (bin o a b) = is_greatest_op o

abbrev pub is_fixpoint : Formula → Bool
is_fixpoint φ = is_least φ || is_greatest φ

-- the elements that pass a test, in their order
abbrev pub keep {ℓ} : {A : Type ℓ} → (A → Bool) → List A → List A
keep p [] = []
keep p (a ∷ l) = cond (p a) (a ∷ keep p l) (keep p l)

abbrev pub member : List Formula → Formula → Bool
member [] φ = false
member (ψ ∷ ψs) φ = same ψ φ || member ψs φ

-- the chosen ones of the numbered fixpoint formulas: the one of bit b is chosen if bit b of the choice is 1
unfoldable pub chosen : List Formula → ℕ → List Formula
chosen [] c = []
chosen (ψ ∷ ψs) c = cond (eqb (c % 2) 1) (ψ ∷ chosen ψs (c / 2)) (chosen ψs (c / 2))

-- M and N of a choice
unfoldable pub least_of : List Formula → ℕ → List Formula
least_of ψs c = keep is_least (chosen ψs c)

unfoldable pub greatest_of : List Formula → ℕ → List Formula
greatest_of ψs c = keep is_greatest (chosen ψs c)

-- the opening form of the rule, and GF of the recurring form of each M member, and FG of the steady form of each N member
unfoldable pub part : List Formula → Formula → ℕ → Formula
part ψs φ c =
    foldl (bin conj) (opening (member (least_of ψs c)) φ)
    (map (λ ψ. G (F (recurring (member (greatest_of ψs c)) ψ))) (least_of ψs c)
    ++ map (λ ψ. F (G (steady (member (least_of ψs c)) ψ))) (greatest_of ψs c))

-- the numbers from a on, n of them
abbrev pub from : ℕ → ℕ → List ℕ
from a zero = []
from a (suc n) = a ∷ from (suc a) n

-- the numbers below n, the highest first
abbrev pub below : ℕ → List ℕ
below zero = []
below (suc n) = n ∷ below n

-- the choices of a list with a given number of chosen ones
abbrev pub chosen_in : List ℕ → ℕ → List ℕ
chosen_in cs n = keep (λ c. eqb (ones c) n) cs

-- the choices among k fixpoint formulas with a given number of chosen ones, higher numbers first
unfoldable pub choices_of : ℕ → ℕ → List ℕ
choices_of k n = chosen_in (below (2 ^ k)) n

abbrev pub join_all {ℓ} : {A : Type ℓ} → List (List A) → List A
join_all [] = []
join_all (l ∷ ls) = l ++ join_all ls

-- fewer chosen ones first, equal counts by higher number (document 02, N7)
unfoldable pub choices : ℕ → List ℕ
choices k = join_all (map (choices_of k) (from 0 (suc k)))

-- a disjunction from the left; there is always a choice, so the empty one is never used
abbrev pub disjoin : List Formula → Formula
disjoin [] = const false
disjoin (φ ∷ φs) = foldl (bin disj) φ φs

-- the normal form of φ, whose fixpoint formulas are numbered as listed
unfoldable pub normal_form : List Formula → Formula → Formula
normal_form ψs φ = disjoin (map (part ψs φ) (choices (length ψs)))
