-- The orders of the normal form that documents 01 and 02, N7 fix, each computed: of choices, of a part's conjuncts, of the parts.
use Prim.Native.Nat.{ℕ}
use mathlib.Core.Path.{◌≡◌, refl}
use mathlib.Core.Bool.{true, false, decide}
use mathlib.Core.List.{List, [], ◌∷◌}
use native.Mathlib.Decide.{ℕ_discrete}
use lib.Count.{ones, ones_in}
use Rattle.logic.specs.Formula.{Formula, const, lit, bin, conj, disj, until, weak, release, strong, F, G, same}
use Rattle.transforms.specs.Rewriting.{steady, recurring, opening}
use Rattle.transforms.specs.NormalForm.{chosen, least_of, greatest_of, part, choices_of, choices, normal_form}

-- choices among two: none, that of the higher number, that of the lower, both
two_choices : choices 2 ≡ 0 ∷ 2 ∷ 1 ∷ 3 ∷ []
unfolding choices choices_of ones ones_in
two_choices = refl

-- false W (true M p1), and its until-like words in their order
abbrev inner : Formula
inner = bin strong (const true) (lit true 1)

abbrev outer : Formula
outer = bin weak (const false) inner

abbrev words : List Formula
words = inner ∷ outer ∷ []

-- the part with both chosen: the opening form, GF of the recurring form, FG of the steady form, joined from the left
part_of_both : part words outer 3
    ≡ bin conj (bin conj (bin until (const false) (bin disj inner (G (const false)))) (G (F inner))) (F (G (bin weak (const false) (bin release (const true) (lit true 1)))))
unfolding part chosen least_of greatest_of steady recurring opening same decide ℕ_discrete
part_of_both = refl

-- the form: the parts in the order of the choices, joined from the left
form_of-parts : normal_form words outer ≡ bin disj (bin disj (bin disj (part words outer 0) (part words outer 2)) (part words outer 1)) (part words outer 3)
unfolding normal_form choices choices_of ones ones_in
form_of-parts = refl
