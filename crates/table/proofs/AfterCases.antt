-- The step by a sample, by hand: p1 U p2 after {p1}, {p2} and {}, and F G p1 after {p1}; and the order of its checks.
use Prim.Native.Nat.{ℕ}
use mathlib.Core.Path.{◌≡◌, refl}
use mathlib.Core.List.{List, [], ◌∷◌}
use Rattle.logic.specs.Bit.{bit}
use Rattle.logic.specs.Lasso.{letter_in}
use Rattle.transforms.specs.Folding.{fold, fold_unary, fold_binary}
use Rattle.transforms.specs.After.{after}
use Rattle.refusals.specs.declared.Refusal.TheVariants.{LetterNotDriven, TooManyDriven}
use Rattle.std.specs.Prelude.{Err}
use Rattle.refusals.specs.Refusals.{first}
use Rattle.table.specs.Node.{kind, left, right, pack, shape}
use Rattle.table.specs.Table.{formula_of, word_formula, formulas_after, formulas, rule}
use Rattle.table.specs.StepChecks.{driven_checks, letter_checks, sample_checks}
use Rattle.table.specs.Numbering.{find_from, find, put, build, table_of}
use Rattle.table.specs.Steps.{after_table}

abbrev reach : List ℕ
reach = 0x30000001 ∷ 0x30000002 ∷ 0x80004002 ∷ []

on : after_table 1 reach ≡ reach
unfolding after_table rule formulas formulas_after word_formula formula_of kind left right shape after letter_in bit fold fold_unary fold_binary table_of build put find find_from pack
on = refl

reached : after_table 2 reach ≡ 0x20000000 ∷ []
unfolding after_table rule formulas formulas_after word_formula formula_of kind left right shape after letter_in bit fold fold_unary fold_binary table_of build put find find_from pack
reached = refl

missed : after_table 0 reach ≡ 0x10000000 ∷ []
unfolding after_table rule formulas formulas_after word_formula formula_of kind left right shape after letter_in bit fold fold_unary fold_binary table_of build put find find_from pack
missed = refl

-- G p1 or F G p1
steady : after_table 1 (0x20000000 ∷ 0x10000000 ∷ 0x30000001 ∷ 0xA0008003 ∷ 0x80004004 ∷ [])
    ≡ 0x10000000 ∷ 0x30000001 ∷ 0xA0004002 ∷ 0x20000000 ∷ 0x80010003 ∷ 0x6000C005 ∷ []
unfolding after_table rule formulas formulas_after word_formula formula_of kind left right shape after letter_in bit fold fold_unary fold_binary table_of build put find find_from pack
steady = refl

-- 22 before 21, which is at the lowest word that names a letter that is not driven
both : first (sample_checks 33 (0x30000022 ∷ [])) ≡ Err TooManyDriven
unfolding driven_checks
both = refl

lowest : first (sample_checks 1 reach) ≡ Err (LetterNotDriven 2)
unfolding driven_checks letter_checks kind right shape
lowest = refl
