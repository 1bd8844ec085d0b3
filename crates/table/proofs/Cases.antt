-- One law for the starred cases: each row has a test that antt computes, and a test that passes makes its row right.
use Prim.Native.Nat.{ℕ, zero, suc, ◌+◌, ◌<◌}
use mathlib.Core.Path.{◌≡◌, refl, ap₂}
use mathlib.Core.Bool.{Bool, true, false, ◌&&◌, beq, decide}
use mathlib.Core.List.{List, [], ◌∷◌}
use mathlib.Core.Logic.Iff
use mathlib.Core.Logic.{◌↔◌}
use native.Mathlib.Nat.{add-zero, zero-add}
use native.Mathlib.Decide.{ℕ_discrete}
use native.Mathlib.Omega.{arith}
use lib.ListN.{length, get_or}
use lib.Dec.{T, eqb, eqb→eq}
use lib.Count.{ones, ones_in}
use Rattle.logic.specs.Formula.{same}
use Rattle.logic.specs.Bit.{bit}
use Rattle.logic.specs.Lasso.{word, place, letter_in}
use Rattle.logic.specs.ClassByte.{class_byte}
use Rattle.logic.specs.NegationNormalForm as negation
use Rattle.transforms.specs.Rewriting.{steady, recurring, opening}
use Rattle.transforms.specs.NormalForm.{normal_form, choices, choices_of, part, chosen, least_of, greatest_of}
use Rattle.transforms.specs.Folding.{fold, fold_unary, fold_binary}
use Rattle.logic.specs.Truth.{truth, sweep}
use Rattle.logic.proofs.Tests.{T_and, T-beq, all_pass, pass_at}
use Rattle.logic.proofs.Lasso.Truth.{truth-holds}
use Rattle.table.specs.Node.{kind, left, right, pack, shape}
use Rattle.refusals.specs.Refusals.{Outcome}
use Rattle.std.specs.Prelude.{Ok, Err}
use Rattle.refusals.specs.Refusals.{number_of, place_of, first}
use Rattle.table.specs.Table.{formula_of, word_formula, formulas_after, formulas, rule}
use Rattle.table.specs.Checks.{occurs, word_checks, words_checks, uses, used, use_checks}
use Rattle.table.specs.StepChecks.{limit_checks, fixpoint_checks}
use Rattle.table.specs.Header.{is_written, class_of, header_of, headed, body, is_misheaded, headed_checks, headed_checked}
use Rattle.table.specs.Numbering.{find_from, find, put, build, table_of}
use Rattle.table.specs.Steps.{plain_table, fixpoints, is_normal, normal_table, form_table}
use Rattle.table.specs.Cases.{Case, form, normal, plain, refused, refused_by, class, judged, IsRefusal, Right, starred}

same_list : List ℕ → List ℕ → Bool
same_list [] [] = true
same_list [] (y ∷ ys) = false
same_list (x ∷ xs) [] = false
same_list (x ∷ xs) (y ∷ ys) = eqb x y && same_list xs ys

same_list_lem : (xs ys : List ℕ) → T (same_list xs ys) → xs ≡ ys
unfolding same_list
same_list_lem [] [] h = refl
same_list_lem [] (y ∷ ys) h = absurd h
same_list_lem (x ∷ xs) [] h = absurd h
same_list_lem (x ∷ xs) (y ∷ ys) h = ap₂ ◌∷◌ (eqb→eq x y ((T_and (eqb x y) (same_list xs ys)).0 h).0) (same_list_lem xs ys ((T_and (eqb x y) (same_list xs ys)).0 h).1)

is_refusal : Outcome → ℕ → ℕ → Bool
is_refusal (Ok tt) n p = false
is_refusal (Err r) n p = eqb (number_of r) n && eqb (place_of r) p

is_refusal_lem : (o : Outcome) (n p : ℕ) → T (is_refusal o n p) → IsRefusal o n p
unfolding is_refusal
is_refusal_lem (Ok tt) n p h = h
is_refusal_lem (Err r) n p h = (eqb→eq _ _ ((T_and (eqb (number_of r) n) _).0 h).0, eqb→eq _ _ ((T_and (eqb (number_of r) n) _).0 h).1)

is_accepted : Outcome → Bool
is_accepted (Ok tt) = true
is_accepted (Err r) = false

-- a table that is accepted, and the rest of its row
both_pass : (o : Outcome) (b : Bool) {P : Type 0} → (T b → P) → T (is_accepted o && b) → (o ≡ Ok tt) × P
unfolding is_accepted
both_pass (Ok tt) b f h = (refl, f h)
both_pass (Err r) b f h = absurd h

-- a sequence begins, from k on, with the listed values
matches : (ℕ → Bool) → ℕ → List Bool → Bool
matches f k [] = true
matches f k (b ∷ bs) = beq b (f k) && matches f (suc k) bs

match_at : (f : ℕ → Bool) (k : ℕ) (bs : List Bool) → T (matches f k bs) → (i : ℕ) → i < length bs → T (f (k + i)) ↔ T (get_or bs i false)
unfolding matches
match_at f k [] h i l = absurd (omega arith)
match_at f k (b ∷ bs) h zero l = rw (add-zero, (T-beq b (f k)).0 ((T_and (beq b (f k)) (matches f (suc k) bs)).0 h).0) Iff.rfl
match_at f k (b ∷ bs) h (suc i) l = let e : k + suc i ≡ suc k + i = omega arith in rw e (match_at f (suc k) bs ((T_and (beq b (f k)) (matches f (suc k) bs)).0 h).1 i (omega arith))

-- the test of a row
test : Case → Bool
test (form t u) = is_accepted (headed_checked true 16383 t) && same_list (headed (form_table (body t))) u
test (normal t u) = is_accepted (headed_checked true 16383 t) && same_list (headed (normal_table (body t))) u
test (plain t u) = is_accepted (headed_checked false 64 t) && same_list (headed (plain_table (body t))) u
test (refused t n p) = is_refusal (headed_checked false 64 t) n p
test (refused_by s t n p) = is_refusal (first (s.checks t)) n p
test (class t b) = is_accepted (headed_checked true 16383 t) && eqb (class_byte (rule (body t))) b
test (judged t r bs) = is_accepted (headed_checked false 16383 t) && matches (truth r (rule (body t))) 0 bs

test_right : (c : Case) → T (test c) → Right c
unfolding test
test_right (form t u) h = both_pass (headed_checked true 16383 t) _ (same_list_lem (headed (form_table (body t))) u) h
test_right (normal t u) h = both_pass (headed_checked true 16383 t) _ (same_list_lem (headed (normal_table (body t))) u) h
test_right (plain t u) h = both_pass (headed_checked false 64 t) _ (same_list_lem (headed (plain_table (body t))) u) h
test_right (refused t n p) h = is_refusal_lem (headed_checked false 64 t) n p h
test_right (refused_by s t n p) h = is_refusal_lem (first (s.checks t)) n p h
test_right (class t b) h = both_pass (headed_checked true 16383 t) _ (eqb→eq (class_byte (rule (body t))) b) h
test_right (judged t r bs) h = both_pass (headed_checked false 16383 t) _
    (λ m i l. Iff.trans (Iff.symm (truth-holds r (rule (body t)) i)) (rw zero-add at (match_at (truth r (rule (body t))) 0 bs m i l))) h

all_pass_lem : T (all_pass test starred)
unfolding all_pass test same_list is_refusal is_accepted matches is_normal form_table normal_table plain_table fixpoints rule formulas formulas_after formula_of word_formula kind left right pack shape table_of build put find find_from normal_form choices choices_of part chosen least_of greatest_of steady recurring opening fold fold_unary fold_binary same ones ones_in negation.plain class_byte is_written class_of header_of is_misheaded headed_checked headed_checks words_checks word_checks use_checks limit_checks fixpoint_checks uses used occurs truth sweep word place letter_in bit decide ℕ_discrete
all_pass_lem = tt

-- every starred case holds
pub starred_right : (i : ℕ) → i < length starred → (d : Case) → Right (get_or starred i d)
starred_right = pass_at test Right test_right starred all_pass_lem
