-- Where the part of any choice folds to true, so does the opening form by all least fixpoints: whether a formula folds to true depends only on which
-- of its operands do, and a form by more chosen formulas has no fewer that do.
use Prim.Native.Nat.{ℕ, suc, ◌-◌, ◌/◌, ◌%◌, ◌^◌}
use native.Mathlib.Omega.{arith}
use mathlib.Core.Path.{◌≡◌, refl, ap, subst, sym, ◌∙◌}
use mathlib.Core.Bool.{Bool, true, false, ◌&&◌, ◌||◌, cond, beq}
use mathlib.Core.Logic.{⊎_map}
use mathlib.Core.List.{List, [], ◌∷◌, ◌++◌, foldl}
use lib.ListN.{length}
use lib.Dec.{T}
use lib.Pow.{pow_pos}
use Rattle.logic.specs.Formula.{Formula, Unary, Binary, const, lit, un, bin, next, neg, finally, globally, conj, disj, until, weak, release, strong, implies}
use Rattle.transforms.specs.Rewriting.{steady_op, steady, opening_op, opening}
use Rattle.transforms.specs.NormalForm.{is_least, member, chosen, least_of, part}
use Rattle.transforms.specs.Folding as folding
use Rattle.transforms.specs.Folding.{Fold, stands, on_left, on_right, on_operand, by_constant, or_else, pick, fold_unary, fold_binary, fold}
use Rattle.logic.proofs.Tests.{T_and, T_or, T-beq}
use Rattle.transforms.proofs.Normal.Membership.{mem_of_member, member_of_mem, keep_mem}
use Rattle.transforms.proofs.Normal.Parts.{infinitelies, almosts, mem_least_of}

-- what folding asks of an operand: which constant it is, if it is one
data Known : Type 0 where
  constant : Bool → Known
  unknown : Known

abbrev known : Formula → Known
known (const c) = constant c
known (lit b n) = unknown
known (un o a) = unknown
known (bin o a b) = unknown

abbrev by_known : (Bool → Fold) → Known → Fold
by_known f (constant c) = f c
by_known f unknown = stands

abbrev is_true : Known → Bool
is_true (constant c) = c
is_true unknown = false

by_known_lem : (f : Bool → Fold) (a : Formula) → by_constant f a ≡ by_known f (known a)
by_known_lem f (const c) = refl
by_known_lem f (lit b n) = refl
by_known_lem f (un o a) = refl
by_known_lem f (bin o a b) = refl

true-picked : (f : Fold) (a b w : Formula) → is_true (known (pick f a b w)) ≡ pick f (is_true (known a)) (is_true (known b)) (is_true (known w))
true-picked folding.left a b w = refl
true-picked folding.right a b w = refl
true-picked stands a b w = refl

true-constant : (a : Formula) → T (is_true (known a)) → a ≡ const true
true-constant (const true) t = refl
true-constant (const false) t = absurd t
true-constant (lit b n) t = absurd t
true-constant (un o a) t = absurd t
true-constant (bin o a b) t = absurd t

-- a test passed by each
abbrev all_known : (Known → Bool) → Bool
all_known p = p (constant true) && (p (constant false) && p unknown)

at_known : (p : Known → Bool) → T (all_known p) → (x : Known) → T (p x)
at_known p t x = go x ((T_and (p (constant true)) (p (constant false) && p unknown)).0 t)
  where
    go : (x : Known) → T (p (constant true)) × T (p (constant false) && p unknown) → T (p x)
    go (constant true) s = s.0
    go (constant false) s = ((T_and (p (constant false)) (p unknown)).0 s.1).0
    go unknown s = ((T_and (p (constant false)) (p unknown)).0 s.1).1

-- whether a word folds to true, by whether its operands do
abbrev certain_unary : Unary → Bool → Bool
certain_unary next a = a
certain_unary neg a = false
certain_unary finally a = false
certain_unary globally a = false

abbrev certain_binary : Binary → Bool → Bool → Bool
certain_binary conj a b = a && b
certain_binary disj a b = a || b
certain_binary until a b = b
certain_binary weak a b = a || b
certain_binary release a b = b
certain_binary strong a b = a && b
certain_binary implies a b = false

-- whether a formula folds to true
unfoldable is_certain : Formula → Bool
is_certain (const b) = b
is_certain (lit b n) = false
is_certain (un o a) = certain_unary o (is_certain a)
is_certain (bin o a b) = certain_binary o (is_certain a) (is_certain b)

-- so it does: computed for each word over operands of each kind
abbrev test_unary : Unary → Known → Bool
test_unary o x = beq (certain_unary o (is_true x)) (pick (by_known (on_operand o) x) (is_true x) (is_true x) false)

abbrev test_binary : Binary → Known → Known → Bool
test_binary o x y =
    beq (certain_binary o (is_true x) (is_true y)) (pick (or_else (by_known (on_left o) x) (by_known (on_right o) y)) (is_true x) (is_true y) false)

unary_tested : (o : Unary) → T (all_known (test_unary o))
unary_tested next = tt
unary_tested neg = tt
unary_tested finally = tt
unary_tested globally = tt

binary_tested : (o : Binary) → T (all_known (λ x. all_known (test_binary o x)))
binary_tested conj = tt
binary_tested disj = tt
binary_tested until = tt
binary_tested weak = tt
binary_tested release = tt
binary_tested strong = tt
binary_tested implies = tt

unary_certain : (o : Unary) (a : Formula) → is_true (known (fold_unary o a)) ≡ certain_unary o (is_true (known a))
unfolding fold_unary
unary_certain o a =
    let x = known a in
    rw (by_known_lem (on_operand o) a, true-picked (by_known (on_operand o) x) a a (un o a)) ((T-beq _ _).0 (at_known (test_unary o) (unary_tested o) x))

binary_certain : (o : Binary) (a b : Formula) → is_true (known (fold_binary o a b)) ≡ certain_binary o (is_true (known a)) (is_true (known b))
unfolding fold_binary
binary_certain o a b =
    let x = known a in
    let y = known b in
    rw (by_known_lem (on_left o) a, by_known_lem (on_right o) b, true-picked (or_else (by_known (on_left o) x) (by_known (on_right o) y)) a b (bin o a b))
    ((T-beq _ _).0 (at_known (test_binary o x) (at_known (λ z. all_known (test_binary o z)) (binary_tested o) x) y))

fold_certain : (φ : Formula) → is_true (known (fold φ)) ≡ is_certain φ
unfolding fold is_certain
fold_certain (const b) = refl
fold_certain (lit b n) = refl
fold_certain (un o a) = rw (unary_certain, fold_certain a)
fold_certain (bin o a b) = rw (binary_certain, fold_certain a, fold_certain b)

certain_true : (φ : Formula) → T (is_certain φ) → fold φ ≡ const true
certain_true φ t = true-constant (fold φ) (subst T (sym (fold_certain φ)) t)

true_certain : (φ : Formula) → fold φ ≡ const true → T (is_certain φ)
true_certain φ e = subst T (sym (ap (λ a. is_true (known a)) e) ∙ fold_certain φ) tt

-- the second folds to true if the first does
record NoLess (φ χ : Formula) : Type 0 where
  so : T (is_certain φ) → T (is_certain χ)

unchanged : {φ : Formula} → NoLess φ φ
unchanged = record { so = λ t. t }

and_more : {a b a₁ b₁ : Formula} → NoLess a a₁ → NoLess b b₁ → T (is_certain a && is_certain b) → T (is_certain a₁ && is_certain b₁)
and_more {a} {b} {a₁} {b₁} f g t = let s = (T_and (is_certain a) (is_certain b)).0 t in (T_and (is_certain a₁) (is_certain b₁)).1 (f.so s.0, g.so s.1)

or_more : {a b a₁ b₁ : Formula} → NoLess a a₁ → NoLess b b₁ → T (is_certain a || is_certain b) → T (is_certain a₁ || is_certain b₁)
or_more {a} {b} {a₁} {b₁} f g t = (T_or (is_certain a₁) (is_certain b₁)).1 (⊎_map f.so g.so ((T_or (is_certain a) (is_certain b)).0 t))

-- this passes from the operands to the word
unary_more : (o : Unary) {a a₁ : Formula} → NoLess a a₁ → NoLess (un o a) (un o a₁)
unfolding is_certain
unary_more next f = record { so = f.so }
unary_more neg f = record { so = absurd }
unary_more finally f = record { so = absurd }
unary_more globally f = record { so = absurd }

binary_more : (o : Binary) {a b a₁ b₁ : Formula} → NoLess a a₁ → NoLess b b₁ → NoLess (bin o a b) (bin o a₁ b₁)
unfolding is_certain
binary_more conj f g = record { so = and_more f g }
binary_more disj f g = record { so = or_more f g }
binary_more until f g = record { so = g.so }
binary_more weak f g = record { so = or_more f g }
binary_more release f g = record { so = g.so }
binary_more strong f g = record { so = and_more f g }
binary_more implies f g = record { so = absurd }

-- and to the forms by more chosen formulas
chosen_more : (m m₁ : Bool) {a a₁ : Formula} → (T m → T m₁) → NoLess a a₁ → NoLess (cond m a (const false)) (cond m₁ a₁ (const false))
unfolding is_certain
chosen_more true true h f = f
chosen_more true false h f = absurd (h tt)
chosen_more false m₁ h f = record { so = absurd }

steady_op_more : (m m₁ : Bool) (o : Binary) {a b a₁ b₁ : Formula} → (T m → T m₁) → NoLess a a₁ → NoLess b b₁
    → NoLess (steady_op m o a b) (steady_op m₁ o a₁ b₁)
steady_op_more m m₁ conj h f g = binary_more conj f g
steady_op_more m m₁ disj h f g = binary_more disj f g
steady_op_more m m₁ until h f g = chosen_more m m₁ h (binary_more weak f g)
steady_op_more m m₁ weak h f g = binary_more weak f g
steady_op_more m m₁ release h f g = binary_more release f g
steady_op_more m m₁ strong h f g = chosen_more m m₁ h (binary_more release f g)
steady_op_more m m₁ implies h f g = binary_more implies f g

opening_op_more : (o : Binary) {a b s t a₁ b₁ s₁ t₁ : Formula} → NoLess a a₁ → NoLess b b₁ → NoLess s s₁ → NoLess t t₁
    → NoLess (opening_op o a b s t) (opening_op o a₁ b₁ s₁ t₁)
opening_op_more conj f g u v = binary_more conj f g
opening_op_more disj f g u v = binary_more disj f g
opening_op_more until f g u v = binary_more until f g
opening_op_more weak f g u v = binary_more until f (binary_more disj g (binary_more release unchanged u))
opening_op_more release f g u v = binary_more strong (binary_more disj f (binary_more release unchanged v)) g
opening_op_more strong f g u v = binary_more strong f g
opening_op_more implies f g u v = binary_more implies f g

module _ (M M₁ : Formula → Bool) (more : (ψ : Formula) → T (M ψ) → T (M₁ ψ)) where
  steady_more : (φ : Formula) → NoLess (steady M φ) (steady M₁ φ)
  unfolding steady
  steady_more (const b) = unchanged
  steady_more (lit b n) = unchanged
  steady_more (un o a) = unary_more o (steady_more a)
  steady_more (bin o a b) = steady_op_more (M (bin o a b)) (M₁ (bin o a b)) o (more (bin o a b)) (steady_more a) (steady_more b)

  opening_more : (φ : Formula) → NoLess (opening M φ) (opening M₁ φ)
  unfolding opening
  opening_more (const b) = unchanged
  opening_more (lit b n) = unchanged
  opening_more (un o a) = unary_more o (opening_more a)
  opening_more (bin o a b) = opening_op_more o (opening_more a) (opening_more b) (steady_more a) (steady_more b)

-- a conjunction that folds to true begins with a formula that does
first_certain : (l : List Formula) (χ : Formula) → T (is_certain (foldl (bin conj) χ l)) → T (is_certain χ)
unfolding is_certain
first_certain [] χ t = t
first_certain (ψ ∷ l) χ t = ((T_and (is_certain χ) (is_certain ψ)).0 (first_certain l (bin conj χ ψ) t)).0

-- the choice whose every bit is 1 chooses all
all_odd : (k : ℕ) → (2 ^ suc k - 1) % 2 ≡ 1
all_odd k = omega (arith, pow_pos k)

all_half : (k : ℕ) → (2 ^ suc k - 1) / 2 ≡ 2 ^ k - 1
all_half k = omega (arith, pow_pos k)

all_chosen : (ψs : List Formula) → chosen ψs (2 ^ length ψs - 1) ≡ ψs
unfolding chosen
all_chosen [] = refl
all_chosen (ψ ∷ ψs) = rw (all_odd (length ψs), all_half (length ψs), all_chosen ψs)

least_of_all : (ψs : List Formula) (c : ℕ) (ψ : Formula) → T (member (least_of ψs c) ψ) → T (member (least_of ψs (2 ^ length ψs - 1)) ψ)
unfolding least_of
least_of_all ψs c ψ t =
    let k = mem_least_of ψs c (mem_of_member (least_of ψs c) ψ t) in
    rw (all_chosen ψs) (member_of_mem _ ψ (keep_mem is_least k.1 k.0))

-- where the part of any choice folds to true, so does the opening form by all least fixpoints
pub true_part : (ψs : List Formula) (φ : Formula) (c : ℕ) → fold (part ψs φ c) ≡ const true
    → fold (opening (member (least_of ψs (2 ^ length ψs - 1))) φ) ≡ const true
unfolding part
true_part ψs φ c e =
    certain_true (opening (member (least_of ψs (2 ^ length ψs - 1))) φ)
    ((opening_more (member (least_of ψs c)) (member (least_of ψs (2 ^ length ψs - 1))) (least_of_all ψs c) φ).so
    (first_certain (infinitelies ψs c ++ almosts ψs c) (opening (member (least_of ψs c)) φ) (true_certain (part ψs φ c) e)))
