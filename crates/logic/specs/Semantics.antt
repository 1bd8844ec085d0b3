-- Truth at a position: source 002, Definition 2, with k over all later positions, the present included.
-- A formula's meaning is a predicate on positions, and each operator a function on predicates.
use Rattle.std.specs.Prelude.{ℕ, suc, ◌≤◌, ◌<◌, ◌≡◌, Bool, true, false, ◌⊎◌, T}
use Rattle.logic.specs.Formula.{Formula, Unary, Binary, const, lit, un, bin, next, neg, finally, globally, conj, disj, until, weak, release, strong, implies}
use Rattle.logic.specs.Lasso.{Word, letter_in}

abbrev pub Predicate : Type 1
Predicate = ℕ → Type 0

-- P at the present and every later position
abbrev pub Always : Predicate → Predicate
Always P i = (k : ℕ) → i ≤ k → P k

-- Q at some k, and P from the present up to k, k left out
abbrev pub Until : Predicate → Predicate → Predicate
Until P Q i = (k : ℕ) × (i ≤ k) × Q k × ((j : ℕ) → i ≤ j → j < k → P j)

-- P at some k, and Q from the present up to k, k included
abbrev pub Strong : Predicate → Predicate → Predicate
Strong P Q i = (k : ℕ) × (i ≤ k) × P k × ((j : ℕ) → i ≤ j → j ≤ k → Q j)

abbrev pub Weak : Predicate → Predicate → Predicate
Weak P Q i = Always P i ⊎ Until P Q i

abbrev pub Release : Predicate → Predicate → Predicate
Release P Q i = Always Q i ⊎ Strong P Q i

-- a constant, at every position
abbrev pub Constant : Bool → Predicate
Constant b i = T b

abbrev pub unary : Unary → Predicate → Predicate
unary next P i = P (suc i)
unary neg P i = P i → ⊥
unary finally P i = Until (Constant true) P i
unary globally P i = Release (Constant false) P i

abbrev pub binary : Binary → Predicate → Predicate → Predicate
binary conj P Q i = P i × Q i
binary disj P Q i = P i ⊎ Q i
binary until P Q i = Until P Q i
binary weak P Q i = Weak P Q i
binary release P Q i = Release P Q i
binary strong P Q i = Strong P Q i
binary implies P Q i = P i → Q i

-- the formula holds in the word at the position
abbrev pub Holds : Word → Formula → Predicate
Holds σ (const b) i = Constant b i
Holds σ (lit b n) i = letter_in (σ i) n ≡ b
Holds σ (un o a) i = unary o (Holds σ a) i
Holds σ (bin o a b) i = binary o (Holds σ a) (Holds σ b) i
