-- Positive boolean formulas over a set, their models and minimal models: source 002, section 7.1.
use Rattle.std.specs.Prelude.{Bool, ◌&&◌, ◌||◌, false, T}
use mathlib.Core.List.{List, [], ◌∷◌, foldl}

-- "the closure of X and the constants under disjunction and conjunction"
pub data Positive (X : Type 0) : Type 0 where
  constant : Bool → Positive X
  atom : X → Positive X
  and or : Positive X → Positive X → Positive X

-- a disjunction from the left, false where there is nothing to join
abbrev pub any_of : {X : Type 0} → List (Positive X) → Positive X
any_of [] = constant false
any_of (θ ∷ θs) = foldl or θ θs

-- other names for the atoms
abbrev pub renamed : {X Y : Type 0} → (X → Y) → Positive X → Positive Y
renamed f (constant b) = constant b
renamed f (atom x) = atom (f x)
renamed f (and a b) = and (renamed f a) (renamed f b)
renamed f (or a b) = or (renamed f a) (renamed f b)

-- a set of X, by whether each is in it; and that one lies in another
abbrev pub Subset : Type 0 → Type 0
Subset X = X → Bool

abbrev pub Within : {X : Type 0} → Subset X → Subset X → Type 0
Within {X} S S' = (x : X) → T (S x) → T (S' x)

-- "the truth assignment that assigns true to the elements of S and false to the others satisfies θ"
abbrev pub models : {X : Type 0} → Subset X → Positive X → Bool
models S (constant b) = b
models S (atom x) = S x
models S (and a b) = models S a && models S b
models S (or a b) = models S a || models S b

-- "a model is minimal if no proper subset of it is a model"
pub record Minimal {X : Type 0} (S : Subset X) (θ : Positive X) : Type 0 where
  pub model : T (models S θ)
  pub least : (S' : Subset X) → Within S' S → T (models S' θ) → Within S S'

-- equivalent to false: it has no minimal model
abbrev pub Unsatisfiable : {X : Type 0} → Positive X → Type 0
Unsatisfiable {X} θ = (S : Subset X) → Minimal S θ → ⊥
