-- A disjunction of folded parts while it is built.
use Rattle.std.specs.Prelude.{ℕ, ◌<◌, ◌≡◌, false, Option, Some, None}
use Rattle.logic.specs.Formula.{Formula, const, lit, un, bin}
use Rattle.table.specs.Numbering.{build}
use Rattle.placing.specs.State.{State, written, Numbered, Placing}

-- the number of a sum, none where no word of it is placed
abbrev pub Sum : Type 0
Sum = Option ℕ

-- a number that was answered, none where there was no room
abbrev pub at_of : Option ℕ → Option Sum
at_of None = None
at_of (Some n) = Some (Some n)

-- a formula that is no constant
abbrev pub Standing : Formula → Type 0
Standing (const b) = ⊥
Standing (lit b n) = Unit {0}
Standing (un o a) = Unit {0}
Standing (bin o a b) = Unit {0}

-- the number of a sum fits the field of a word
abbrev pub Small : Sum → Type 0
Small None = Unit {0}
Small (Some n) = n < 16384

abbrev pub SmallOr : Option Sum → Type 0
SmallOr None = Unit {0}
SmallOr (Some a) = Small a

-- a sum that stands for χ, of which words were placed from s up to e: none where it is false; else they were placed, and it has a number
abbrev pub Summed : State → State → Formula → Sum → Type 0
Summed s e χ None = (χ ≡ const false) × (e ≡ s)
Summed s e χ (Some n) = Standing χ × (0 < n) × Placing s e (build (written s) χ) n

-- the words of χ found no room
abbrev pub Unfit : State → State → Formula → Type 0
Unfit s e χ = Standing χ × Placing s e (build (written s) χ) 0

-- that sum, or no room for it
abbrev pub SummedOr : State → State → Formula → Option Sum → Type 0
SummedOr s e χ None = Unfit s e χ
SummedOr s e χ (Some a) = Summed s e χ a

-- where a sum stood for χ up to s, the sum r stands for g χ up to e
pub record Grown (g : Formula → Formula) (s e : State) (a r : Option Sum) : Type 0 where
  pub numbered : Numbered e
  pub small : SmallOr r
  pub sums : (s₀ : State) (χ : Formula) → SummedOr s₀ s χ a → SummedOr s₀ e (g χ) r
