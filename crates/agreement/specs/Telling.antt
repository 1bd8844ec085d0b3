-- Rules of letters and X, and a rule that tells two recordings apart.
use Rattle.std.specs.Prelude.{ℕ, zero, suc}
use Rattle.logic.specs.Formula.{Formula, Unary, const, lit, un, bin, next, neg, finally, globally}
use Rattle.logic.specs.Lasso.{Lasso, word}
use Rattle.logic.specs.Driven.{Drives}
use Rattle.logic.specs.Semantics.{Holds}

-- X, m times
abbrev pub later : ℕ → Formula → Formula
later zero φ = φ
later (suc m) φ = un next (later m φ)

-- whether an operator is X
abbrev IsNext : Unary → Type 0
IsNext next = Unit {0}
IsNext neg = ⊥
IsNext finally = ⊥
IsNext globally = ⊥

-- a letter or its denial, under X any number of times
abbrev pub LettersAndNext : Formula → Type 0
LettersAndNext (const b) = ⊥
LettersAndNext (lit b n) = Unit {0}
LettersAndNext (un o a) = IsNext o × LettersAndNext a
LettersAndNext (bin o a b) = ⊥

-- a rule of driven letters and X that holds at position 0 of the one, and not of the other
pub record TellsApart (r r' : Lasso) (φ : Formula) : Type 0 where
  pub simple : LettersAndNext φ
  pub drives : Drives r φ
  pub drives' : Drives r' φ
  pub holds : Holds (word r) φ 0
  pub fails : Holds (word r') φ 0 → ⊥
