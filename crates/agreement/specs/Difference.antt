-- What an answer says of two lassos, read on for ever: the same driven bits at every position, or the first position that differs.
use Rattle.std.specs.Prelude.{ℕ, ◌<◌, ◌≡◌, None, Some, Ok, Err}
use Rattle.logic.specs.Lasso.{Lasso, letter_in, word}
use Rattle.logic.specs.Driven.{Driven, Agree}
use Rattle.agreement.specs.Comparing.{Comparison}

-- every position before m has the same driven bits, and m has a driven bit that differs
pub record FirstDifference (r r' : Lasso) (m : ℕ) : Type 0 where
  pub before : (i n : ℕ) → i < m → Driven r.driven n → letter_in (word r i) n ≡ letter_in (word r' i) n
  pub letter : ℕ
  pub driven : Driven r.driven letter
  pub there : letter_in (word r m) letter ≡ letter_in (word r' m) letter → ⊥

abbrev pub Says : Lasso → Lasso → Comparison → Type 0
Says r r' (Ok None) = Agree r r'
Says r r' (Ok (Some m)) = FirstDifference r r' m
Says r r' (Err why) = ⊥
