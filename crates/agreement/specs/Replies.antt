-- The answer as numbers: the refusal's number and place, both 0 where the recordings were compared, whether they are the same, and the first moment that
-- differs, 0 where none does or nothing was compared.
use Rattle.std.specs.Prelude.{ℕ, ◌≡◌, Bool, true, false, None, Some, Ok, Err}
use Rattle.refusals.specs.Refusals.{number_of, place_of}
use Rattle.agreement.specs.Comparing.{Comparison}

pub record Told : Type 0 where
  pub number : ℕ
  pub place : ℕ
  pub same : Bool
  pub moment : ℕ

abbrev pub told : Comparison → Told
told (Ok None) = record { number = 0; place = 0; same = true; moment = 0 }
told (Ok (Some m)) = record { number = 0; place = 0; same = false; moment = m }
told (Err why) = record { number = number_of why; place = place_of why; same = false; moment = 0 }

-- the answer in lent numbers
pub record ComparisonReply (c : Comparison) (number : ℕ) (same : Bool) (moment place : ℕ) : Type 0 where
  pub is_number : number ≡ (told c).number
  pub is_same : same ≡ (told c).same
  pub is_moment : moment ≡ (told c).moment
  pub is_place : place ≡ (told c).place
