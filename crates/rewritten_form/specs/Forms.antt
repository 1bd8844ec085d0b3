-- How the normal-form step ends, and what is rewritten.
use Rattle.std.specs.Prelude.{ℕ, ◌≡◌, true, false, List, length}
use Rattle.std.specs.Prelude.{Ok}
use Rattle.table.specs.declared.settings.Limits.{Limits}
use Rattle.table.specs.Answers.{FormAnswer}
use Rattle.table.specs.Limits.{is_permitted, plain_limit}
use Rattle.table.specs.Header.{headed, headed_checked}
use Rattle.table.specs.Steps.{is_normal}
use Rattle.table.specs.Frame.{normal_step, result_of, form_of}

-- the answer is f, and the result becomes e
pub record Formed (l : Limits) (t result : List ℕ) (f : FormAnswer) (e : List ℕ) : Type 0 where
  pub reply : f ≡ form_of l t (length result)
  pub slice : e ≡ result_of (normal_step l) t result

-- words of an accepted table that is not its own form, by permitted limits
pub record Rewritable (l : Limits) (words : List ℕ) : Type 0 where
  pub permitted : is_permitted l ≡ true
  pub accepted : headed_checked true (plain_limit l) (headed words) ≡ Ok tt
  pub other : is_normal words ≡ false
