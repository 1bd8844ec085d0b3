-- A table written to all that is left of a slice after the place of its header, where how many words were written is a number or none.
use Prim.Native.Nat.{ℕ, ◌-◌, ◌≤◌}
use mathlib.Core.Path.{◌≡◌}
use mathlib.Core.Bool.{true}
use mathlib.Core.List.{List}
use lib.ListN.{length, take}
use borrow.Rule.Slice.PartMut.{put_mid}
use Rattle.std.specs.Prelude.{Ok, Option, None, Some}
use Rattle.table.specs.Answers.{Answer, OrNone, or_zero}
use Rattle.table.specs.Checks.{checked}
use Rattle.table.specs.Header.{headed, body}
use Rattle.placing.specs.Written.{Written}
use Rattle.headed_answers.specs.Finished.{Finishable, Finished, Given}
use Rattle.headed_answers.proofs.Lent.{left_finishable, left_given}

-- what is asked for a number or none, of the number that stands for both
pub or_zero_finishable : (s : List ℕ) (r : Option ℕ) → OrNone (Finishable s) r → Finishable s (or_zero r)
or_zero_finishable s None q = q
or_zero_finishable s (Some n) q = q.1

module _ (u result part : List ℕ) (accepts : length u ≤ 16383 → checked true 16383 u ≡ Ok tt) (some : length result ≡ 0 → ⊥)
    (same : length part ≡ length (take (length result - 1) (body result))) where
  pub option_finishable : (r : Option ℕ) → OrNone (λ n. Written u (take (length result - 1) (body result)) part n) r
      → OrNone (Finishable (put_mid 1 (length result - 1) result part)) r
  option_finishable None q = left_finishable u result accepts some same q
  option_finishable (Some n) q = (q.0, left_finishable u result accepts some same q.1)

  pub option_given : (r : Option ℕ) → OrNone (λ n. Written u (take (length result - 1) (body result)) part n) r
      → {e : List ℕ} {a : Answer} → Finished (put_mid 1 (length result - 1) result part) (or_zero r) e a → Given (headed u) result e a
  option_given None q f = left_given u result accepts some same q f
  option_given (Some n) q f = left_given u result accepts some same q.1 f
