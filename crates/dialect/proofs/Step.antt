-- How the step ends.
use Prim.Native.Nat.{ℕ, ◌-◌}
use mathlib.Core.Path.{◌≡◌}
use mathlib.Core.Bool.{true}
use mathlib.Core.List.{List}
use lib.ListN.{length, take}
use Rattle.refusals.specs.declared.Refusal.{Refusal}
use Rattle.std.specs.Prelude.{Ok, Err}
use Rattle.table.specs.Answers.{Answer}
use Rattle.table.specs.Frame.{dialect_step}
use Rattle.table.proofs.Frame.{dialect-early}
use Rattle.table.specs.Checks.{checked}
use Rattle.table.specs.Header.{headed, body, headed_checked}
use Rattle.table.specs.Steps.{dialect_table}
use Rattle.table.proofs.Header.{accepted-headed}
use Rattle.placing.specs.Written.{Ends}
use Rattle.placing.proofs.Written as writing
use Rattle.headed_answers.specs.Finished.{Given}
use Rattle.headed_answers.proofs.Ends.{given_ends}
use Rattle.heading.proofs.Order.{whole_body}

-- the part of an accepted table that stands after its header
pub words-accepted : (s : List ℕ) → headed_checked true 16383 s ≡ Ok tt → checked true 16383 (take (length s - 1) (body s)) ≡ Ok tt
words-accepted s ok = rw (whole_body s) (accepted-headed true 16383 s ok).words

module _ (s result : List ℕ) where
  pub refused : (r : Refusal) → headed_checked true 16383 s ≡ Err r → Ends dialect_step s result (Err r) result
  unfolding headed_checked
  refused r e = writing.ends-refused dialect_step s result dialect-early r e

  pub made : {e : List ℕ} {r : Answer} → headed_checked true 16383 s ≡ Ok tt → Given (headed (dialect_table (take (length s - 1) (body s)))) result e r
      → Ends dialect_step s result r e
  unfolding headed_checked
  made ok g = given_ends dialect_step s result ok (rw (whole_body s) at g)
