-- How the step by a sample ends.
use Prim.Native.Nat.{ℕ, ◌-◌, ◌≤◌}
use mathlib.Core.Path.{◌≡◌}
use mathlib.Core.Bool.{true}
use mathlib.Core.List.{List}
use lib.ListN.{length, take}
use Rattle.refusals.specs.declared.Refusal.{Refusal}
use Rattle.std.specs.Prelude.{Ok, Err}
use Rattle.refusals.specs.Refusals.{first}
use Rattle.table.specs.Answers.{Answer}
use Rattle.table.specs.Frame.{after_step}
use Rattle.table.proofs.AfterStep.{after_early, both_accepted}
use Rattle.table.specs.Checks.{checked}
use Rattle.table.specs.Header.{headed, body, headed_checked}
use Rattle.table.specs.Steps.{after_table}
use Rattle.table.proofs.Header.{accepted-headed}
use Rattle.placing.specs.Written.{Ends}
use Rattle.placing.proofs.Written as writing
use Rattle.headed_answers.specs.Finished.{Given}
use Rattle.headed_answers.proofs.Ends.{given_ends}
use Rattle.heading.proofs.Order.{whole_body, some_word}

module _ (v driven : ℕ) (s result : List ℕ) where
  pub refused : (r : Refusal) → first ((after_step v driven).checks s) ≡ Err r → Ends (after_step v driven) s result (Err r) result
  refused r e = writing.ends-refused (after_step v driven) s result (after_early v driven) r e

  module _ (ok : first ((after_step v driven).checks s) ≡ Ok tt) where
    table-accepted : headed_checked true 16383 s ≡ Ok tt
    table-accepted = (both_accepted v driven s ok).0

    -- there is a header, and the part after it is accepted
    pub some : 1 ≤ length s
    some = some_word true 16383 s table-accepted

    pub words-accepted : checked true 16383 (take (length s - 1) (body s)) ≡ Ok tt
    words-accepted = rw (whole_body s) (accepted-headed true 16383 s table-accepted).words

    pub made : {e : List ℕ} {r : Answer} → Given (headed (after_table v (take (length s - 1) (body s)))) result e r → Ends (after_step v driven) s result r e
    made g = given_ends (after_step v driven) s result ok (rw (whole_body s) at g)
