-- What is told of an outcome is told of the one that the contract names.
use Prim.Native.Nat.{ℕ, ◌-◌}
use mathlib.Core.Path.{◌≡◌, ap, ◌∙◌, subst}
use mathlib.Core.List.{List}
use native.Mathlib.Omega.{arith}
use lib.ListN.{length, length-drop}
use Rattle.refusals.specs.Refusals.{Outcome}
use Rattle.table.specs.Header.{body}
use Rattle.judging.specs.Judging.{scratch_after}
use Rattle.judge_replies.specs.Replies.{RowReply}

pub reply-told : {o p : Outcome} (table : List ℕ) {samples number from words place : ℕ} → o ≡ p
    → RowReply o (length table - 1) samples number from words place → RowReply p (length (body table)) samples number from words place
reply-told {o} table {samples} {number} {from} {words} {place} e r =
    subst (λ (x : Outcome). RowReply x (length (body table)) samples number from words place) e
    (subst (λ (n : ℕ). RowReply o n samples number from words place) (omega (arith, length-drop 1 table)) r)

pub scratch-told : {o p : Outcome} {after : List ℕ} (table samples : List ℕ) (start driven : ℕ) (scratch : List ℕ) → o ≡ p
    → after ≡ scratch_after o table samples start driven scratch → after ≡ scratch_after p table samples start driven scratch
scratch-told table samples start driven scratch e k = k ∙ ap (λ (o : Outcome). scratch_after o table samples start driven scratch) e
