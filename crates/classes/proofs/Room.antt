-- Whether the bytes of an accepted plain table fit, by the lengths that the step compares; and what is written where they do.
use Prim.Native.Nat.{ℕ, ◌-◌, ◌≤◌, ◌<◌, min}
use mathlib.Core.Path.{◌≡◌, ◌∙◌}
use mathlib.Core.Bool.{true, false}
use mathlib.Core.List.{List, ◌++◌}
use native.Mathlib.Omega.{arith}
use lib.ListN.{length, take, drop, length-drop}
use borrow.Author.Tests.{le-leb, lt-leb}
use Rattle.std.specs.Prelude.{Ok}
use Rattle.table.specs.Header.{body, headed_checked}
use Rattle.table.specs.StepChecks.{result_fits}
use Rattle.table.specs.Steps.{class_bytes}
use Rattle.table.specs.Frame.{class_step, result_of}
use Rattle.table.proofs.Accepted.{WellFormed, accepted-well-formed}
use Rattle.table.proofs.Header.{accepted-headed}
use Rattle.table.proofs.Frame.{made_result}
use Rattle.class_bytes.specs.Words.{PlainWords}
use Rattle.class_bytes.proofs.Words.{length-class_bytes, accepted-plain}
use Rattle.heading.proofs.Order.{whole_body}

-- the words of s are the part of it that stands after its header
module _ (s : List ℕ) (ok : headed_checked true 16383 s ≡ Ok tt) where
  words : WellFormed true 16383 (body s)
  words = accepted-well-formed true 16383 (body s) (accepted-headed true 16383 s ok).words

  module _ (bytes : List ℕ) where
    pub too_short : length bytes < length s - 1 → result_fits (length (class_bytes (body s))) (length bytes) ≡ false
    too_short h = rw (length-class_bytes (body s)) (lt-leb (length (body s)) (min (length bytes) 16384) (omega (arith, length-drop 1 s)))

    module _ (h : length s - 1 ≤ length bytes) where
      pub enough : PlainWords (take (length s - 1) (body s)) × (length (take (length s - 1) (body s)) ≤ length bytes)
      enough = rw (whole_body s) (accepted-plain 16383 (body s) (accepted-headed true 16383 s ok).words, omega (arith, length-drop 1 s))

      pub long_enough : result_fits (length (class_bytes (body s))) (length bytes) ≡ true
      long_enough = rw (length-class_bytes (body s)) (le-leb (length (body s)) (min (length bytes) 16384) (omega (arith, words.few, length-drop 1 s)))

      pub written : result_of class_step s bytes ≡ class_bytes (take (length s - 1) (body s)) ++ drop (length (take (length s - 1) (body s))) bytes
      unfolding headed_checked
      written = made_result class_step s bytes ok long_enough ∙ rw (length-class_bytes (body s), whole_body s)
