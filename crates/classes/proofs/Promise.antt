-- What the class step promises: after an accepted call, bit b of the byte of each word is 1 just where the word's formula is in the class of bit b.
use Prim.Native.Nat.{ℕ, suc, ◌/◌, ◌%◌, ◌^◌, ◌<◌}
use mathlib.Core.Path.{◌≡◌, ap, ◌∙◌}
use mathlib.Core.Logic.{◌↔◌}
use mathlib.Core.List.{List}
use native.Mathlib.Omega.{arith}
use lib.ListN.{length, get_or, drop, get_or-append}
use Rattle.logic.specs.Hierarchy.{Class}
use Rattle.logic.specs.ClassByte.{class_byte}
use Rattle.logic.proofs.Hierarchy.ClassBit.{class_bit, class_byte_lt}
use Rattle.refusals.specs.Refusals.{Outcome}
use Rattle.std.specs.Prelude.{Ok}
use Rattle.table.specs.Table.{formula_of, formulas}
use Rattle.table.specs.Header.{body}
use Rattle.table.specs.Steps.{class_bytes}
use Rattle.table.specs.Frame.{class_step, outcome_of, result_by, result_of}
use Rattle.class_bytes.proofs.Words.{length-class_bytes, class_bytes_at}

module _ (s bytes : List ℕ) (accepted : outcome_of class_step s (length bytes) ≡ Ok tt) (j : ℕ) (h : j < length (body s)) where
  -- the byte at index j is the class byte of word number j + 1, counted after the header
  pub byte_of_word : get_or (result_of class_step s bytes) j 0 ≡ class_byte (formula_of (formulas (body s)) (suc j))
  unfolding result_of formula_of
  byte_of_word =
      ap (λ (o : Outcome). get_or (result_by o (class_bytes (body s)) bytes) j 0) accepted
      ∙ get_or-append (class_bytes (body s)) (drop (length (class_bytes (body s))) bytes) 0 j (omega (arith, length-class_bytes (body s)))
      ∙ class_bytes_at (body s) j h

  pub class_promise : (b : ℕ) → (get_or (result_of class_step s bytes) j 0 / 2 ^ b % 2 ≡ 1) ↔ Class b (formula_of (formulas (body s)) (suc j))
  class_promise b = rw byte_of_word (class_bit b (formula_of (formulas (body s)) (suc j)))

  -- bit 7 is always 0
  pub byte_lt : get_or (result_of class_step s bytes) j 0 < 128
  byte_lt = rw byte_of_word (class_byte_lt (formula_of (formulas (body s)) (suc j)))
