-- A word by itself, and then whether the index has it.
use Prim.Native.Nat.{ℕ, ◌<◌}
use mathlib.Core.Path.{◌≡◌, sym, ◌∙◌}
use mathlib.Core.Bool.{Bool}
use mathlib.Core.List.{List}
use lib.ListN.{length, take}
use native.Mathlib.Numerals.{add-one}
use native.Mathlib.Omega.{arith}
use lib.Seq.{take-suc, length-take-le}
use Rattle.lookup.specs.Index.{count_of}
use Rattle.lookup.proofs.Laws.{found-occurs}
use Rattle.std.proofs.lemmas.Result.{err_from_is_err_and}
use Rattle.faults.specs.Marks.{Kept}
use Rattle.faults.proofs.First.{word_then_repeated, refused_kept}
use Rattle.faults.proofs.Marking.{marked_more}
use Rattle.faults.proofs.words.word_fault.Goals as goal

-- the index counts the words before this one
count : (words : List ℕ) (i : ℕ) {index : List ℕ} {marks : List Bool} → i < length words → Kept (take i words) index marks → count_of index ≡ i
count words i h k = k.indexed.count_at ∙ length-take-le _ _ (omega arith)

pub find-requires : goal.find-requires
find-requires c = rw (count _ _ c.requires.0 c.requires.2) (omega (arith, c.requires.0), c.requires.2.indexed)

pub returns-then-is_some : goal.returns-then-is_some
returns-then-is_some c =
    let found = rw (count _ _ c.requires.0 c.requires.2) at (found-occurs _ _ _ c.find.ensures ∙ sym c.is_some.ensures ∙ c.if-is_some.true) in
    record {
      answer = rw (word_then_repeated, ← c.fault.ensures.answer, c.in_ok-fault.was, found);
      kept = refused_kept;
    }

pub add-requires : goal.add-requires
add-requires c = rw (count _ _ c.requires.0 c.requires.2) (omega (arith, c.requires.0, c.requires.1.words), c.requires.2.indexed.small)

pub returns-in_err-fault : goal.returns-in_err-fault
returns-in_err-fault c =
    let p = err_from_is_err_and c.from_residual.result c.from_residual.ensures.1 in
    rw (p.1, p.2) (record { answer = rw (word_then_repeated, ← c.fault.ensures.answer, c.in_err-fault.was); kept = refused_kept })

pub returns : goal.returns
returns c =
    let fields = c.fault.ensures in
    let passed = c.in_ok-fault.was in
    let absent = rw (count _ _ c.requires.0 c.requires.2) at (found-occurs _ _ _ c.find.ensures ∙ sym c.is_some.ensures ∙ c.if-is_some.false) in
    record {
      answer = rw (word_then_repeated, ← fields.answer, passed, absent);
      kept =
          λ z.
          rw (add-one, take-suc c.args.words.now c.args.i 0 c.requires.0, fields.passed passed)
          (record { indexed = c.add.ensures _ c.requires.2.indexed; marked = marked_more _ c.requires.2.marked });
    }
