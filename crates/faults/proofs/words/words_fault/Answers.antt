use mathlib.Core.Path.{refl, sym, ◌∙◌}
use native.Mathlib.Omega.{arith}
use lib.ListN.{drop_of_length-le}
use lib.Seq.{take_all}
use Rattle.std.proofs.lemmas.Result.{err_from_is_err_and}
use Rattle.table.specs.Checks.{words_checks}
use Rattle.faults.proofs.First.{words_step, refused_kept}
use Rattle.faults.proofs.Marking.{room_kept}
use Rattle.faults.proofs.words.words_fault.Goals as goal

pub loop-i-init : goal.loop-i-init
loop-i-init c = (refl, refl, refl, c.requires.1)

pub word_fault-requires : goal.word_fault-requires
word_fault-requires c = let inv = c.loop-i.invariant in (omega arith, room_kept c.requires.0 inv.1 inv.2, inv.3)

pub returns-in_err-word_fault : goal.returns-in_err-word_fault
returns-in_err-word_fault c =
    let p = err_from_is_err_and c.from_residual.result c.from_residual.ensures.1 in
    rw (p.1, p.2) (record {
      answer =
          sym
          (c.loop-i.invariant.0
          ∙ words_step _ _ _ c.loop-i-test.true
          ∙ rw (← c.word_fault.ensures.answer, c.in_err-word_fault.was));
      marked = refused_kept;
    })

pub loop-i-preserved : goal.loop-i-preserved
loop-i-preserved c =
    let inv = c.loop-i.invariant in
    let read = c.word_fault in (
      inv.0 ∙ words_step _ _ _ c.loop-i-test.true ∙ rw (← read.ensures.answer, c.in_ok-word_fault.was),
      read.auto.index ∙ inv.1,
      read.auto.marks ∙ inv.2,
      read.ensures.kept c.in_ok-word_fault.was,
    )

pub returns : goal.returns
unfolding words_checks
returns c =
    record {
      answer = sym (c.loop-i.invariant.0 ∙ rw (drop_of_length-le _ c.loop-i-test.false));
      marked = λ e. rw (take_all _ _ c.loop-i-test.false) at c.loop-i.invariant.3.marked;
    }
