-- Each arm's law is one of Forms; the last arm is that of the operators which the conversion keeps.
use native.Mathlib.Omega.{arith}
use mathlib.Core.Path.{◌∙◌}
use Rattle.dialect_slots.proofs.Shapes.{IsKept}
use Rattle.dialect_slots.proofs.Forms.{plain_at, Ready, leaf-ready, next_ready, weak-ready, strong-ready, kept_ready}
use Rattle.dialect_slots.proofs.convert_word.Goals as goal
use Rattle.dialect_slots.proofs.convert_word.Goals.{in-7, in-9, in-11, in-1-to-4, in_default+in_default, in_default-via-then-kind-lt1, in_default-via-else-kind-lt1+else-kind-lt5}

pub returns : goal.returns
returns c =
    let q = c.requires in
    let word = c.read-w.ensures in
    let ready : Ready c.args.table.now c.args.draft.now c.match-kind.draft c.args.j c.match-kind.s = elim c.match-kind.branch [
      | in-7 w ↦ next_ready q word w.in-7.is w.draft-is (w.s-is ∙ w.pack-s.ensures)
      | in-9 w ↦ weak-ready q word w.in-9.is w.pack.ensures w.draft-is (w.s-is ∙ w.pack-s-in-9.ensures)
      | in-11 w ↦ strong-ready q word w.in-11.is w.pack-in-11.ensures w.draft-is (w.s-is ∙ w.pack-s-in-11.ensures)
      | in-1-to-4 w ↦ leaf-ready q word (omega arith) w.draft-is (w.s-is ∙ w.pack-s-in-1-to-4.ensures)
      | in_default+in_default w ↦
          let kept : IsKept c.read-w.result.kind = record {
            above = elim w.in_default.branch [ in_default-via-then-kind-lt1 v ↦ omega (arith, word.positive) | in_default-via-else-kind-lt1+else-kind-lt5 v ↦ omega arith ];
            plain = plain_at q word;
            no_next = λ e. omega arith;
            no_weak = λ e. omega arith;
            no_strong = λ e. omega arith;
          } in
          kept_ready q word kept w.draft-is (w.s-is ∙ w.pack-s-in_default.ensures)
    ] in
    ready.filled
