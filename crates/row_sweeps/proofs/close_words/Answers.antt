use mathlib.Core.Path.{◌≡◌, refl, ap, ◌∙◌}
use Prim.Native.Nat.{◌*◌}
use native.Mathlib.Omega.{arith}
use lib.ListN.{length}
use lib.Seq.{get_or-set_other}
use Rattle.row_words.specs.Row as rows
use Rattle.row_words.proofs.Rows.{row_length, row-pack, written_none, written_row, written-up}
use Rattle.row_sweeps.proofs.Sweeps.{word_closed}
use Rattle.row_sweeps.proofs.close_words.Goals as goal

pub loop-w-init : goal.loop-w-init
loop-w-init c = (λ v a. refl, λ L G P eg ep. written_none (omega arith))

pub loop-w-preserved : goal.loop-w-preserved
loop-w-preserved c =
    let l = c.loop-w in (
      λ v a. get_or-set_other l.row l.w v _ 0 (λ q. omega arith) ∙ l.invariant.0 v (omega arith),
      λ L G P eg ep.
          let e : length l.row ≡ rows.row_words L = l.auto.row ∙ ap length eg ∙ row_length L G in
          let goal = l.invariant.0 l.w (omega arith) ∙ row-pack L G _ eg l.w _ (omega arith) refl in
          let keep = row-pack L P _ ep l.w _ (omega arith) refl in
          written-up (l.invariant.1 L G P eg ep) (omega arith) (word_closed L G P l.w _ _ refl (c.closed.ensures G P (l.w * 64) _ (omega arith) goal keep)),
    )

pub returns : goal.returns
returns c L G P eg ep =
    let l = c.loop-w in
    let e : length l.row ≡ rows.row_words L = l.auto.row ∙ ap length eg ∙ row_length L G in
    written_row e (omega arith) (l.invariant.1 L G P eg ep)
