use mathlib.Core.Path.{refl, sym, ◌∙◌}
use Prim.Native.Nat.{ℕ, ◌-◌, ◌*◌}
use native.Mathlib.Omega.{arith}
use Rattle.row_words.proofs.Sweep.{sweep-done}
use Rattle.row_words.proofs.Rows.{row-pack, sweep_from, written_none, written_row, written-down}
use Rattle.row_sweeps.proofs.Sweeps.{word_carried}
use Rattle.row_sweeps.proofs.carry_words.Goals as goal

pub loop-w-init : goal.loop-w-init
loop-w-init c = (omega arith, omega arith, λ some. c.filled-n.ensures, λ G P eg ep. (sym (sweep-done G P _ _ _ (omega arith)), written_none (omega arith)))

pub loop-w-preserved : goal.loop-w-preserved
loop-w-preserved c =
    let l = c.loop-w in
    let a = c.args in
    let L = a.positions in
    let w : ℕ = l.w - 1 in
    let n = l.invariant.2 (omega arith) in (
      omega arith,
      omega arith,
      λ some. omega arith,
      λ G P eg ep.
          let goal = row-pack L G _ eg w _ (omega arith) n in
          let keep = row-pack L P _ ep w _ (omega arith) n in
          let carry = (l.invariant.3 G P eg ep).0 in (
            c.first-carry.ensures G P (w * 64) goal keep ∙ sweep_from L G P a.end l.carry w l.w l.n (omega arith) (omega arith) n carry (w * 64) _ refl,
            written-down (l.invariant.3 G P eg ep).1 w (omega arith) (omega arith)
                (word_carried L G P a.end l.carry w l.w l.n _ (omega arith) (omega arith) n carry (c.carried.ensures G P (w * 64) goal keep)),
          ),
    )

pub returns : goal.returns
returns c G P eg ep =
    let l = c.loop-w in
    written_row (omega arith) refl (record { word = λ w from to. (l.invariant.3 G P eg ep).1.word w (omega arith) to })
