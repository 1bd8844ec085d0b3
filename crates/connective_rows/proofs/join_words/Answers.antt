use mathlib.Core.Path.{◌≡◌}
use Prim.Native.Nat.{ℕ, ◌-◌, ◌*◌}
use native.Mathlib.Omega.{arith}
use lib.ListN.{length}
use Rattle.row_words.specs.Row as rows
use Rattle.row_words.proofs.Rows.{row-pack, pack-word, written_none, written_last, written-up}
use Rattle.connective_rows.proofs.join_words.Goals as goal

pub loop-w-init : goal.loop-w-init
loop-w-init c = λ A B ea eb. written_none (omega arith)

pub loop-w-preserved : goal.loop-w-preserved
loop-w-preserved c =
    let l = c.loop-w in
    let L = c.args.positions in
    let n : 64 ≡ rows.filled L l.w = omega arith in
    λ A B ea eb. written-up (l.invariant A B ea eb) (omega arith)
    (pack-word _ _ l.w _ _ n
    (c.join.ensures A B (l.w * 64) (row-pack _ A _ ea l.w _ (omega arith) n) (row-pack _ B _ eb l.w _ (omega arith) n)))

pub returns : goal.returns
returns c A B ea eb =
    let l = c.loop-w in
    let w : ℕ = length c.args.row.now - 1 in
    let n = c.filled.ensures in
    written_last (l.invariant A B ea eb) (omega arith) (omega arith) (omega arith)
    (pack-word _ _ w _ _ n (c.join-2.ensures A B (w * 64) (row-pack _ A _ ea w _ (omega arith) n) (row-pack _ B _ eb w _ (omega arith) n)))
