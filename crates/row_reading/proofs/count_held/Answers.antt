use mathlib.Core.Path.{◌∙◌}
use Prim.Native.Nat.{◌≤◌}
use native.Mathlib.Omega.{arith}
use lib.ListN.{get_or}
use lib.Count.{ones, ones-le}
use Rattle.row_reading.proofs.Reading.{count_none, count_word, count_all}
use Rattle.row_reading.proofs.count_held.Goals as goal

pub loop-word-init : goal.loop-word-init
loop-word-init c = (omega arith, λ L f e. count_none L f)

pub overflow_cast-held : goal.overflow_cast-held
overflow_cast-held c =
    let few : ones (get_or c.args.row.now c.loop-word.word-index 0) ≤ 64 = ones-le 64 _ (c.type_inv.row c.loop-word.word-index).fits in
    omega (arith, few)

pub overflow_add-held : goal.overflow_add-held
overflow_add-held c =
    let few : ones (get_or c.args.row.now c.loop-word.word-index 0) ≤ 64 = ones-le 64 _ (c.type_inv.row c.loop-word.word-index).fits in
    omega (arith, few)

pub loop-word-preserved : goal.loop-word-preserved
loop-word-preserved c =
    let few : ones (get_or c.args.row.now c.loop-word.word-index 0) ≤ 64 = ones-le 64 _ (c.type_inv.row c.loop-word.word-index).fits in
    (omega (arith, few), λ L f e. count_word L f _ _ _ e (omega arith) (c.loop-word.invariant.1 L f e))

pub returns : goal.returns
returns c L f e = let l = c.loop-word in l.invariant.1 L f e ∙ count_all L f _ _ e (omega arith)
