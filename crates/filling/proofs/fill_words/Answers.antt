use native.Mathlib.Omega.{arith}
use native.Mathlib.Numerals.{add-one}
use mathlib.Core.Path.{refl, ◌∙◌}
use mathlib.Core.Bool.{true}
use lib.ListN.{length-set}
use Rattle.table.proofs.Accepted.{accepted-well-formed}
use Rattle.choosing.proofs.Choosing.{word-plain}
use Rattle.filling.proofs.WordByWord.{laid_none, laid_more}
use Rattle.filling.proofs.fill_words.Goals as goal

pub bounds-draft-0 : goal.bounds-draft-0
bounds-draft-0 c = omega (arith, c.requires.long)

pub bounds-draft-1 : goal.bounds-draft-1
bounds-draft-1 c = simp length-set (omega (arith, c.requires.long))

pub loop-i-init : goal.loop-i-init
loop-i-init c = rw (c.pack.ensures, c.pack-2.ensures) (laid_none _ c.args.draft.now (omega (arith, c.requires.long)))

pub fill_word-requires : goal.fill_word-requires
fill_word-requires c =
    let f = c.requires in
    let h = c.loop-i-test.true in
    let l = simp length-set at c.loop-i.auto.draft in (
      word-plain (accepted-well-formed true _ _ f.accepted) h (omega (arith, f.long, f.narrow)),
      record { within = omega (arith, f.long, l); fits = omega (arith, f.long, f.narrow) },
    )

pub loop-i-preserved : goal.loop-i-preserved
loop-i-preserved c =
    let f = c.requires in
    let l = simp length-set at c.loop-i.auto.draft in
    let w = rw add-one at c.fill_word.ensures in
    rw add-one (laid_more c.loop-i.invariant w (omega (arith, f.long, l)))
