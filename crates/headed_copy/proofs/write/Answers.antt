use native.Mathlib.Omega.{arith}
use mathlib.Core.Path.{refl}
use Rattle.headed_answers.proofs.Ends.{given_short}
use Rattle.headed_copy.proofs.Copied.{copied-finishable, copied_given}
use Rattle.headed_copy.proofs.write.Goals as goal

pub finish-requires : goal.finish-requires
finish-requires c = record { within = λ z. absurd (z refl); words = λ z. absurd (z refl) }

pub returns-then-res-n : goal.returns-then-res-n
returns-then-res-n c =
    given_short _ c.args.res.now (omega (arith, c.if-res-n.true)) c.finish.ensures

pub finish-requires-2 : goal.finish-requires-2
finish-requires-2 c =
    (copied-finishable c.requires c.args.res.now (omega (arith, c.if-res-n.false)) (omega arith) c.copy_from_slice.ensures.after).1

pub returns : goal.returns
returns c =
    copied_given c.requires c.args.res.now (omega (arith, c.if-res-n.false)) (omega arith) c.copy_from_slice.ensures.after c.finish-2.ensures
