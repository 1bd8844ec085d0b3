-- The goal is reached among the lowest bits of the keep, or the keep lets the carry through.
use Rattle.std.proofs.Common.{arith, refl}
use Rattle.word_carries.proofs.Carries.{first_law}
use Rattle.word_carries.proofs.first.Goals as goal

pub returns : goal.returns
returns c G P i eg ep =
    first_law G P i _ _ _ _ _ c.args.carry (omega arith) refl c.ones.ensures eg ep
