-- The carry is a bit at the last position.
use Rattle.std.proofs.Common.{arith}
use Rattle.word_carries.proofs.Carries.{bool_digit, goal_carried}
use Rattle.word_carries.proofs.carried.Goals as goal

pub returns : goal.returns
returns c G P i eg ep =
    let carry = c.args.carry in
    rw c.from.ensures (goal_carried G P i _ _ _ _ carry (omega arith) (omega arith) (bool_digit carry) eg ep)
