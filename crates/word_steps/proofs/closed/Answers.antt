-- One law of a doubling, used six times.
use Rattle.logic.specs.Bit.{bit}
use Rattle.word_steps.proofs.Doubling.{swept_one, doubling}
use Rattle.word_steps.proofs.Words.{pack-sweep}
use Rattle.word_steps.proofs.closed.Goals as goal

pub returns : goal.returns
returns c G P i n few eg ep =
    let g = bit c.args.g in
    let p = bit c.args.p in
    pack-sweep G P i n _ _ _ few eg ep
    (doubling g p 32 _ _ (doubling g p 16 _ _ (doubling g p 8 _ _ (doubling g p 4 _ _ (doubling g p 2 _ _ (doubling g p 1 _ _ (swept_one c.args.g c.args.p))))))).reached
