use Rattle.forms.proofs.Tiers.{formed_part}
use Rattle.forms.proofs.+write.Goals as goal

pub returns-then-cap-res : goal.returns-then-cap-res
returns-then-cap-res t c = formed_part c.requires c.args.res.now _ _ c.words-cap.ensures _ c.write.ensures
