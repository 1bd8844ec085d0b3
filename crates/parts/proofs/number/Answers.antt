use Rattle.parts.proofs.Unnumbered.{numberable, placed}
use Rattle.parts.proofs.number.Goals as goal

pub number-requires : goal.number-requires
number-requires c = record { numbered = c.requires.numbered; numberable = numberable c.requires (c.fill.ensures.after (λ y e. e)) }

pub returns : goal.returns
returns c φ r = placed _ _ _ _ _ φ r _ c.number.ensures
