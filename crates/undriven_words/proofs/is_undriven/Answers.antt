-- Kinds 3 and 4 name a letter, and no other kind does.
use native.Mathlib.Omega.{arith}
use Rattle.undriven_words.proofs.LetterKinds.{undriven_within, undriven_below, undriven_above}
use Rattle.undriven_words.proofs.is_undriven.Goals as goal

pub returns-in-3-to-4 : goal.returns-in-3-to-4
returns-in-3-to-4 c = undriven_within _ _ c.kind.ensures (omega arith) (omega arith) c.right.ensures

pub returns-in_default : goal.returns-in_default
returns-in_default c = undriven_below _ _ c.kind.ensures (omega arith)

pub returns-in_default-2 : goal.returns-in_default-2
returns-in_default-2 c = undriven_above _ _ c.kind.ensures (omega arith)
