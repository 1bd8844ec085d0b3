use native.Mathlib.Omega.{arith}
use lib.ListN.{length-set}
use borrow.Author.Rules.{rules}
use Rattle.word_slots.proofs.Stores.{word-chosen}
use Rattle.word_slots.proofs.choose_word.Goals as goal

pub bounds-draft-first-2 : goal.bounds-draft-first-2
bounds-draft-first-2 c = simp length-set (omega arith)

pub shape_of-draft : goal.shape_of-draft
shape_of-draft c = simp length-set

pub returns : goal.returns
returns c = word-chosen _ _ _ c.requires.1.within c.steady.ensures c.recurring.ensures
