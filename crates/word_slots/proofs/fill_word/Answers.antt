use native.Mathlib.Omega.{arith}
use lib.ListN.{length-set}
use borrow.Author.Rules.{rules}
use Rattle.word_slots.proofs.Stores.{word-filled}
use Rattle.word_slots.proofs.fill_word.Goals as goal

pub bounds-draft-first-2 : goal.bounds-draft-first-2
bounds-draft-first-2 c = simp length-set (omega arith)

pub bounds-draft-first-3 : goal.bounds-draft-first-3
bounds-draft-first-3 c = simp length-set (omega arith)

pub shape_of-draft : goal.shape_of-draft
shape_of-draft c = simp length-set c.choose_word.ensures.long

pub returns : goal.returns
returns c =
    word-filled _ c.requires.1.within
    c.choose_word.ensures
    c.always.ensures
    c.either.ensures
    c.opening.ensures
