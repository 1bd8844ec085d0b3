use native.Mathlib.Omega.{arith}
use native.Mathlib.Numerals.{add-one}
use mathlib.Core.Path.{refl, sym, ◌∙◌}
use mathlib.Core.Bool.{true}
use Rattle.table.proofs.Accepted.{accepted-well-formed}
use Rattle.conjuncts.proofs.Forms.{kept_bit}
use Rattle.choosing.proofs.Choosing.{word-plain, chosen_none, chosen_other, chosen_more}
use Rattle.fixpoints.proofs.Positions.{kept_small}
use Rattle.choosing.proofs.choose_words.Goals as goal
use Rattle.choosing.proofs.choose_words.Goals.{then-is_fixpoint, else-is_fixpoint}

pub loop-i-init : goal.loop-i-init
loop-i-init c = chosen_none _ c.requires.laid

pub chosen-chosen-requires : goal.chosen-chosen-requires
chosen-chosen-requires c =
    let q = c.requires.kept in
    let h = c.loop-i-test.true in
    (omega (arith, h, q.long), kept_small q _ h)

pub choose_word-requires : goal.choose_word-requires
choose_word-requires c =
    let f = c.requires.room in
    let h = c.loop-i-test.true in
    let l = c.loop-i.auto.draft in (
      word-plain (accepted-well-formed true _ _ f.accepted) h (omega (arith, f.long, f.narrow)),
      record { within = omega (arith, f.long, l); fits = omega (arith, f.long, f.narrow) },
    )

pub loop-i-preserved : goal.loop-i-preserved
loop-i-preserved c =
    let f = c.requires in
    let h = c.loop-i-test.true in
    let q = c.loop-i.invariant in
    let is = c.is_fixpoint.ensures in
    elim c.if-is_fixpoint.branch [
      | then-is_fixpoint x ↦ let w = rw add-one at x.choose_word.ensures in rw (x.draft-is, add-one) (chosen_more q h w (kept_bit _ f.kept h x.chosen-chosen.ensures))
      | else-is_fixpoint x ↦ rw (x.draft-is, add-one) (chosen_other q h (omega (arith, ((accepted-well-formed true _ _ f.room.accepted).word _ h).plain refl)) (sym is ∙ x.if-is_fixpoint.false))
    ]
