use Rattle.std.proofs.Common.{◌^◌, ◌≤◌, ◌<◌, length, sym, ◌∙◌, arith}
use Rattle.drafts.proofs.Drafts.{drafted_within}
use Rattle.parts.specs.Parts.{folded_part}
use Rattle.true_parts.proofs.Looks.{shifted, ready_again, found, untrue_next, none_found}
use Rattle.true_parts.proofs.each.Goals as goal

pub loop-choice-init : goal.loop-choice-init
loop-choice-init c = record { laid = c.requires.0.fillable.laid; untrue = λ d h. absurd (omega arith) }

pub part-root-requires : goal.part-root-requires
part-root-requires c = ready_again c.requires.0 c.loop-choice.auto.draft c.loop-choice.auto.folded c.loop-choice.invariant.laid

pub bounds-folded-root : goal.bounds-folded-root
bounds-folded-root c = drafted_within c.part-root.new.folded (folded_part c.args.table.now c.loop-choice.choice) c.part-root.result c.part-root.ensures.drafted

pub offset_bounds-folded-root : goal.offset_bounds-folded-root
offset_bounds-folded-root c =
    let inside = drafted_within c.part-root.new.folded (folded_part c.args.table.now c.loop-choice.choice) c.part-root.result c.part-root.ensures.drafted in
    omega (arith, c.requires.0.long, c.requires.0.fillable.room.narrow)

pub returns-then-kind-eq-TRUE : goal.returns-then-kind-eq-TRUE
returns-then-kind-eq-TRUE c =
    let few : length c.part-root.new.folded ≤ 2 ^ 20 = omega (arith, c.requires.0.long, c.requires.0.fillable.room.narrow) in
    let last : c.loop-choice.choice < 2 ^ c.args.bits = omega (arith, shifted c.args.bits c.requires.1) in
    record {
      looked = found c.args.table.now c.part-root.new.folded c.loop-choice.choice c.part-root.result c.part-root.ensures.drafted few _ last (sym c.kind.ensures ∙ c.if-kind-eq-TRUE.true);
      laid = c.part-root.ensures.laid;
    }

pub loop-choice-preserved : goal.loop-choice-preserved
loop-choice-preserved c =
    let few : length c.part-root.new.folded ≤ 2 ^ 20 = omega (arith, c.requires.0.long, c.requires.0.fillable.room.narrow) in
    record {
      laid = c.part-root.ensures.laid;
      untrue = untrue_next c.args.table.now c.part-root.new.folded c.loop-choice.choice c.part-root.result c.part-root.ensures.drafted few
          (λ e. c.if-kind-eq-TRUE.false (c.kind.ensures ∙ e)) c.loop-choice.invariant.untrue;
    }

pub returns : goal.returns
returns c =
    let inv = c.loop-choice.invariant in
    let k = shifted c.args.bits c.requires.1 in
    record { looked = none_found c.args.table.now c.args.bits (λ d h. inv.untrue d (omega arith)); laid = inv.laid }
