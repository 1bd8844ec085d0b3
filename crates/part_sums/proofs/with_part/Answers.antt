use Rattle.std.proofs.Common.{◌≤◌, ◌^◌, length, sym, ◌∙◌, arith}
use Rattle.drafts.proofs.Drafts.{drafted_within}
use Rattle.parts.specs.Parts.{folded_part}
use Rattle.part_sums.proofs.Parts.{part_joined, part_false, part_full, root_false, root_standing}
use Rattle.part_sums.proofs.with_part.Goals as goal

pub returns-in_err-sum-clause-grown : goal.returns-in_err-sum-clause-grown
returns-in_err-sum-clause-grown c =
    rw c.from_residual.ensures (part_full _ _ _ c.if-choice-ones.false c.requires.joinable.numbered c.requires.untrue.0 c.in_err-sum.was)

pub bounds-folded-root : goal.bounds-folded-root
bounds-folded-root c = drafted_within c.part-root.new.folded (folded_part c.args.table.now c.args.choice) c.part-root.result c.part-root.ensures.drafted

pub offset_bounds-folded-root : goal.offset_bounds-folded-root
offset_bounds-folded-root c =
    let ready = c.requires.joinable.ready in
    let inside = drafted_within c.part-root.new.folded (folded_part c.args.table.now c.args.choice) c.part-root.result c.part-root.ensures.drafted in
    omega (arith, ready.long, ready.fillable.room.narrow)

pub returns-then-kind-eq-FALSE : goal.returns-then-kind-eq-FALSE
returns-then-kind-eq-FALSE c =
    let q = c.requires in
    let ready = q.joinable.ready in
    let few : length c.part-root.new.folded ≤ 2 ^ 20 = omega (arith, ready.long, ready.fillable.room.narrow) in
    let drafted = c.part-root.ensures.drafted in
    record {
      grown = part_false c.args.table.now c.args.choice _ c.if-choice-ones.false q.joinable.numbered q.untrue.1
          (root_false c.args.table.now c.part-root.new.folded c.args.choice c.part-root.result drafted few (sym c.kind.ensures ∙ c.if-kind-eq-FALSE.true));
      laid = c.part-root.ensures.laid;
    }

pub returns-in_err-joined : goal.returns-in_err-joined
returns-in_err-joined c =
    let ready = c.requires.joinable.ready in
    let few : length c.part-root.new.folded ≤ 2 ^ 20 = omega (arith, ready.long, ready.fillable.room.narrow) in
    let drafted = c.part-root.ensures.drafted in
    let no_room = c.if-kind-eq-FALSE.false in
    record {
      grown = rw c.from_residual-in_err-joined.ensures (part_joined c.args.table.now c.args.choice _ c.if-choice-ones.false
          (c.in_err-joined.ensures (folded_part c.args.table.now c.args.choice) drafted
          (root_standing c.args.table.now c.part-root.new.folded c.args.choice c.part-root.result drafted few c.requires.untrue.0 (λ e. no_room (c.kind.ensures ∙ e)))));
      laid = c.part-root.ensures.laid;
    }

pub returns : goal.returns
returns c =
    let ready = c.requires.joinable.ready in
    let few : length c.part-root.new.folded ≤ 2 ^ 20 = omega (arith, ready.long, ready.fillable.room.narrow) in
    let drafted = c.part-root.ensures.drafted in
    let other = c.if-kind-eq-FALSE.false in
    record {
      grown = part_joined c.args.table.now c.args.choice _ c.if-choice-ones.false
          (c.in_ok-joined.ensures (folded_part c.args.table.now c.args.choice) drafted
          (root_standing c.args.table.now c.part-root.new.folded c.args.choice c.part-root.result drafted few c.requires.untrue.0 (λ e. other (c.kind.ensures ∙ e))));
      laid = c.part-root.ensures.laid;
    }
