use Rattle.std.proofs.Common.{◌+◌, ◌*◌, length, arith}
use Rattle.filling.proofs.Part.{rule_opened}
use Rattle.true_parts.proofs.Looks.{opened_told}
use Rattle.true_parts.proofs.opened.Goals as goal

-- the opening form, drafted and then folded
pub returns : goal.returns
returns c =
    let words = c.choose_words in
    let room = c.requires.fillable.room in
    let last = 5 * length c.args.table.now + 4 in
    record {
      opened = opened_told c.args.table.now c.fold.new.folded c.args.choice last
          (c.fold.ensures.slots _ last (omega arith) (rule_opened c.requires.fillable words.auto.draft words.ensures))
          (omega (arith, room.long, room.narrow)) c.kind.ensures;
      laid = words.ensures.laid;
    }
