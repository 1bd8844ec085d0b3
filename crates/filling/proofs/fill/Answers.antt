use Rattle.std.proofs.Common.{arith}
use Rattle.filling.proofs.Part.{joinable_least, joinable_greatest, part_drafted, still_laid}
use Rattle.filling.proofs.fill.Goals as goal

pub conjuncts-recurring-requires : goal.conjuncts-recurring-requires
conjuncts-recurring-requires c = joinable_least c.requires c.choose_words.auto.draft c.choose_words.ensures

pub conjuncts-steady-requires : goal.conjuncts-steady-requires
conjuncts-steady-requires c = joinable_greatest c.requires c.choose_words.auto.draft c.choose_words.ensures c.conjuncts-recurring.ensures

pub overflow_sub-result : goal.overflow_sub-result
overflow_sub-result c = omega (arith, c.conjuncts-steady.ensures.after, c.conjuncts-recurring.ensures.after)

pub returns : goal.returns
returns c =
    let q = c.requires in
    let l = c.choose_words.auto.draft in
    let w = c.choose_words.ensures in
    let j = c.conjuncts-recurring.ensures in
    let k = c.conjuncts-steady.ensures in
    record { drafted = part_drafted q l w j k; laid = still_laid q l w j k }
