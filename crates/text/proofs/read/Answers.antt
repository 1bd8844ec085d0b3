-- The limits are outside their ranges, the text is too long, departs from the grammar, has too many words, or its words are answered: proofs/Outcomes.
use native.Mathlib.Omega.{arith}
use Prim.Native.Nat.{ℕ}
use mathlib.Core.Path.{◌≡◌, refl, sym, subst, ◌∙◌}
use mathlib.Core.Bool.{true}
use lib.ListN.{length}
use lib.Seq.{length-take-le}
use Rattle.std.specs.Prelude.{Err}
use Rattle.placing.specs.State.{state}
use Rattle.table.specs.Limits.{is_permitted}
use Rattle.table.specs.Numbering.{table_of}
use Rattle.table.proofs.Stated.{permitted}
use Rattle.header_classes.specs.Headable.{Headable}
use Rattle.grammar.proofs.Sound.{sound}
use Rattle.text.proofs.Outcomes.{fresh, outcome_outside, outcome_long, outcome_departs, outcome_many, outcome_given, counted, copied, read_rule}
use Rattle.text.proofs.Promise.{text-words-accepted}
use Rattle.text.proofs.read.Goals as goal

pub returns-then-not-permitted : goal.returns-then-not-permitted
returns-then-not-permitted c =
    let a = c.args in
    let q = outcome_outside a.limits a.text.now a.res.now (sym c.permitted.ensures ∙ c.if-not-permitted.true) in
    record { value = q.0; res_after = q.1 }

pub returns-then-text-gt1024 : goal.returns-then-text-gt1024
returns-then-text-gt1024 c =
    let a = c.args in
    let q = outcome_long a.limits a.text.now a.res.now (sym c.permitted.ensures ∙ c.if-not-permitted.false) c.if-text-gt1024.true in
    record { value = q.0; res_after = q.1 }

pub parse-read-requires : goal.parse-read-requires
parse-read-requires c = fresh _ c.if-text-gt1024.false

pub returns-in-Err : goal.returns-in-Err
returns-in-Err c =
    let a = c.args in
    let p = c.in-Err.ensures in
    let q = outcome_departs a.limits a.text.now a.res.now (sym c.permitted.ensures ∙ c.if-not-permitted.false) c.if-text-gt1024.false _ (p.1.departs p.0) in
    record { value = q.0; res_after = q.1 }

pub returns-then-limits-n : goal.returns-then-limits-n
returns-then-limits-n c =
    let a = c.args in
    let rule : (n : ℕ) → c.parse-read.result ≡ Err n → ⊥ = λ n e. cc in
    let p = read_rule a.text.now (state c.parse-read.new.out c.parse-read.new.index) c.parse-read.result c.parse-read.ensures rule in
    let read = p.reads refl in
    let few : length (table_of read.0) ≡ c.count-n.result = counted p refl _ c.count-n.ensures in
    let q =
    outcome_many a.limits a.text.now a.res.now (sym c.permitted.ensures ∙ c.if-not-permitted.false) c.if-text-gt1024.false read.0 read.1
    (omega (arith, few, c.if-limits-n.true))
    in
    record { value = q.0; res_after = q.1 }

pub slice_bounds-write-end : goal.slice_bounds-write-end
slice_bounds-write-end c =
    let p = c.in_default.ensures in
    sym (length-take-le _ c.parse-read.new.out (omega (arith, c.count-n.ensures, p.numbered.within)))

pub write-requires : goal.write-requires
write-requires c =
    let a = c.args in
    let within : is_permitted a.limits ≡ true = sym c.permitted.ensures ∙ c.if-not-permitted.false in
    let p = c.in_default.ensures in
    let read = p.reads refl in
    let few : length (table_of read.0) ≡ c.count-n.result = counted p refl _ c.count-n.ensures in
    let written = (permitted a.limits within).written in
    subst Headable (sym (copied p refl _ c.count-n.ensures)) (record {
      plain_only = _;
      limit = a.limits.written;
      accepted = text-words-accepted (sound a.text.now read.0 read.1) a.limits.written (omega (arith, few, c.if-limits-n.false)) (omega (arith, written));
      small = omega (arith, written);
    })

pub returns : goal.returns
returns c =
    let a = c.args in
    let p = c.in_default.ensures in
    let read = p.reads refl in
    let few : length (table_of read.0) ≡ c.count-n.result = counted p refl _ c.count-n.ensures in
    let q =
    outcome_given a.limits a.text.now a.res.now (sym c.permitted.ensures ∙ c.if-not-permitted.false) c.if-text-gt1024.false read.0 read.1
    (omega (arith, few, c.if-limits-n.false)) (copied p refl _ c.count-n.ensures) c.write.ensures
    in
    record { value = q.0; res_after = q.1 }
