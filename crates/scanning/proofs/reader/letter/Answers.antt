-- A digit goes on with the number; another byte ends the letter.
use native.Mathlib.Omega.{arith}
use mathlib.Core.Path.{sym, ap, ◌∙◌}
use Prim.Native.Nat.{ℕ}
use Rattle.placing.specs.State.{state, written}
use Rattle.settling.specs.Settled.{top_first}
use Rattle.turns.specs.Numbers.{words, follow_ended}
use Rattle.turns.proofs.Making.{stuck-makes, sign-kinded, letter-digit, letter_none, letter-ended, digit_bounds}
use Rattle.scanning.proofs.reader.letter.Goals as goal

pub digit-requires : goal.digit-requires
digit-requires c =
    let b = digit_bounds _ (sym c.if-is_digit.true ∙ c.is_digit.ensures) in
    (c.requires.n_bound, b.0, b.1)

pub returns-then-is_digit : goal.returns-then-is_digit
returns-then-is_digit c =
    let d = c.digit.ensures in
    record {
      numbered = c.requires.room.numbered;
      fit = d.1;
      same =
          ap (λ (k : ℕ). words c.digit.result.left c.digit.result.turn (top_first c.args.stack.now k) (written (state c.args.out.now c.args.index.now))) d.2
          ∙ d.0 _ _
          ∙ sym (letter-digit _ _ _ _ (sym c.if-is_digit.true ∙ c.is_digit.ensures));
    }

pub returns-then-n-eq0 : goal.returns-then-n-eq0
returns-then-n-eq0 c =
    stuck-makes _ _ _ c.requires.room.numbered c.stuck.ensures
    (letter_none _ _ _ _ (sym c.if-is_digit.false ∙ c.is_digit.ensures) c.if-n-eq0.true)

pub follow-requires : goal.follow-requires
follow-requires c =
    let pre = c.requires in
    let e = c.end-o.ensures in
    record {
      room = record { numbered = e.numbered; long = pre.room.long; wide = omega arith; room = omega (arith, e.few, pre.room.room) };
      kinded = (sign-kinded c.args.b c.sign_of.ensures, e.small);
    }

pub returns : goal.returns
returns c =
    let m = c.follow.ensures in
    record {
      numbered = m.numbered;
      fit = m.fit;
      same =
          m.same
          ∙ ap (follow_ended c.sign_of.result) c.end-o.ensures.same
          ∙ sym (letter-ended _ _ _ _ (sym c.if-is_digit.false ∙ c.is_digit.ensures) c.if-n-eq0.false _ _ c.sign_of.ensures c.pack-w.ensures);
    }
