-- By the bytes that a symbol lacks, and then by what may come next.
use native.Mathlib.Omega.{arith}
use Prim.Native.Nat.{ℕ}
use mathlib.Core.Path.{◌≡◌, sym, ap, ◌∙◌, subst}
use Rattle.placing.specs.State.{state}
use Rattle.signs.specs.declared.Sign.{Sign}
use Rattle.turns.specs.declared.Turn.{Turn}
use Rattle.turns.specs.Numbers.{Fit, Words, viewed, begin_words, follow_words, turn_words, step_words}
use Rattle.turns.proofs.Making.{stuck-makes, sign-kinded, step_turn, step_inside, step_other}
use Rattle.scanning.proofs.reader.step.Goals as goal

-- what is to be made, by what may come next
turned : (y : Words) (b : ℕ) (t : Turn) → y.left ≡ 0 → y.turn ≡ t → step_words y b ≡ turn_words t b y.stack y.table
turned y b t z e = step_turn y b z ∙ ap (λ (x : Turn). turn_words x b y.stack y.table) e

-- and by the sign
begun : (y : Words) {x x' : Sign} → x ≡ x' → begin_words x y.stack y.table ≡ begin_words x' y.stack y.table
begun y e = ap (λ (x : Sign). begin_words x y.stack y.table) e

followed : (y : Words) (n : ℕ) {x x' : Sign} → x ≡ x' → follow_words x n y.stack y.table ≡ follow_words x' n y.stack y.table
followed y n e = ap (λ (x : Sign). follow_words x n y.stack y.table) e

pub returns-then-left-b : goal.returns-then-left-b
returns-then-left-b c =
    stuck-makes _ _ _ c.requires.room.numbered c.stuck.ensures (step_other _ _ c.if-left-ne0.true c.if-left-b.true)

pub returns-then-left-ne0 : goal.returns-then-left-ne0
returns-then-left-ne0 c =
    record { numbered = c.requires.room.numbered; fit = c.requires.fit; same = sym (step_inside _ _ c.if-left-ne0.true c.if-left-b.false) }

pub begin-requires : goal.begin-requires
begin-requires c = record { room = c.requires.room; kinded = sign-kinded c.args.b c.sign_of.ensures }

pub letter-requires : goal.letter-requires
letter-requires c = record { room = c.requires.room; n_bound = subst Fit c.in-Letter.is c.requires.fit }

pub follow-requires : goal.follow-requires
follow-requires c =
    let h = c.requires.room in
    record {
      room = record { numbered = h.numbered; long = h.long; wide = h.wide; room = omega (arith, h.room) };
      kinded = (sign-kinded c.args.b c.sign_of-in-Ended.ensures, subst Fit c.in-Ended.is c.requires.fit);
    }

pub returns-in-Operand : goal.returns-in-Operand
returns-in-Operand c =
    let y = viewed c.args.r c.args.stack.now (state c.args.out.now c.args.index.now) in
    let m = c.begin.ensures in
    record {
      numbered = m.numbered;
      fit = m.fit;
      same = m.same ∙ begun y c.sign_of.ensures ∙ sym (turned y _ _ c.if-left-ne0.false c.in-Operand.is);
    }

pub returns-in-Letter : goal.returns-in-Letter
returns-in-Letter c =
    let y = viewed c.args.r c.args.stack.now (state c.args.out.now c.args.index.now) in
    let m = c.letter.ensures in
    record { numbered = m.numbered; fit = m.fit; same = m.same ∙ sym (turned y _ _ c.if-left-ne0.false c.in-Letter.is) }

pub returns-in-Ended : goal.returns-in-Ended
returns-in-Ended c =
    let y = viewed c.args.r c.args.stack.now (state c.args.out.now c.args.index.now) in
    let m = c.follow.ensures in
    record {
      numbered = m.numbered;
      fit = m.fit;
      same = m.same ∙ followed y _ c.sign_of-in-Ended.ensures ∙ sym (turned y _ _ c.if-left-ne0.false c.in-Ended.is);
    }

pub returns-in-Stuck : goal.returns-in-Stuck
returns-in-Stuck c =
    let y = viewed c.args.r c.args.stack.now (state c.args.out.now c.args.index.now) in
    stuck-makes _ _ _ c.requires.room.numbered c.stuck-in-Stuck.ensures (turned y _ _ c.if-left-ne0.false c.in-Stuck.is)
