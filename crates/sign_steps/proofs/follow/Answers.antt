-- By the sign, after an operand.
use native.Mathlib.Omega.{arith}
use mathlib.Core.Path.{◌≡◌, sym, ap, ◌∙◌, subst}
use mathlib.Core.List.{List}
use Prim.Native.Nat.{ℕ}
use Rattle.signs.specs.declared.Sign.{Sign}
use Rattle.signs.specs.Signed.{Kinded}
use Rattle.turns.specs.Numbers.{follow_words}
use Rattle.turns.proofs.Making.{stuck-makes}
use Rattle.sign_steps.proofs.follow.Goals as goal

told : (n : ℕ) (s t : List ℕ) {x y : Sign} → x ≡ y → follow_words x n s t ≡ follow_words y n s t
told n s t e = ap (λ (q : Sign). follow_words q n s t) e

pub join-requires : goal.join-requires
join-requires c =
    let pre = c.requires in
    (subst Kinded c.in-Operator.is pre.kinded.0, pre.kinded.1, omega (arith, pre.room.long, pre.room.room))

pub returns-in-Blank : goal.returns-in-Blank
unfolding follow_words
returns-in-Blank c =
    record { numbered = c.requires.room.numbered; fit = c.requires.kinded.1; same = sym (told _ _ _ c.in-Blank.is) }

pub returns-in-Constant : goal.returns-in-Constant
unfolding follow_words
returns-in-Constant c = stuck-makes _ _ _ c.requires.room.numbered c.stuck.ensures (told _ _ _ c.in-Constant.is)

pub returns-in-Letter : goal.returns-in-Letter
unfolding follow_words
returns-in-Letter c = stuck-makes _ _ _ c.requires.room.numbered c.stuck-in-Letter.ensures (told _ _ _ c.in-Letter.is)

pub returns-in-Prefix : goal.returns-in-Prefix
unfolding follow_words
returns-in-Prefix c = stuck-makes _ _ _ c.requires.room.numbered c.stuck-in-Prefix.ensures (told _ _ _ c.in-Prefix.is)

pub returns-in-Operator : goal.returns-in-Operator
unfolding follow_words
returns-in-Operator c =
    record { numbered = c.requires.room.numbered; fit = c.join.ensures.1; same = c.join.ensures.0 _ ∙ sym (told _ _ _ c.in-Operator.is) }

pub returns-in-Open : goal.returns-in-Open
unfolding follow_words
returns-in-Open c = stuck-makes _ _ _ c.requires.room.numbered c.stuck-in-Open.ensures (told _ _ _ c.in-Open.is)

pub returns-in-Close : goal.returns-in-Close
unfolding follow_words
returns-in-Close c =
    let m = c.close.ensures in
    record { numbered = m.numbered; fit = m.fit; same = m.same ∙ sym (told _ _ _ c.in-Close.is) }

pub returns-in-Unknown : goal.returns-in-Unknown
unfolding follow_words
returns-in-Unknown c =
    stuck-makes _ _ _ c.requires.room.numbered c.stuck-in-Unknown.ensures (told _ _ _ c.in-Unknown.is)
