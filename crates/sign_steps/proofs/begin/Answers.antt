-- By the sign, where an operand is to begin.
use native.Mathlib.Omega.{arith}
use mathlib.Core.Path.{◌≡◌, sym, ap, subst}
use mathlib.Core.List.{List}
use Prim.Native.Nat.{ℕ}
use Rattle.signs.specs.declared.Sign.{Sign}
use Rattle.signs.specs.Signed.{Kinded}
use Rattle.turns.specs.Numbers.{begin_words}
use Rattle.turns.proofs.Making.{stuck-makes, push_makes, end_makes}
use Rattle.sign_steps.proofs.begin.Goals as goal

told : (s t : List ℕ) {x y : Sign} → x ≡ y → begin_words x s t ≡ begin_words y s t
told s t e = ap (λ (q : Sign). begin_words q s t) e

pub pack-requires : goal.pack-requires
pack-requires c =
    (subst Kinded c.in-Constant.is c.requires.kinded, omega arith, omega arith)

pub pack-requires-in-Prefix : goal.pack-requires-in-Prefix
pack-requires-in-Prefix c =
    (subst Kinded c.in-Prefix.is c.requires.kinded, omega arith, omega arith)

pub returns-in-Blank : goal.returns-in-Blank
unfolding begin_words
returns-in-Blank c = record { numbered = c.requires.room.numbered; fit = tt; same = sym (told _ _ c.in-Blank.is) }

pub returns-in-Constant : goal.returns-in-Constant
unfolding begin_words
returns-in-Constant c = end_makes _ c.end-o.ensures (rw c.pack.ensures (told _ _ c.in-Constant.is))

pub returns-in-Letter : goal.returns-in-Letter
unfolding begin_words
returns-in-Letter c =
    record { numbered = c.requires.room.numbered; fit = omega arith; same = sym (told _ _ c.in-Letter.is) }

pub returns-in-Prefix : goal.returns-in-Prefix
unfolding begin_words
returns-in-Prefix c =
    push_makes _ _ _ _ c.requires.room.numbered c.push.ensures (rw c.pack-in-Prefix.ensures (told _ _ c.in-Prefix.is))

pub returns-in-Operator : goal.returns-in-Operator
unfolding begin_words
returns-in-Operator c = stuck-makes _ _ _ c.requires.room.numbered c.stuck.ensures (told _ _ c.in-Operator.is)

pub returns-in-Open : goal.returns-in-Open
unfolding begin_words
returns-in-Open c = push_makes _ _ _ _ c.requires.room.numbered c.push-in-Open.ensures (told _ _ c.in-Open.is)

pub returns-in-Close : goal.returns-in-Close
unfolding begin_words
returns-in-Close c = stuck-makes _ _ _ c.requires.room.numbered c.stuck-in-Close.ensures (told _ _ c.in-Close.is)

pub returns-in-Unknown : goal.returns-in-Unknown
unfolding begin_words
returns-in-Unknown c =
    stuck-makes _ _ _ c.requires.room.numbered c.stuck-in-Unknown.ensures (told _ _ c.in-Unknown.is)
