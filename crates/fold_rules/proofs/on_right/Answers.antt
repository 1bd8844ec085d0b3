use mathlib.Core.Path.{refl}
use mathlib.Core.Bool.{true, false}
use Rattle.logic.specs.Formula.{conj, disj, until, weak, release, strong}
use Rattle.fold_rules.proofs.ByKind.{right_at, right_next, right_none}
use Rattle.fold_rules.proofs.on_right.Goals as goal

pub returns-then-constant : goal.returns-then-constant
returns-then-constant c = rw (right_at _ _ conj true c.in-5.is c.if-constant.true)

pub returns-else-constant : goal.returns-else-constant
returns-else-constant c = rw (right_at _ _ conj false c.in-5.is c.if-constant.false)

pub returns-then-constant-2 : goal.returns-then-constant-2
returns-then-constant-2 c = rw (right_at _ _ disj true c.in-6.is c.if-constant-2.true)

pub returns-else-constant-2 : goal.returns-else-constant-2
returns-else-constant-2 c = rw (right_at _ _ disj false c.in-6.is c.if-constant-2.false)

pub returns-in-7 : goal.returns-in-7
returns-in-7 c = rw (right_next _ _ c.in-7.is)

pub returns-in-8 : goal.returns-in-8
returns-in-8 c = rw (right_at _ _ until _ c.in-8.is refl)

pub returns-then-constant-3 : goal.returns-then-constant-3
returns-then-constant-3 c = rw (right_at _ _ weak true c.in-9.is c.if-constant-3.true)

pub returns-else-constant-3 : goal.returns-else-constant-3
returns-else-constant-3 c = rw (right_at _ _ weak false c.in-9.is c.if-constant-3.false)

pub returns-in-10 : goal.returns-in-10
returns-in-10 c = rw (right_at _ _ release _ c.in-10.is refl)

pub returns-then-constant-4 : goal.returns-then-constant-4
returns-then-constant-4 c = rw (right_at _ _ strong true c.in-11.is c.if-constant-4.true)

pub returns-else-constant-4 : goal.returns-else-constant-4
returns-else-constant-4 c = rw (right_at _ _ strong false c.in-11.is c.if-constant-4.false)

pub returns-in_default : goal.returns-in_default
returns-in_default c =
    let rest = c.in_default.in_default-own.rest in
    rw (right_none c.args.kind _ rest.0.0.0.0.0.0.1 rest.0.0.0.0.0.1 rest.0.0.0.1 rest.0.0.1 rest.0.1 rest.1 rest.0.0.0.0.1)
