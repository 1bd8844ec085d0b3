use native.Mathlib.Omega.{arith}
use mathlib.Core.Path.{ap, subst, ◌∙◌}
use Rattle.sums.specs.Summed.{SmallOr}
use Rattle.sums.proofs.Growth.{placing_small, join-full, join-nothing, join_no_room, join_at, grown_as}
use Rattle.std.specs.Prelude.{Some}
use Rattle.sums.proofs.join.Goals as goal

pub pack-requires : goal.pack-requires
pack-requires c =
    let pre = c.requires in
    (omega arith, subst SmallOr (c.in_ok-before.was ∙ ap Some c.in-Some.is) pre.1, placing_small (c.in_ok-p.ensures pre.0.formula pre.0.drafted).1)

pub put-requires : goal.put-requires
put-requires c =
    let pre = c.requires.0 in
    (c.in_ok-p.ensures pre.formula pre.drafted).1.numbered

pub returns-in_err-before : goal.returns-in_err-before
returns-in_err-before c = λ φ d st. rw c.from_residual.ensures (grown_as c.in_err-before.was (join-full φ st c.requires.0.numbered))

pub returns-in_err-p : goal.returns-in_err-p
returns-in_err-p c =
    λ φ d st.
    rw c.from_residual-in_err-p.ensures (grown_as c.in_ok-before.was (join_no_room φ st c.in_ok-before.before (c.in_err-p.ensures φ d)))

pub returns-in-None : goal.returns-in-None
returns-in-None c = λ φ d st. grown_as (c.in_ok-before.was ∙ ap Some c.in-None.is) (join-nothing φ st (Some c.in_ok-p.p) (c.in_ok-p.ensures φ d))

pub returns-in-Some : goal.returns-in-Some
returns-in-Some c =
    λ φ d st.
    let p = c.in_ok-p.ensures φ d in
    grown_as (c.in_ok-before.was ∙ ap Some c.in-Some.is) (join_at φ st _ p.0 p.1 _ c.pack.ensures c.put.ensures)
