-- The table first, then whether the bytes are enough, and then the bytes.
use mathlib.Core.Path.{◌≡◌, sym, ◌∙◌}
use mathlib.Core.Bool.{true}
use Prim.Native.Nat.{◌-◌, ◌≤◌}
use native.Mathlib.Omega.{arith}
use lib.ListN.{length}
use borrow.Author.Rules.{rules}
use Rattle.std.specs.Prelude.{Ok}
use Rattle.std.proofs.lemmas.Result.{err_from_is_err_and}
use Rattle.table.specs.Header.{headed_checked}
use Rattle.table.specs.Frame.{class_step}
use Rattle.table.proofs.Frame.{refused, refused-result, too_long, too_long-result, made, class-early}
use Rattle.heading.proofs.Order.{some_word}
use Rattle.classes.proofs.Room.{too_short, enough, long_enough, written}
use Rattle.classes.proofs.classify.Goals as goal

pub overflow_sub-table : goal.overflow_sub-table
overflow_sub-table c =
    let accepted : headed_checked true 16383 c.args.table.now ≡ Ok tt = sym c.in_ok-check.ensures in
    omega (arith, some_word _ _ _ (accepted))

pub returns-then-bytes-table : goal.returns-then-bytes-table
unfolding headed_checked
returns-then-bytes-table c =
    let accepted : headed_checked true 16383 c.args.table.now ≡ Ok tt = sym c.in_ok-check.ensures in
    let t = c.args.table.now in
    let b = c.args.bytes.now in
    let a = accepted in
    let f = too_short t a b (omega (arith, c.if-bytes-table.true)) in
    record { value = sym (too_long class_step t b a f); bytes_after = c.fill.ensures.after (λ y e. e) ∙ sym (too_long-result class_step t b a f) }

pub slice_bounds-fill-count : goal.slice_bounds-fill-count
slice_bounds-fill-count c =
    let accepted : headed_checked true 16383 c.args.table.now ≡ Ok tt = sym c.in_ok-check.ensures in
    omega (arith, some_word _ _ _ (accepted))

pub slice_bounds-fill-start : goal.slice_bounds-fill-start
slice_bounds-fill-start c =
    let accepted : headed_checked true 16383 c.args.table.now ≡ Ok tt = sym c.in_ok-check.ensures in
    omega (arith, some_word _ _ _ (accepted))

pub fill-requires-2 : goal.fill-requires-2
fill-requires-2 c =
    let accepted : headed_checked true 16383 c.args.table.now ≡ Ok tt = sym c.in_ok-check.ensures in
    enough c.args.table.now (accepted) c.args.bytes.now (omega (arith, c.if-bytes-table.false))

pub returns-in_err-check : goal.returns-in_err-check
unfolding headed_checked
returns-in_err-check c =
    let s = c.args in
    let e = sym c.in_err-check.ensures in
    let p = err_from_is_err_and c.from_residual.result c.from_residual.ensures.1 in
    rw (p.1, p.2) (record { value = sym (refused class_step s.table.now s.bytes.now _ e); bytes_after = sym (refused-result class_step s.table.now s.bytes.now class-early _ e) })

pub returns : goal.returns
unfolding headed_checked
returns c =
    let accepted : headed_checked true 16383 c.args.table.now ≡ Ok tt = sym c.in_ok-check.ensures in
    let t = c.args.table.now in
    let b = c.args.bytes.now in
    let a = accepted in
    let h : length t - 1 ≤ length b = omega (arith, c.if-bytes-table.false) in
    record { value = sym (made class_step t b a (long_enough t a b h)); bytes_after = c.fill-2.ensures ∙ sym (written t a b h) }
