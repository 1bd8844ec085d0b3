use Prim.Native.Nat.{ℕ, ◌-◌, ◌≤◌}
use mathlib.Core.Path.{◌≡◌, sym, ◌∙◌}
use native.Mathlib.Omega.{arith}
use borrow.Author.Rules.{rules}
use lib.ListN.{take}
use lib.Seq.{length-take-le, get_or-take}
use Rattle.lookup.specs.Index.{count_of, half_of}
use Rattle.lookup.proofs.Laws.{Trail, trail_start, trail_falls, trail_next, trail_found, trail_end}
use Rattle.lookup.proofs.find.Goals as goal

pub loop-n-init : goal.loop-n-init
loop-n-init c =
    let start : Trail (half_of c.args.index.now) (take (count_of c.args.index.now) c.args.words.now) c.args.w c.from-n.result =
    rw (c.from-n.ensures, c.bucket.ensures.0) (trail_start c.requires.1 c.args.w) in
    (rw (length-take-le _ _ c.requires.0) at start.within, start)

pub returns-then-words-n : goal.returns-then-words-n
returns-then-words-n c =
    let n : ℕ = c.loop-n.n in (
      omega arith,
      trail_found c.requires.1 _ n c.loop-n.invariant.1 (omega arith)
          (get_or-take (count_of c.args.index.now) c.args.words.now (n - 1) 0 (omega arith) ∙ c.if-words-n.true),
    )

pub loop-n-smaller : goal.loop-n-smaller
loop-n-smaller c =
    rw c.from-n-in-loop-n.ensures (trail_falls c.requires.1 _ _ c.loop-n.invariant.1 (omega arith))

pub loop-n-preserved : goal.loop-n-preserved
loop-n-preserved c =
    let at = c.loop-n in
    let on : Trail (half_of c.args.index.now) (take (count_of c.args.index.now) c.args.words.now) c.args.w c.from-n-in-loop-n.result =
    rw c.from-n-in-loop-n.ensures
    (trail_next c.requires.1 _ _ at.invariant.1 (omega arith)
    (λ e. c.if-words-n.false (sym (get_or-take (count_of c.args.index.now) c.args.words.now (at.n - 1) 0 (omega arith)) ∙ e))) in
    (rw (length-take-le _ _ c.requires.0) at on.within, on)

pub returns : goal.returns
returns c =
    trail_end (rw none at c.loop-n.invariant.1)
  where
    none : c.loop-n.n ≡ 0
    none = omega arith
