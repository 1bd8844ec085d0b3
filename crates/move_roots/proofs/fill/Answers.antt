use borrow.Author.Rules.{rules}
use Prim.Native.Nat.{◌<◌}
use native.Mathlib.Omega.{arith}
use mathlib.Core.Bool.{true}
use Rattle.table.proofs.Accepted.{accepted-well-formed}
use Rattle.move_roots.proofs.Roots.{start_drafted, root_within, move-drafted}
use Rattle.move_roots.proofs.fill.Goals as goal

pub returns-then-state-eq0 : goal.returns-then-state-eq0
returns-then-state-eq0 c =
    record {
      drafted = rw c.if-state-eq0.true (start_drafted _ _ c.args.sample c.requires.drawn.accepted c.fill.ensures);
      upper_bound = omega arith;
    }

pub root-requires : goal.root-requires
root-requires c =
    let named = c.requires.drawn.named (omega (arith, c.if-state-eq0.false)) in
    omega (arith, named.inside, (accepted-well-formed true 16383 _ c.requires.drawn.accepted).few)

pub returns : goal.returns
returns c =
    let some : 0 < c.args.state = omega (arith, c.if-state-eq0.false) in
    let named = c.requires.drawn.named some in
    record {
      drafted = rw c.root.ensures (move-drafted _ _ _ c.args.state c.args.word c.args.class some named c.fill-2.ensures);
      upper_bound = omega (arith, c.root.ensures, root_within c.args.word c.args.class, named.inside);
    }
