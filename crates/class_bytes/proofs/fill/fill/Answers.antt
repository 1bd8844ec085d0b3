use Prim.Native.Nat.{ℕ, ◌≤◌, ◌<◌, ◌-◌}
use mathlib.Core.Path.{◌≡◌, ap, ap₂, ◌∙◌}
use mathlib.Core.List.{List, ◌++◌}
use native.Mathlib.Omega.{arith}
use native.Mathlib.Numerals.{add-one}
use borrow.Author.Rules.{rules}
use lib.ListN.{length, take, drop, set, length-set}
use lib.Seq.{take_at, take_all, length-take-le}
use Rattle.table.specs.Steps.{class_bytes}
use Rattle.logic.proofs.Slices.{copy_more}
use Rattle.class_bytes.proofs.Words.{length-class_bytes}
use Rattle.class_bytes.proofs.fill.fill.Goals as goal

pub byte_at-requires : goal.byte_at-requires
byte_at-requires c =
    let i : ℕ = c.loop-i.i in
    let cs : List ℕ = class_bytes c.args.table.now in
    let h : i ≤ length cs = omega (arith, length-class_bytes c.args.table.now) in (
      c.requires.0,
      omega arith,
      record {
        room = omega (arith, c.loop-i.invariant.0, c.requires.1);
        so_far = ap (take i) c.loop-i.invariant.1 ∙ take_at (take i cs) (drop i c.args.bytes.now) i (length-take-le i cs h);
      },
    )

pub loop-i-preserved : goal.loop-i-preserved
loop-i-preserved c =
    let inv = c.loop-i.invariant in
    let i : ℕ = c.loop-i.i in
    let t : List ℕ = c.args.table.now in
    let d : List ℕ = c.args.bytes.now in
    let below : i < length t = omega arith in (
      length-set c.loop-i.bytes i c.byte_at.result ∙ inv.0,
      rw (add-one i)
          (ap₂ (λ (l : List ℕ) (v : ℕ). set l i v) inv.1 c.byte_at.ensures
          ∙ copy_more (class_bytes t) d i (omega (arith, length-class_bytes t)) (omega (arith, c.requires.1))),
    )

pub returns : goal.returns
returns c =
    let i : ℕ = c.loop-i.i in
    let t : List ℕ = c.args.table.now in
    let h : i ≡ length t = omega arith in
    c.loop-i.invariant.1
    ∙ ap₂ ◌++◌ (take_all i (class_bytes t) (omega (arith, length-class_bytes t))) (ap (λ (n : ℕ). drop n c.args.bytes.now) h)
