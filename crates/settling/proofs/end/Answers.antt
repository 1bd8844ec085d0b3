-- A word is put, and the prefixes follow.
use native.Mathlib.Omega.{arith}
use Rattle.placing.specs.State.{state}
use Rattle.settling.proofs.Settling.{put_any, put_made, end_room, end_settles}
use Rattle.settling.proofs.end.Goals as goal

pub settle-requires : goal.settle-requires
settle-requires c =
    let pre = c.requires in
    let before = state c.args.out.now c.args.index.now in
    let after = state c.put.new.out c.put.new.index in
    let placed = put_any before after c.args.w c.put.result c.unwrap_or-n.result c.unwrap_or-n.ensures c.put.ensures in
    let q = put_made c.args.w c.unwrap_or-n.result pre.numbered pre.wide (omega (arith, pre.room)) placed in
    record { room = end_room _ pre q; n_bound = q.small }

pub returns : goal.returns
returns c =
    let pre = c.requires in
    let before = state c.args.out.now c.args.index.now in
    let after = state c.put.new.out c.put.new.index in
    let placed = put_any before after c.args.w c.put.result c.unwrap_or-n.result c.unwrap_or-n.ensures c.put.ensures in
    let q = put_made c.args.w c.unwrap_or-n.result pre.numbered pre.wide (omega (arith, pre.room)) placed in
    end_settles before _ q c.settle.ensures
