-- A word is put in one of the three ways of proofs/Putting.
use native.Mathlib.Numerals.{add-one}
use native.Mathlib.Omega.{arith}
use Rattle.placing.proofs.Putting.{put-present, put_full, put_end}
use Rattle.placing.proofs.put.put.Goals as goal

pub returns-in-Some : goal.returns-in-Some
returns-in-Some c = let f = c.in-Some.ensures in (f.0, put-present _ c.requires c.in-Some.found f.0 f.1)

pub returns-then-n-ge16383 : goal.returns-then-n-ge16383
returns-then-n-ge16383 c = put_full _ c.requires 0 (omega arith) c.in_default.ensures (omega (arith, c.count-n.ensures))

pub returns-then-out-n : goal.returns-then-out-n
returns-then-out-n c = put_full _ c.requires 0 (omega arith) c.in_default.ensures (omega (arith, c.count-n.ensures))

pub add-requires : goal.add-requires
add-requires c = omega (arith, c.count-n.ensures)

pub returns : goal.returns
returns c =
    let h = c.requires in
    let counted = c.count-n.ensures in (
      omega arith,
      rw (add-one, counted)
          (put_end _ h 0 (omega arith) c.in_default.ensures (omega (arith, counted)) c.add.new.index (omega arith) (c.add.ensures _ h.indexed)),
    )
