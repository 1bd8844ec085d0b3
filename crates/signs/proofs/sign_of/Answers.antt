-- A byte is the sign that the reader takes it for: each first byte in turn, and no other.
use mathlib.Core.Path.{sym, ap}
use Prim.Native.Nat.{ℕ}
use borrow.Author.Tests.{ne_eqb}
use Rattle.std.proofs.Common.{arith}
use Rattle.grammar.specs.Reader.{mark_of}
use Rattle.signs.specs.Signed.{signed}
use Rattle.signs.proofs.sign_of.Goals as goal

pub returns-in-32 : goal.returns-in-32
unfolding mark_of
returns-in-32 c = sym (ap (λ (b : ℕ). signed (mark_of b)) c.in-32.is)

pub returns-in-116 : goal.returns-in-116
unfolding mark_of
returns-in-116 c = sym (ap (λ (b : ℕ). signed (mark_of b)) c.in-116.is)

pub returns-in-102 : goal.returns-in-102
unfolding mark_of
returns-in-102 c = sym (ap (λ (b : ℕ). signed (mark_of b)) c.in-102.is)

pub returns-in-112 : goal.returns-in-112
unfolding mark_of
returns-in-112 c = sym (ap (λ (b : ℕ). signed (mark_of b)) c.in-112.is)

pub returns-in-33 : goal.returns-in-33
unfolding mark_of
returns-in-33 c = sym (ap (λ (b : ℕ). signed (mark_of b)) c.in-33.is)

pub returns-in-88 : goal.returns-in-88
unfolding mark_of
returns-in-88 c = sym (ap (λ (b : ℕ). signed (mark_of b)) c.in-88.is)

pub returns-in-70 : goal.returns-in-70
unfolding mark_of
returns-in-70 c = sym (ap (λ (b : ℕ). signed (mark_of b)) c.in-70.is)

pub returns-in-71 : goal.returns-in-71
unfolding mark_of
returns-in-71 c = sym (ap (λ (b : ℕ). signed (mark_of b)) c.in-71.is)

pub returns-in-38 : goal.returns-in-38
unfolding mark_of
returns-in-38 c = sym (ap (λ (b : ℕ). signed (mark_of b)) c.in-38.is)

pub returns-in-124 : goal.returns-in-124
unfolding mark_of
returns-in-124 c = sym (ap (λ (b : ℕ). signed (mark_of b)) c.in-124.is)

pub returns-in-45 : goal.returns-in-45
unfolding mark_of
returns-in-45 c = sym (ap (λ (b : ℕ). signed (mark_of b)) c.in-45.is)

pub returns-in-85 : goal.returns-in-85
unfolding mark_of
returns-in-85 c = sym (ap (λ (b : ℕ). signed (mark_of b)) c.in-85.is)

pub returns-in-87 : goal.returns-in-87
unfolding mark_of
returns-in-87 c = sym (ap (λ (b : ℕ). signed (mark_of b)) c.in-87.is)

pub returns-in-82 : goal.returns-in-82
unfolding mark_of
returns-in-82 c = sym (ap (λ (b : ℕ). signed (mark_of b)) c.in-82.is)

pub returns-in-77 : goal.returns-in-77
unfolding mark_of
returns-in-77 c = sym (ap (λ (b : ℕ). signed (mark_of b)) c.in-77.is)

pub returns-in-40 : goal.returns-in-40
unfolding mark_of
returns-in-40 c = sym (ap (λ (b : ℕ). signed (mark_of b)) c.in-40.is)

pub returns-in-41 : goal.returns-in-41
unfolding mark_of
returns-in-41 c = sym (ap (λ (b : ℕ). signed (mark_of b)) c.in-41.is)

pub returns-in_default : goal.returns-in_default
unfolding mark_of
returns-in_default c =
    simp (
      ne_eqb c.args.b 32 (omega arith),
      ne_eqb c.args.b 116 (omega arith),
      ne_eqb c.args.b 102 (omega arith),
      ne_eqb c.args.b 112 (omega arith),
      ne_eqb c.args.b 33 (omega arith),
      ne_eqb c.args.b 88 (omega arith),
      ne_eqb c.args.b 70 (omega arith),
      ne_eqb c.args.b 71 (omega arith),
      ne_eqb c.args.b 38 (omega arith),
      ne_eqb c.args.b 124 (omega arith),
      ne_eqb c.args.b 45 (omega arith),
      ne_eqb c.args.b 85 (omega arith),
      ne_eqb c.args.b 87 (omega arith),
      ne_eqb c.args.b 82 (omega arith),
      ne_eqb c.args.b 77 (omega arith),
      ne_eqb c.args.b 40 (omega arith),
      ne_eqb c.args.b 41 (omega arith),
    )
