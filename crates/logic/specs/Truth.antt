-- Truth over a lasso as a Bool function of the position: a search along as many positions as the lasso has samples.
-- That many always do: from a position in the loop they pass the whole loop, and from one before it they reach its end.
-- `truth-holds` of proofs/Lasso/Truth.antt says that the answer is that of the semantics.
-- What each operator does to sequences is one table, which truth, the looped operators and the writers of rows go by.
use Rattle.std.specs.Prelude.{ℕ, zero, suc, ◌-◌, Bool, true, false, not, cond, ◌&&◌, ◌||◌, length, ltb}
use Rattle.std.specs.Bool.{beq}
use Rattle.logic.specs.Formula.{Formula, Unary, Binary, const, lit, un, bin, next, neg, finally, globally, conj, disj, until, weak, release, strong, implies}
use Rattle.logic.specs.Lasso.{Lasso, letter_in, word}

-- a Bool at each position
abbrev pub Sequence : Type 0
Sequence = ℕ → Bool

-- a function of two values, position by position
abbrev pub across : (Bool → Bool → Bool) → Sequence → Sequence → Sequence
across t f g i = t (f i) (g i)

-- what an operator makes of the values of its operands, left and right: a value at each position by itself; the right one's at the next
-- position; or a fixpoint, least or greatest, of: the goal now, or the keep now and the same at the next position
pub data Operation : Type 0 where
  each : (Bool → Bool → Bool) → Operation
  shifted : Operation
  fixpoint : (goal keep : Bool → Bool → Bool) (greatest : Bool) → Operation

-- an operator with one operand has it on the right; F a is true U a, and G a is false R a
abbrev pub unary_operation : Unary → Operation
unary_operation next = shifted
unary_operation neg = each (λ p q. not q)
unary_operation finally = fixpoint (λ p q. q) (λ p q. true) false
unary_operation globally = fixpoint (λ p q. false) (λ p q. q) true

abbrev pub binary_operation : Binary → Operation
binary_operation conj = each (λ p q. p && q)
binary_operation disj = each (λ p q. p || q)
binary_operation until = fixpoint (λ p q. q) (λ p q. p) false
binary_operation weak = fixpoint (λ p q. q) (λ p q. p) true
binary_operation release = fixpoint (λ p q. p && q) (λ p q. q) true
binary_operation strong = fixpoint (λ p q. p && q) (λ p q. q) false
binary_operation implies = each (λ p q. not p || q)

-- along the n positions from i on: goal g reached while q holds; the answer c where all n have q and none is a goal
unfoldable pub sweep : Sequence → Sequence → Bool → ℕ → ℕ → Bool
sweep g q c i zero = c
sweep g q c i (suc n) = g i || (q i && sweep g q c (suc i) n)

-- an operation over the endless positions, with L of them to search
abbrev pub applied : ℕ → Operation → Sequence → Sequence → Sequence
applied L (each t) f g i = t (f i) (g i)
applied L shifted f g i = g (suc i)
applied L (fixpoint goal keep greatest) f g i = sweep (across goal f g) (across keep f g) greatest i L

-- the same over L positions of which the last is followed by position s: a sweep to the end is closed with what a sweep from s on comes to
abbrev pub closed_sweep : ℕ → ℕ → Sequence → Sequence → Bool → Sequence
closed_sweep L s g q c i = sweep g q (sweep g q c s (L - s)) i (L - i)

abbrev pub looped : ℕ → ℕ → Operation → Sequence → Sequence → Sequence
looped L s (each t) f g i = t (f i) (g i)
looped L s shifted f g i = cond (ltb (suc i) L) (g (suc i)) (g s)
looped L s (fixpoint goal keep greatest) f g i = closed_sweep L s (across goal f g) (across keep f g) greatest i

unfoldable pub truth : Lasso → Formula → Sequence
truth r (const b) i = b
truth r (lit b n) i = beq b (letter_in (word r i) n)
truth r (un o a) i = applied (length r.samples) (unary_operation o) (truth r a) (truth r a) i
truth r (bin o a b) i = applied (length r.samples) (binary_operation o) (truth r a) (truth r b) i
