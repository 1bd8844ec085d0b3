use mathlib.Core.Path.{ap, subst, ◌∙◌}
use Rattle.std.specs.Prelude.{Some}
use Rattle.sums.specs.Summed.{SummedOr}
use Rattle.closed_sums.proofs.Closing.{close-nothing}
use Rattle.closed_sums.proofs.close.Goals as goal

pub returns-in_err-sum : goal.returns-in_err-sum
returns-in_err-sum c = λ s₀ χ p. rw c.from_residual.ensures ((subst (SummedOr s₀ _ χ) c.in_err-sum.was p).1)

pub returns-in-None : goal.returns-in-None
returns-in-None c =
    λ s₀ χ p.
    close-nothing s₀ _ _ _ χ (subst (SummedOr s₀ _ χ) (c.in_ok-sum.was ∙ ap Some c.in-None.is) p) c.pack.ensures _ c.put.ensures

pub returns-in-Some : goal.returns-in-Some
returns-in-Some c s₀ χ p =
    let q = subst (SummedOr s₀ _ χ) (c.in_ok-sum.was ∙ ap Some c.in-Some.is) p in
    (q.1, q.2)
