-- What lies in Delta-2 is plain, and so the normal form's table passes the checks of every step that takes plain tables only.
use Prim.Native.Nat.{ℕ, ◌≤◌, ◌<◌}
use native.Mathlib.Omega.{arith}
use mathlib.Core.Path.{◌≡◌, subst}
use mathlib.Core.Logic.{◌⊎◌, inl, inr}
use mathlib.Core.Bool.{Bool, true, ◌&&◌}
use mathlib.Core.List.{List}
use lib.ListN.{length}
use lib.Dec.{T}
use Rattle.logic.specs.Formula.{Formula, Binary, conj, disj, until, weak, release, strong, implies}
use Rattle.logic.specs.Hierarchy.{Closing, boolean, least, greatest, closes, Closure, base, step, join, Atomic, constant, literal, Δ₂}
use Rattle.logic.specs.NegationNormalForm.{plain_binary, is_plain}
use Rattle.transforms.specs.NormalForm.{normal_form}
use Rattle.transforms.specs.Folding.{fold}
use Rattle.logic.proofs.Tests.{T_and}
use Rattle.std.specs.Prelude.{Ok}
use Rattle.table.specs.Table.{rule}
use Rattle.table.specs.Checks.{checked}
use Rattle.table.specs.Steps.{fixpoints, normal_table}
use Rattle.table.proofs.Accepted.{accepted-well-formed}
use Rattle.numbering.proofs.Accepted.{accepted-table_of}
use Rattle.normal_laws.proofs.Promise.{rule-normal_table, normal-Δ₂, folded_letters}
use Rattle.normal_laws.proofs.Subformulas.{rule-plain}

closes-plain : (c : Closing) (o : Binary) → T (closes c o) → T (plain_binary o)
closes-plain c conj h = tt
closes-plain c disj h = tt
closes-plain c until h = tt
closes-plain c weak h = tt
closes-plain c release h = tt
closes-plain c strong h = tt
closes-plain boolean implies h = h
closes-plain least implies h = h
closes-plain greatest implies h = h

closure_plain : {B : Formula → Type 0} {c : Closing} {φ : Formula} → ((ψ : Formula) → B ψ → T (is_plain ψ)) → Closure B c φ → T (is_plain φ)
unfolding is_plain
closure_plain {φ = φ} h (base b) = h φ b
closure_plain h (step n p) = closure_plain h p
closure_plain {c = c} h (join {o} {φ} {ψ} n p q) =
    (T_and (plain_binary o && is_plain φ) (is_plain ψ)).1 ((T_and (plain_binary o) (is_plain φ)).1 (closes-plain c o n, closure_plain h p), closure_plain h q)

atomic_plain : (φ : Formula) → Atomic φ → T (is_plain φ)
unfolding is_plain
atomic_plain φ constant = tt
atomic_plain φ literal = tt

pub Δ₂-plain : (φ : Formula) → Δ₂ φ → T (is_plain φ)
Δ₂-plain φ d = closure_plain second d
  where
    first : {c : Closing} (ψ : Formula) → Closure (Closure Atomic boolean) c ψ → T (is_plain ψ)
    first ψ = closure_plain (λ χ. closure_plain atomic_plain)

    second : (ψ : Formula) → Closure (Closure (Closure Atomic boolean) greatest) least ψ ⊎ Closure (Closure (Closure Atomic boolean) least) greatest ψ → T (is_plain ψ)
    second ψ (inl s) = closure_plain first s
    second ψ (inr p) = closure_plain first p

module _ (limit : ℕ) (t : List ℕ) (ok : checked true limit t ≡ Ok tt) (small : limit ≤ 16383) (short : length (normal_table t) ≤ 16383) where
  pub normal-plain : (plain_only : Bool) → checked plain_only 16383 (normal_table t) ≡ Ok tt
  unfolding normal_table
  normal-plain b =
      let plain : T (is_plain (fold (normal_form (fixpoints t) (rule t)))) =
      subst (λ (φ : Formula). T (is_plain φ)) (rule-normal_table limit t ok small short) (Δ₂-plain (rule (normal_table t)) (normal-Δ₂ limit t ok small short)) in
      let letters = folded_letters limit t ok small (λ p. (0 < p) × (p ≤ 32)) (rule-plain small (accepted-well-formed true limit t ok)).1 in
      accepted-table_of b 16383 (fold (normal_form (fixpoints t) (rule t))) (plain, letters) short (omega arith)
