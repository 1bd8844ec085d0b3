-- Refused by the first check that applies; else two recordings, with all that a comparison rests on.
use mathlib.Core.Path.{◌≡◌, sym, ap, ◌∙◌}
use Prim.Native.Nat.{ℕ}
use lib.ListN.{length}
use Rattle.std.specs.Prelude.{Ok}
use Rattle.std.proofs.lemmas.Result.{err_from_is_err_and}
use Rattle.refusals.specs.Refusals.{first}
use Rattle.logic.specs.Lasso.{lasso_of}
use Rattle.agreement.specs.Comparing.{comparison_checks, compared}
use Rattle.agreement.proofs.Promise.{Comparable, comparable, refused, accepted}
use Rattle.comparing.proofs.compare.Goals as goal

pub first_difference-requires : goal.first_difference-requires
first_difference-requires c =
    let passed : first (comparison_checks (length c.args.samples.now) c.args.start c.args.driven (length c.args.others.now) c.args.other_start c.args.other_driven) ≡ Ok tt = sym c.in_ok-check_both.ensures in
    let facts : Comparable c.args.samples.now c.args.start c.args.driven c.args.others.now c.args.other_start c.args.other_driven = comparable _ _ _ _ _ _ passed in
    let f = facts in (f.few_samples, f.few_samples', f.inside, f.inside', f.few)

pub returns-in_err-check_both : goal.returns-in_err-check_both
returns-in_err-check_both c =
    let a = c.args in
    let p = err_from_is_err_and c.from_residual.result c.from_residual.ensures.1 in
    rw (p.1, p.2) (sym (refused a.samples.now a.start a.driven a.others.now a.other_start a.other_driven _ (sym c.in_err-check_both.ensures)))

pub returns : goal.returns
returns c =
    let passed : first (comparison_checks (length c.args.samples.now) c.args.start c.args.driven (length c.args.others.now) c.args.other_start c.args.other_driven) ≡ Ok tt = sym c.in_ok-check_both.ensures in
    let facts : Comparable c.args.samples.now c.args.start c.args.driven c.args.others.now c.args.other_start c.args.other_driven = comparable _ _ _ _ _ _ passed in
    let a = c.args in
    c.first_difference.ensures
    ∙ ap (λ (k : ℕ). compared (lasso_of a.samples.now a.start a.driven) (lasso_of a.others.now a.other_start k)) (facts).counts
    ∙ sym (accepted a.samples.now a.start a.driven a.others.now a.other_start a.other_driven (passed))
