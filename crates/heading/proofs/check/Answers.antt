-- Each check refuses where all before it pass.
use Prim.Native.Nat.{◌≤◌}
use native.Mathlib.Omega.{arith}
use mathlib.Core.Path.{◌≡◌, sym, ap, ◌∙◌}
use lib.ListN.{length, length-drop}
use borrow.Author.Tests.{eqb-true}
use Rattle.std.proofs.lemmas.Result.{err_from_is_err_and}
use Rattle.table.specs.Header.{count, body, header_of}
use Rattle.heading.proofs.Order.{whole_body, words-read, nothing-counted, no_word, too_many, differing, words-refused, header_wrong, header_right}
use Rattle.heading.proofs.check.Goals as goal

pub returns-then-is_empty : goal.returns-then-is_empty
returns-then-is_empty c = sym (no_word _ _ _ (nothing-counted c.args.table.now (eqb-true _ _ (sym c.is_empty.ensures ∙ c.if-is_empty.true))))

pub returns-then-count-eq0 : goal.returns-then-count-eq0
returns-then-count-eq0 c = sym (no_word _ _ _ (sym c.right-count.ensures ∙ c.if-count-eq0.true))

pub returns-then-limit-count : goal.returns-then-limit-count
returns-then-limit-count c =
    sym (too_many _ _ _ (λ e. c.if-count-eq0.false (c.right-count.ensures ∙ e)) (omega (arith, c.right-count.ensures, c.if-limit-count.true)))

-- the header counts as many words as the limit allows, and at least one
pub returns-then-count-table : goal.returns-then-count-table
returns-then-count-table c =
    let t = c.args.table.now in
    let some : count t ≡ 0 → ⊥ = λ e. c.if-count-eq0.false (c.right-count.ensures ∙ e) in
    let within : count t ≤ c.args.limit = omega (arith, c.right-count.ensures, c.if-limit-count.false) in
    sym (differing _ _ t some within (λ e. c.if-count-table.true (c.right-count.ensures ∙ e ∙ length-drop 1 t)))

-- and it counts the words that follow, which were checked
pub of-requires : goal.of-requires
of-requires c = record { plain_only = _; limit = _; accepted = sym c.in_ok-check.ensures; small = omega arith }

pub returns-then-header-of : goal.returns-then-header-of
returns-then-header-of c =
    let t = c.args.table.now in
    let some : count t ≡ 0 → ⊥ = λ e. c.if-count-eq0.false (c.right-count.ensures ∙ e) in
    let within : count t ≤ c.args.limit = omega (arith, c.right-count.ensures, c.if-limit-count.false) in
    let same : count t ≡ length (body t) = sym c.right-count.ensures ∙ c.if-count-table.false ∙ sym (length-drop 1 t) in
    sym (header_wrong _ _ t some within same (words-read _ _ t c.in_ok-check.ensures) (λ e. c.if-header-of.true (e ∙ ap header_of (sym (whole_body t)) ∙ sym c.of.ensures)))

pub returns-in_err-check : goal.returns-in_err-check
returns-in_err-check c =
    let p = err_from_is_err_and c.from_residual.result c.from_residual.ensures.1 in
    let t = c.args.table.now in
    let some : count t ≡ 0 → ⊥ = λ e. c.if-count-eq0.false (c.right-count.ensures ∙ e) in
    let within : count t ≤ c.args.limit = omega (arith, c.right-count.ensures, c.if-limit-count.false) in
    let same : count t ≡ length (body t) = sym c.right-count.ensures ∙ c.if-count-table.false ∙ sym (length-drop 1 t) in
    rw (p.1, p.2) (sym (words-refused _ _ t some within same (words-read _ _ t c.in_err-check.ensures)))

pub returns : goal.returns
returns c =
    let t = c.args.table.now in
    let some : count t ≡ 0 → ⊥ = λ e. c.if-count-eq0.false (c.right-count.ensures ∙ e) in
    let within : count t ≤ c.args.limit = omega (arith, c.right-count.ensures, c.if-limit-count.false) in
    let same : count t ≡ length (body t) = sym c.right-count.ensures ∙ c.if-count-table.false ∙ sym (length-drop 1 t) in
    sym (header_right _ _ t some within same (words-read _ _ t c.in_ok-check.ensures) (c.if-header-of.false ∙ c.of.ensures ∙ ap header_of (whole_body t)))
