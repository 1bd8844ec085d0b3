use Prim.Native.Nat.{ℕ, ◌+◌, ◌-◌, ◌<◌}
use native.Mathlib.Omega.{arith}
use native.Mathlib.Numerals.{add-one}
use mathlib.Core.Path.{◌≡◌, refl, ap, ◌∙◌}
use mathlib.Core.List.{List, [], ◌∷◌}
use lib.ListN.{length, take, set}
use Rattle.std.specs.Prelude.{Ok}
use Rattle.table.specs.Header.{header_of, body}
use Rattle.table.specs.Answers.{or_zero}
use Rattle.headed_answers.proofs.finish.Goals.{in_default-via-in-Some+else-n-gt0, in_default-via-in_default}
use Rattle.headed_answers.proofs.finish.Goals as goal

same-words : (n : ℕ) (s : List ℕ) → take (n + 1 - 1) (body s) ≡ take n (body s)
same-words n s = let e : n + 1 - 1 ≡ n = omega arith in ap (λ (k : ℕ). take k (body s)) e

put_first : (s : List ℕ) (w : ℕ) → 0 < length s → set s 0 w ≡ w ∷ body s
put_first [] w h = absurd (omega arith)
put_first (x ∷ s) w h = refl

pub returns-in_default : goal.returns-in_default
returns-in_default c =
    let none : or_zero c.args.n ≡ 0 =
    elim c.in_default.branch [
      | in_default-via-in-Some+else-n-gt0 w ↦ rw w.in-Some.is (omega (arith, w.if-n-gt0.false))
      | in_default-via-in_default w ↦ rw w.in_default.is refl
    ] in
    record { none = λ z. (refl, c.fill.ensures.after (λ y e. e)); some = λ z. absurd (z none) }

pub overflow_add-end : goal.overflow_add-end
overflow_add-end c =
    let pre = rw c.in-Some.is at c.requires in
    let inside : c.in-Some.n < length c.args.res.now = pre.within (λ e. omega (arith, c.if-n-gt0.true)) in
    omega (arith, inside)

pub slice_bounds-of-end : goal.slice_bounds-of-end
slice_bounds-of-end c =
    let pre = rw c.in-Some.is at c.requires in
    let inside : c.in-Some.n < length c.args.res.now = pre.within (λ e. omega (arith, c.if-n-gt0.true)) in
    omega (arith, inside)

pub of-requires : goal.of-requires
of-requires c =
    let pre = rw c.in-Some.is at c.requires in
    rw (same-words c.in-Some.n c.args.res.now) (pre.words (λ e. omega (arith, c.if-n-gt0.true)))

pub bounds-res-0 : goal.bounds-res-0
bounds-res-0 c =
    let pre = rw c.in-Some.is at c.requires in
    let inside : c.in-Some.n < length c.args.res.now = pre.within (λ e. omega (arith, c.if-n-gt0.true)) in
    omega (arith, inside)

pub returns-in-Some : goal.returns-in-Some
returns-in-Some c =
    let pre = rw c.in-Some.is at c.requires in
    let n = c.in-Some.n in
    let s = c.args.res.now in
    let some = c.if-n-gt0.true in
    let inside : n < length s = pre.within (λ e. omega (arith, some)) in
    rw c.in-Some.is
    (record {
      none = λ z. absurd (omega (arith, some));
      some = λ z. (ap Ok (add-one n), put_first s c.of.result (omega (arith, inside)) ∙ ap (λ (w : ℕ). w ∷ body s) (c.of.ensures ∙ ap header_of (same-words n s)));
    })
