-- What is answered of a move that is placed in a slice or not.
use Prim.Native.Nat.{ℕ}
use native.Mathlib.Omega.{arith}
use mathlib.Core.Path.{◌≡◌, refl, sym, ap, ◌∙◌}
use mathlib.Core.Bool.{true, true≢false}
use mathlib.Core.List.{List}
use lib.ListN.{length, replicate}
use Rattle.refusals.specs.declared.Refusal.{Refusal}
use Rattle.refusals.specs.declared.Refusal.TheVariants.{ResultTooShort}
use Rattle.std.specs.Prelude.{Ok, Err}
use Rattle.refusals.specs.Refusals.{first}
use Rattle.table.specs.Answers.{Answer}
use Rattle.table.specs.Checks.{checked}
use Rattle.state_numbers.specs.Numbered.{Filled}
use Rattle.move_checks.specs.Left.{left_checks}
use Rattle.move_checks.proofs.Left.{left_inside}
use Rattle.move_placing.specs.Placed.{Placed, Known}
use Rattle.move_answers.specs.Answered.{Given, Answered}

-- what was placed is given, or the slice is cleared
module _ {t : List ℕ} {n v r : ℕ} {out e : List ℕ} (q : Placed t n v out e r) where
  pub given_made : (r ≡ 0 → ⊥) → Given t n v out e (Ok r)
  given_made z =
      let f = q.fit z in
      record { fit = λ y. (ap Ok f.1, f.2); unfit = λ y. absurd (true≢false (sym f.0 ∙ y)) }

  pub given_none : {c : List ℕ} → length e ≡ length out → r ≡ 0 → c ≡ replicate (length e) 0 → Given t n v out c (Err ResultTooShort)
  given_none l z y =
      record { fit = λ f. absurd (true≢false (sym f ∙ q.unfit z)); unfit = λ f. (refl, y ∙ ap (λ (x : ℕ). replicate x 0) l) }

pub left_known : (driven : ℕ) {t bytes starts : List ℕ} {total n : ℕ} → checked true 16383 t ≡ Ok tt → Filled t bytes starts total
    → first (left_checks n driven t) ≡ Ok tt → Known t bytes starts total n
left_known driven {t} {bytes} {starts} {total} {n} ok f e = record { accepted = ok; filled = f; inside = omega (arith, f.all, left_inside t n driven e) }

module _ {t : List ℕ} {n v driven : ℕ} where
  pub answered-refused : {out : List ℕ} {q : Refusal} → first (left_checks n driven t) ≡ Err q → Answered t n v driven out out (Err q)
  answered-refused {out} {q} d = record { refused = λ p e. (cc, refl); passed = λ e. absurd (other e) }
    where
      other : first (left_checks n driven t) ≡ Ok tt → ⊥
      other e = let z : ◌≡◌ {A = ℕ} 0 1 = cc in omega arith

  pub answered_given : {out e : List ℕ} {r : Answer} → first (left_checks n driven t) ≡ Ok tt → Given t n v out e r → Answered t n v driven out e r
  answered_given d g = record { refused = λ p e. absurd (other p e); passed = λ e. g }
    where
      other : (p : Refusal) → first (left_checks n driven t) ≡ Err p → ⊥
      other p e = let z : ◌≡◌ {A = ℕ} 0 1 = cc in omega arith
