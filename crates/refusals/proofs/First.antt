-- What the first check that applies says, of lists of checks one after the other.
use Prim.Native.Nat.{ℕ}
use mathlib.Core.Path.{◌≡◌, refl, subst}
use mathlib.Core.Logic.{◌↔◌}
use mathlib.Core.Bool.{Bool, true, false}
use mathlib.Core.List.{List, [], ◌∷◌, ◌++◌}
use native.Mathlib.Omega.{arith}
use Rattle.refusals.specs.declared.Refusal.{Refusal}
use Rattle.refusals.specs.Refusals.{Outcome}
use Rattle.std.specs.Prelude.{Ok, Err}
use Rattle.refusals.specs.Refusals.{Check, decide_by, first}

-- every condition of a list of checks fails to apply
abbrev pub Passed : List Check → Type 0
Passed [] = Unit {0}
Passed (c ∷ cs) = (c.fails ≡ false) × Passed cs

passed_by : (b : Bool) (r : Refusal) (o : Outcome) → decide_by b r o ≡ Ok tt → (b ≡ false) × (o ≡ Ok tt)
passed_by true r o e = (cc, cc)
passed_by false r o e = (refl, e)

accepted_by : (b : Bool) (r : Refusal) (o : Outcome) → b ≡ false → o ≡ Ok tt → decide_by b r o ≡ Ok tt
accepted_by true r o f e = cc
accepted_by false r o f e = e

pub first_passed : (cs : List Check) → first cs ≡ Ok tt → Passed cs
first_passed [] e = tt
first_passed (c ∷ cs) e =
    let s : (c.fails ≡ false) × (first cs ≡ Ok tt) = passed_by c.fails c.refusal (first cs) e in
    (s.0, first_passed cs s.1)

pub passed_first : (cs : List Check) → Passed cs → first cs ≡ Ok tt
passed_first [] p = refl
passed_first (c ∷ cs) p = accepted_by c.fails c.refusal (first cs) p.0 (passed_first cs p.1)

-- checks that all pass leave the word to those after them
pub first_append-accepted : (xs ys : List Check) → first xs ≡ Ok tt → first (xs ++ ys) ≡ first ys
first_append-accepted [] ys e = refl
first_append-accepted (c ∷ cs) ys e =
    let s : (c.fails ≡ false) × (first cs ≡ Ok tt) = passed_by c.fails c.refusal (first cs) e in
    rw s.0 (first_append-accepted cs ys s.1)

-- a refusal is not changed by checks after it
pub first_append-refused : (xs ys : List Check) (r : Refusal) → first xs ≡ Err r → first (xs ++ ys) ≡ Err r
first_append-refused [] ys r e = cc
first_append-refused (c ∷ cs) ys r e = go c.fails (first_append-refused cs ys r) e
  where
    go : (b : Bool) → (first cs ≡ Err r → first (cs ++ ys) ≡ Err r) → decide_by b c.refusal (first cs) ≡ Err r
        → decide_by b c.refusal (first (cs ++ ys)) ≡ Err r
    go true k d = d
    go false k d = k d

pub first_append_both : (xs ys : List Check) → (first (xs ++ ys) ≡ Ok tt) ↔ ((first xs ≡ Ok tt) × (first ys ≡ Ok tt))
first_append_both xs ys = (go (first xs) refl, λ p. rw (first_append-accepted xs ys p.0) p.1)
  where
    go : (o : Outcome) → first xs ≡ o → first (xs ++ ys) ≡ Ok tt → (first xs ≡ Ok tt) × (first ys ≡ Ok tt)
    go (Ok tt) o e = (o, rw (first_append-accepted xs ys o) at e)
    go (Err r) o e = let a = first_append-refused xs ys r o in (cc, cc)

-- what holds of every refusal of a list of checks holds of the one that is returned
abbrev pub AllRefusals : (Refusal → Type 0) → List Check → Type 0
AllRefusals P [] = Unit {0}
AllRefusals P (c ∷ cs) = P c.refusal × AllRefusals P cs

pub all_refusals_append : (P : Refusal → Type 0) (xs ys : List Check) → AllRefusals P xs → AllRefusals P ys → AllRefusals P (xs ++ ys)
all_refusals_append P [] ys p q = q
all_refusals_append P (c ∷ xs) ys p q = (p.0, all_refusals_append P xs ys p.1 q)

pub all_refusals_map : (P Q : Refusal → Type 0) (cs : List Check) → ((r : Refusal) → P r → Q r) → AllRefusals P cs → AllRefusals Q cs
all_refusals_map P Q [] f p = tt
all_refusals_map P Q (c ∷ cs) f p = (f c.refusal p.0, all_refusals_map P Q cs f p.1)

pub first_refusal : (P : Refusal → Type 0) (cs : List Check) (r : Refusal) → AllRefusals P cs → first cs ≡ Err r → P r
first_refusal P [] r p e = let z : ◌≡◌ {A = ℕ} 0 1 = cc in absurd (omega arith)
first_refusal P (c ∷ cs) r p e = go c.fails (first_refusal P cs r p.1) e
  where
    go : (b : Bool) → (first cs ≡ Err r → P r) → decide_by b c.refusal (first cs) ≡ Err r → P r
    go true k d = let same : c.refusal ≡ r = cc in subst P same p.0
    go false k d = k d
