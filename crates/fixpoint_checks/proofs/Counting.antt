-- The until-like words counted in rising word number, to the first past the limit.
use Prim.Native.Nat.{ℕ, zero, suc, ◌+◌, ◌-◌, ◌≤◌, ◌<◌}
use native.Mathlib.Omega.{arith}
use native.Mathlib.Numerals.{add-one}
use native.Mathlib.Nat.{sub-zero}
use mathlib.Core.Path.{◌≡◌, refl, sym, ◌∙◌}
use mathlib.Core.Bool.{Bool, true, false}
use mathlib.Core.List.{List, [], ◌∷◌}
use lib.ListN.{length, get_or, drop}
use lib.Seq.{drop-cons, drop-length}
use Rattle.std.specs.Prelude.{Ok}
use Rattle.refusals.specs.Refusals.{first}
use Rattle.table.specs.StepChecks.{is_fixpoint_word, fixpoint_checks}
use Rattle.fixpoint_checks.specs.Past.{Past}

-- the checks that are left, with so many until-like words found before place i
pub record Counting (t : List ℕ) (limit found i : ℕ) : Type 0 where
  pub within : i ≤ length t
  pub few : found ≤ limit
  pub left : first (fixpoint_checks limit 1 t) ≡ first (fixpoint_checks (limit - found) (suc i) (drop i t))

pub counting_none : (t : List ℕ) (limit : ℕ) → Counting t limit 0 0
counting_none t limit = record { within = omega arith; few = omega arith; left = rw (sub-zero limit) }

module _ {t : List ℕ} {limit found i : ℕ} (q : Counting t limit found i) (h : i < length t) where
  pub counting_taken : {n : ℕ} {x : Bool} → x ≡ is_fixpoint_word (get_or t i 0) → x ≡ true → (found ≡ limit → ⊥) → n ≡ found + 1 → Counting t limit n (i + 1)
  unfolding fixpoint_checks
  counting_taken {n} ex dx g e = rw (add-one i) (record {
    within = h;
    few = omega (arith, q.few, g);
    left = q.left ∙ rw (fewer, drop-cons t i 0 h, taken, less);
  })
    where
      taken : is_fixpoint_word (get_or t i 0) ≡ true
      taken = sym ex ∙ dx

      fewer : limit - found ≡ suc (limit - suc found)
      fewer = omega (arith, q.few, g)

      less : limit - n ≡ limit - suc found
      less = omega (arith, q.few, g)

  pub counting_left : {n : ℕ} {x : Bool} → x ≡ is_fixpoint_word (get_or t i 0) → x ≡ false → n ≡ found → Counting t limit n (i + 1)
  unfolding fixpoint_checks
  counting_left {n} ex dx e = rw (add-one i, e) (record { within = h; few = q.few; left = q.left ∙ rw (drop-cons t i 0 h) (go (limit - found)) })
    where
      left : is_fixpoint_word (get_or t i 0) ≡ false
      left = sym ex ∙ dx

      go : (k : ℕ) → first (fixpoint_checks k (suc i) (get_or t i 0 ∷ drop (suc i) t)) ≡ first (fixpoint_checks k (suc (suc i)) (drop (suc i) t))
      go zero = rw left
      go (suc k) = rw left

  pub counting_past : {x : Bool} → x ≡ is_fixpoint_word (get_or t i 0) → x ≡ true → found ≡ limit → Past t limit (i + 1)
  unfolding fixpoint_checks
  counting_past ex dx e = rw (add-one i) (record {
    few = λ z. absurd (omega arith);
    many = λ z. q.left ∙ rw (none, drop-cons t i 0 h, sym ex ∙ dx);
  })
    where
      none : limit - found ≡ 0
      none = omega arith

pub counting_all : {t : List ℕ} {limit found i : ℕ} → Counting t limit found i → length t ≤ i → Past t limit 0
unfolding fixpoint_checks
counting_all {t} {limit} {found} {i} q h = record {
  few = λ z. let e : i ≡ length t = omega (arith, q.within) in q.left ∙ rw (e, drop-length t) (go (limit - found));
  many = λ z. absurd (omega arith);
}
  where
    go : (k : ℕ) → first (fixpoint_checks k (suc (length t)) []) ≡ Ok tt
    go zero = refl
    go (suc k) = refl
