-- Lists of formulas: what is kept, and what is chosen.
use Prim.Native.Nat.{ℕ, suc, ◌+◌, ◌/◌, ◌%◌, ◌≤◌}
use native.Mathlib.Omega.{arith}
use mathlib.Core.Path.{◌≡◌, refl, sym, ap}
use mathlib.Core.Logic.{⊎_elim}
use mathlib.Core.Bool.{Bool, true, false, cond, true≢false}
use mathlib.Core.List.Memᴰ
use mathlib.Core.List.{List, [], ◌∷◌, ◌++◌, Memᴰ}
use lib.ListN.{length}
use lib.Dec.{eqb}
use Rattle.logic.specs.Formula.{Formula, Binary, const, lit, un, bin, conj, disj, until, weak, release, strong, implies, is_least_op, is_greatest_op}
use Rattle.transforms.specs.NormalForm.{is_least, is_greatest, keep, chosen, least_of, greatest_of}

pub keep_append {ℓ} : {A : Type ℓ} (p : A → Bool) (xs ys : List A) → keep p (xs ++ ys) ≡ keep p xs ++ keep p ys
keep_append p [] ys = refl
keep_append p (x ∷ xs) ys = go (p x) (keep_append p xs ys)
  where
    go : (b : Bool) → keep p (xs ++ ys) ≡ keep p xs ++ keep p ys
        → cond b (x ∷ keep p (xs ++ ys)) (keep p (xs ++ ys)) ≡ cond b (x ∷ keep p xs) (keep p xs) ++ keep p ys
    go true e = ap (λ l. x ∷ l) e
    go false e = e

-- only listed formulas are chosen
pub mem_chosen : {φ : Formula} (ψs : List Formula) (c : ℕ) → Memᴰ φ (chosen ψs c) → Memᴰ φ ψs
unfolding chosen
mem_chosen [] c m = m
mem_chosen {φ} (ψ ∷ ψs) c m = go (eqb (c % 2) 1) (λ n. Memᴰ.tail (mem_chosen ψs (c / 2) n)) m
  where
    go : (b : Bool) → (Memᴰ φ (chosen ψs (c / 2)) → Memᴰ φ (ψ ∷ ψs)) → Memᴰ φ (cond b (ψ ∷ chosen ψs (c / 2)) (chosen ψs (c / 2))) → Memᴰ φ (ψ ∷ ψs)
    go true rec n = ⊎_elim (λ e. Memᴰ.head e) rec (Memᴰ.cases_cons n)
    go false rec n = rec n

-- no formula is both a least and a greatest fixpoint, so no more are chosen as either than are listed
least_not_greatest : (φ : Formula) → is_least φ ≡ true → is_greatest φ ≡ false
least_not_greatest (const b) e = refl
least_not_greatest (lit b n) e = refl
least_not_greatest (un o a) e = refl
least_not_greatest (bin o a b) e = by_operator o e
  where
    by_operator : (o : Binary) → is_least_op o ≡ true → is_greatest_op o ≡ false
    by_operator conj e = refl
    by_operator disj e = refl
    by_operator until e = refl
    by_operator weak e = absurd (true≢false (sym e))
    by_operator release e = absurd (true≢false (sym e))
    by_operator strong e = refl
    by_operator implies e = refl

keep_both : (l : List Formula) → length (keep is_least l) + length (keep is_greatest l) ≤ length l
keep_both [] = omega arith
keep_both (φ ∷ l) = go (is_least φ) (is_greatest φ) (least_not_greatest φ) (keep_both l)
  where
    go : (b d : Bool) → (b ≡ true → d ≡ false) → length (keep is_least l) + length (keep is_greatest l) ≤ length l
        → length (cond b (φ ∷ keep is_least l) (keep is_least l)) + length (cond d (φ ∷ keep is_greatest l) (keep is_greatest l)) ≤ suc (length l)
    go true true g r = absurd (true≢false (g refl))
    go true false g r = omega arith
    go false true g r = omega arith
    go false false g r = omega arith

chosen-length : (ψs : List Formula) (c : ℕ) → length (chosen ψs c) ≤ length ψs
unfolding chosen
chosen-length [] c = omega arith
chosen-length (ψ ∷ ψs) c = go (eqb (c % 2) 1) (chosen-length ψs (c / 2))
  where
    go : (b : Bool) → length (chosen ψs (c / 2)) ≤ length ψs → length (cond b (ψ ∷ chosen ψs (c / 2)) (chosen ψs (c / 2))) ≤ suc (length ψs)
    go true h = omega arith
    go false h = omega arith

pub members_few : (ψs : List Formula) (c : ℕ) → length (least_of ψs c) + length (greatest_of ψs c) ≤ length ψs
unfolding least_of greatest_of
members_few ψs c = omega (arith, keep_both (chosen ψs c), chosen-length ψs c)
