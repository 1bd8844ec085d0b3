-- The order of the choices: fewer chosen words first, equal counts by higher number.
use Prim.Native.Nat.{ℕ, zero, suc, ◌+◌, ◌-◌, ◌^◌, ◌≤◌, ◌<◌}
use native.Mathlib.Omega.{arith}
use mathlib.Core.Path.{◌≡◌, refl, sym, ap, ap₂, subst, ◌∙◌}
use mathlib.Core.Bool.{Bool, true, false, cond}
use mathlib.Core.List.{List, [], ◌∷◌, ◌++◌, map, map-append, foldl-append, append-nil, append_assoc}
use lib.Count.{ones}
use lib.Dec.{eqb}
use Rattle.logic.specs.Formula.{Formula, const, lit, un, bin, disj}
use Rattle.transforms.specs.Folding.{fold_binary}
use Rattle.transforms.specs.NormalForm.{from, below, join_all, chosen_in, choices_of}
use Rattle.normal_laws.proofs.Chosen.{keep_append}
use Rattle.placing.specs.State.{State, Numbered}
use Rattle.parts.specs.Parts.{folded_part}
use Rattle.std.specs.Prelude.{Option, Some, None}
use Rattle.sums.specs.Summed.{Sum, Unfit, SummedOr, Grown}
use Rattle.sums.proofs.Growth.{placing_left_full, or_stands, or-false}
use Rattle.part_sums.specs.Joining.{joined, Untrue}
use Rattle.part_sums.proofs.Parts.{grown_same}

joined-append : (t : List ℕ) (cs ds : List ℕ) (χ : Formula) → joined t (cs ++ ds) χ ≡ joined t ds (joined t cs χ)
joined-append t cs ds χ = rw (map-append (folded_part t) cs ds) (foldl-append (fold_binary disj) χ (map (folded_part t) cs) (map (folded_part t) ds))

-- the parts of more choices are joined after those of the first
pub grown-append : (t : List ℕ) (cs ds : List ℕ) {s m e : State} {a b r : Option Sum} → Grown (joined t cs) s m a b → Grown (joined t ds) m e b r → Grown (joined t (cs ++ ds)) s e a r
grown-append t cs ds p q = record {
  numbered = q.numbered;
  small = q.small;
  sums = λ s₀ χ x. rw (joined-append t cs ds χ) (q.sums s₀ (joined t cs χ) (p.sums s₀ χ x));
}

-- the numbers from c on, m of them, the highest first
abbrev pub down : ℕ → ℕ → List ℕ
down c zero = []
down c (suc m) = (c + m) ∷ down c m

-- one more at the low end
down_more : (c m : ℕ) → down c (suc m) ≡ down (suc c) m ++ (c ∷ [])
down_more c zero = ap (λ (k : ℕ). k ∷ []) (omega arith)
down_more c (suc m) = ap₂ ◌∷◌ (omega arith) (down_more c m)

down_all : (n : ℕ) → down 0 n ≡ below n
down_all zero = refl
down_all (suc n) = ap₂ ◌∷◌ (omega arith) (down_all n)

-- the choices below a limit and from c on, with n chosen words: none at first, one more at each step down, and all in the end
abbrev pub from_top : ℕ → ℕ → ℕ → List ℕ
from_top limit c n = chosen_in (down c (limit - c)) n

one_lower : (limit n c : ℕ) → c < limit → from_top limit (suc c) n ++ chosen_in (c ∷ []) n ≡ from_top limit c n
one_lower limit n c h =
    let k : suc (limit - suc c) ≡ limit - c = omega arith in
    sym (keep_append (λ d. eqb (ones d) n) (down (suc c) (limit - suc c)) (c ∷ [])) ∙ ap (λ (cs : List ℕ). chosen_in cs n) (sym (down_more c (limit - suc c)) ∙ ap (down c) k)

-- the choices with fewer than n chosen words
abbrev pub fewer : ℕ → ℕ → List ℕ
fewer k n = join_all (map (choices_of k) (from 0 n))

from_more : (a n : ℕ) → from a (suc n) ≡ from a n ++ ((a + n) ∷ [])
from_more a zero = ap (λ (k : ℕ). k ∷ []) (omega arith)
from_more a (suc n) = ap (λ (l : List ℕ). a ∷ l) (from_more (suc a) n ∙ ap (λ (k : ℕ). from (suc a) n ++ (k ∷ [])) (omega arith))

join_all-append {ℓ} : {A : Type ℓ} (xs ys : List (List A)) → join_all (xs ++ ys) ≡ join_all xs ++ join_all ys
join_all-append [] ys = refl
join_all-append (x ∷ xs) ys = ap (λ l. x ++ l) (join_all-append xs ys) ∙ sym (append_assoc x (join_all xs) (join_all ys))

fewer_more : (k n : ℕ) → fewer k n ++ choices_of k n ≡ fewer k (suc n)
fewer_more k n =
    sym (ap (λ (l : List ℕ). join_all (map (choices_of k) l)) (from_more 0 n)
    ∙ ap join_all (map-append (choices_of k) (from 0 n) _)
    ∙ join_all-append (map (choices_of k) (from 0 n)) _
    ∙ ap (λ (l : List ℕ). fewer k n ++ l) (append-nil (choices_of k (0 + n)) ∙ ap (choices_of k) (omega arith)))

-- these, and then those with n chosen words from c on
abbrev pub so_far : ℕ → ℕ → ℕ → ℕ → List ℕ
so_far k limit n c = fewer k n ++ from_top limit c n

-- none of a count yet, and all of them
row_start : (k limit n : ℕ) → fewer k n ≡ so_far k limit n limit
row_start k limit n = let none : limit - limit ≡ 0 = omega arith in sym (rw none (append-nil (fewer k n)))

row_done : (k limit n : ℕ) → limit ≡ 2 ^ k → so_far k limit n 0 ≡ fewer k (n + 1)
unfolding choices_of
row_done k limit n l =
    let whole : limit - 0 ≡ limit = omega arith in
    let one : suc n ≡ n + 1 = omega arith in
    let all_of : down 0 (limit - 0) ≡ below (2 ^ k) = ap (down 0) whole ∙ down_all limit ∙ ap below l in
    ap (λ (cs : List ℕ). fewer k n ++ chosen_in cs n) all_of ∙ fewer_more k n ∙ ap (fewer k) one

-- none at first
pub none_grown : (t : List ℕ) (k : ℕ) {s : State} → Numbered s → Grown (joined t (fewer k 0)) s s (Some None) (Some None)
none_grown t k h = grown_same (joined t (fewer k 0)) h tt (λ χ. refl)

module _ (t : List ℕ) (k limit n : ℕ) {s e : State} {r : Option Sum} where
  pub row_begun : Grown (joined t (fewer k n)) s e (Some None) r → Grown (joined t (so_far k limit n limit)) s e (Some None) r
  row_begun g = subst (λ (cs : List ℕ). Grown (joined t cs) s e (Some None) r) (row_start k limit n) g

  -- one choice more
  pub next_grown : (c : ℕ) {m : State} {b : Option Sum} → 0 < c → c ≤ limit → Grown (joined t (so_far k limit n c)) s m (Some None) b
      → Grown (joined t (chosen_in ((c - 1) ∷ []) n)) m e b r → Grown (joined t (so_far k limit n (c - 1))) s e (Some None) r
  next_grown c some low p q =
      let up : c ≡ suc (c - 1) = omega (arith, some) in
      let more : so_far k limit n c ++ chosen_in ((c - 1) ∷ []) n ≡ so_far k limit n (c - 1) =
      append_assoc (fewer k n) (from_top limit c n) (chosen_in ((c - 1) ∷ []) n) ∙ ap (λ (cs : List ℕ). fewer k n ++ cs)
      (ap (λ (d : ℕ). from_top limit d n ++ chosen_in ((c - 1) ∷ []) n) up ∙ one_lower limit n (c - 1) (omega (arith, some, low))) in
      subst (λ (cs : List ℕ). Grown (joined t cs) s e (Some None) r) more (grown-append t (so_far k limit n c) (chosen_in ((c - 1) ∷ []) n) p q)

  pub row-grown : limit ≡ 2 ^ k → Grown (joined t (so_far k limit n 0)) s e (Some None) r → Grown (joined t (fewer k (n + 1))) s e (Some None) r
  row-grown l g = subst (λ (cs : List ℕ). Grown (joined t cs) s e (Some None) r) (row_done k limit n l) g

-- all of them, joined to nothing
pub all_summed : (t : List ℕ) (k n : ℕ) {s e : State} {r : Option Sum} → n ≡ suc k → Grown (joined t (fewer k n)) s e (Some None) r → SummedOr s e (joined t (fewer k (suc k)) (const false)) r
all_summed t k n {s} {e} {r} q g = subst (λ (i : ℕ). SummedOr s e (joined t (fewer k i) (const false)) r) q (g.sums s (const false) (refl, refl))

-- the choices that are left: those of the count below c, and those of more chosen words
abbrev left : ℕ → ℕ → ℕ → List ℕ
left k n c = chosen_in (down 0 c) n ++ join_all (map (choices_of k) (from (suc n) (k - n)))

down-append : (c m n : ℕ) → c + m ≡ n → down c m ++ down 0 c ≡ down 0 n
down-append c zero n e = ap (down 0) (omega arith)
down-append c (suc m) zero e = absurd (omega arith)
down-append c (suc m) (suc n) e = ap₂ ◌∷◌ (omega arith) (down-append c m n (omega arith))

from-append : (a n b m p : ℕ) → a + n ≡ b → n + m ≡ p → from a n ++ from b m ≡ from a p
from-append a zero b m p e f = ap₂ from (omega arith) (omega arith)
from-append a (suc n) b m zero e f = absurd (omega arith)
from-append a (suc n) b m (suc p) e f = ap (λ (l : List ℕ). a ∷ l) (from-append (suc a) n b m p (omega arith) (omega arith))

row_whole : (k limit n c : ℕ) → limit ≡ 2 ^ k → c ≤ limit → from_top limit c n ++ chosen_in (down 0 c) n ≡ choices_of k n
unfolding choices_of
row_whole k limit n c l h =
    sym (keep_append (λ d. eqb (ones d) n) (down c (limit - c)) (down 0 c))
    ∙ ap (λ (cs : List ℕ). chosen_in cs n) (down-append c (limit - c) limit (omega arith) ∙ down_all limit ∙ ap below l)

rows_whole : (k n : ℕ) → n ≤ k → fewer k n ++ (choices_of k n ++ join_all (map (choices_of k) (from (suc n) (k - n)))) ≡ fewer k (suc k)
rows_whole k n h =
    sym (join_all-append (map (choices_of k) (from 0 n)) (map (choices_of k) (from n (suc (k - n)))))
    ∙ ap join_all (sym (map-append (choices_of k) (from 0 n) (from n (suc (k - n)))))
    ∙ ap (λ (l : List ℕ). join_all (map (choices_of k) l)) (from-append 0 n n (suc (k - n)) (suc k) (omega arith) (omega arith))

whole : (k limit n c : ℕ) → limit ≡ 2 ^ k → c ≤ limit → n ≤ k → so_far k limit n c ++ left k n c ≡ fewer k (suc k)
whole k limit n c l h m =
    append_assoc (fewer k n) (from_top limit c n) (left k n c)
    ∙ ap (λ (cs : List ℕ). fewer k n ++ cs)
    (sym (append_assoc (from_top limit c n) (chosen_in (down 0 c) n) (join_all (map (choices_of k) (from (suc n) (k - n)))))
    ∙ ap (λ (cs : List ℕ). cs ++ join_all (map (choices_of k) (from (suc n) (k - n)))) (row_whole k limit n c l h))
    ∙ rows_whole k n m

-- where a sum found no room, it finds none with more parts
unfit_part : (s e : State) (χ φ : Formula) → (φ ≡ const true → ⊥) → Unfit s e χ → Unfit s e (fold_binary disj χ φ)
unfit_part s e χ (const true) f p = absurd (f refl)
unfit_part s e χ (const false) f p = rw (or-false χ p.0) p
unfit_part s e χ (lit b n) f p = rw (or_stands χ (lit b n) p.0 tt) (tt, placing_left_full χ (lit b n) p.1 refl)
unfit_part s e χ (un o a) f p = rw (or_stands χ (un o a) p.0 tt) (tt, placing_left_full χ (un o a) p.1 refl)
unfit_part s e χ (bin o a b) f p = rw (or_stands χ (bin o a b) p.0 tt) (tt, placing_left_full χ (bin o a b) p.1 refl)

module _ (t : List ℕ) (k : ℕ) (untrue : (c : ℕ) → c < 2 ^ k → Untrue t c) (s e : State) where
  unfit_down : (n c : ℕ) → c ≤ 2 ^ k → (χ : Formula) → Unfit s e χ → Unfit s e (joined t (chosen_in (down 0 c) n) χ)
  unfit_down n zero h χ p = p
  unfit_down n (suc c) h χ p =
      go (eqb (ones (0 + c)) n)
      (unfit_down n c (omega arith) (fold_binary disj χ (folded_part t (0 + c))) (unfit_part s e χ (folded_part t (0 + c)) (untrue (0 + c) (omega arith)) p))
      (unfit_down n c (omega arith) χ p)
    where
      go : (b : Bool) → Unfit s e (joined t (chosen_in (down 0 c) n) (fold_binary disj χ (folded_part t (0 + c)))) → Unfit s e (joined t (chosen_in (down 0 c) n) χ)
          → Unfit s e (joined t (cond b ((0 + c) ∷ chosen_in (down 0 c) n) (chosen_in (down 0 c) n)) χ)
      go true x y = x
      go false x y = y

  unfit_row : (n : ℕ) (χ : Formula) → Unfit s e χ → Unfit s e (joined t (choices_of k n) χ)
  unfolding choices_of
  unfit_row n χ p = subst (λ (cs : List ℕ). Unfit s e (joined t (chosen_in cs n) χ)) (down_all (2 ^ k)) (unfit_down n (2 ^ k) (omega arith) χ p)

  unfit_rows : (ns : List ℕ) (χ : Formula) → Unfit s e χ → Unfit s e (joined t (join_all (map (choices_of k) ns)) χ)
  unfit_rows [] χ p = p
  unfit_rows (n ∷ ns) χ p =
      rw (joined-append t (choices_of k n) (join_all (map (choices_of k) ns)) χ) (unfit_rows ns (joined t (choices_of k n) χ) (unfit_row n χ p))

  pub full_summed : (limit n c : ℕ) → limit ≡ 2 ^ k → c ≤ limit → n ≤ k → Grown (joined t (so_far k limit n c)) s e (Some None) None
      → SummedOr s e (joined t (fewer k (suc k)) (const false)) None
  full_summed limit n c l h m g =
      let now : Formula = joined t (so_far k limit n c) (const false) in
      let rows : List ℕ = join_all (map (choices_of k) (from (suc n) (k - n))) in
      subst (λ (cs : List ℕ). Unfit s e (joined t cs (const false))) (whole k limit n c l h m)
      (rw (joined-append t (so_far k limit n c) (left k n c) (const false), joined-append t (chosen_in (down 0 c) n) rows now)
      (unfit_rows (from (suc n) (k - n)) (joined t (chosen_in (down 0 c) n) now) (unfit_down n c (omega arith) now (g.sums s (const false) (refl, refl)))))
