-- Lists without repetition, and the numbers of states in them: a state has the number at which it stands.
use Prim.Native.Nat.{ℕ, zero, suc, ◌+◌, ◌<◌}
use native.Mathlib.Omega.{arith}
use mathlib.Core.Path.{◌≡◌, refl, sym, ap, subst, ◌∙◌}
use mathlib.Core.Logic.{◌⊎◌, inl, inr, ⊎_elim}
use mathlib.Core.Bool.{Bool, true, false, cond}
use mathlib.Core.List.Memᴰ
use mathlib.Core.List.{List, [], ◌∷◌, ◌++◌, map, Memᴰ}
use lib.ListN.{length, get_or}
use lib.Dec.{T, eqb, eqb→eq, eqb_refl}
use Rattle.logic.specs.Formula.{Formula, same}
use Rattle.transforms.specs.NormalForm.{keep}
use Rattle.logic.proofs.Tests.{T_and, T_or}
use Rattle.transforms.proofs.Normal.Membership.{mem_keep, mem_of_member, member_of_mem}
use Rattle.automata_laws.specs.StateClass.{StateClass, sigma₁, pi₁, sigma₂, pi₂, class_bit}
use Rattle.automata_laws.specs.FormulaAutomaton.{State}
use Rattle.automata_tables.specs.States.{is_state, number_from, no_state}

-- no element stands in a list twice
abbrev pub NoRepeat : {A : Type 0} → List A → Type 0
NoRepeat [] = Unit {0}
NoRepeat (x ∷ l) = (Memᴰ x l → ⊥) × NoRepeat l

pub append-norepeat : {A : Type 0} (xs ys : List A) → NoRepeat xs → NoRepeat ys → ((x : A) → Memᴰ x xs → Memᴰ x ys → ⊥) → NoRepeat (xs ++ ys)
append-norepeat [] ys p q f = q
append-norepeat (x ∷ xs) ys p q f = (
  λ m. ⊎_elim p.0 (f x (Memᴰ.head refl)) (Memᴰ.append_cases xs m),
  append-norepeat xs ys p.1 q (λ y k. f y (Memᴰ.tail k)),
)

pub keep-norepeat : {A : Type 0} (p : A → Bool) (l : List A) → NoRepeat l → NoRepeat (keep p l)
keep-norepeat p [] h = tt
keep-norepeat p (x ∷ l) h = go (p x) (keep-norepeat p l h.1)
  where
    go : (b : Bool) → NoRepeat (keep p l) → NoRepeat (cond b (x ∷ keep p l) (keep p l))
    go true k = (λ m. h.0 (mem_keep p l m).0, k)
    go false k = k

pub map-norepeat : {A B : Type 0} (f : A → B) (l : List A) → ((x y : A) → f x ≡ f y → x ≡ y) → NoRepeat l → NoRepeat (map f l)
map-norepeat f [] i h = tt
map-norepeat {A} f (x ∷ l) i h =
    (λ m. let k = Memᴰ.of_map f l m in h.0 (subst (λ (y : A). Memᴰ y l) (i k.0 x k.2) k.1), map-norepeat f l i h.1)

-- an element stands at its place, and at no other
pub at_mem : {A : Type 0} (l : List A) (d : A) (i : ℕ) → i < length l → Memᴰ (get_or l i d) l
at_mem [] d i h = absurd (omega arith)
at_mem (x ∷ l) d zero h = Memᴰ.head refl
at_mem (x ∷ l) d (suc i) h = Memᴰ.tail (at_mem l d i (omega arith))

pub one_place : {A : Type 0} (l : List A) (d : A) → NoRepeat l → (i j : ℕ) → i < length l → j < length l → get_or l i d ≡ get_or l j d → i ≡ j
one_place [] d n i j h k e = absurd (omega arith)
one_place (x ∷ l) d n zero zero h k e = refl
one_place {A} (x ∷ l) d n zero (suc j) h k e = absurd (n.0 (subst (λ (y : A). Memᴰ y l) (sym e) (at_mem l d j (omega arith))))
one_place {A} (x ∷ l) d n (suc i) zero h k e = absurd (n.0 (subst (λ (y : A). Memᴰ y l) e (at_mem l d i (omega arith))))
one_place (x ∷ l) d n (suc i) (suc j) h k e = ap suc (one_place l d n.1 i j (omega arith) (omega arith) e)

-- a list whose places tell its elements apart has no repetition
pub places_norepeat : (l : List Formula) (d : Formula) → ((i j : ℕ) → i < length l → j < length l → get_or l i d ≡ get_or l j d → i ≡ j) → NoRepeat l
places_norepeat [] d f = tt
places_norepeat (x ∷ l) d f = (
  λ m. let k = place l m in absurd (omega (arith, f (suc k.0) 0 (omega (arith, k.1)) (omega arith) k.2)),
  places_norepeat l d (λ i j h k e. omega (arith, f (suc i) (suc j) (omega arith) (omega arith) e)),
)
  where
    place : (l : List Formula) → Memᴰ x l → (i : ℕ) × (i < length l) × (get_or l i d ≡ x)
    place [] m = absurd (Memᴰ.not-nil m)
    place (y ∷ l) (Memᴰ.head e) = (0, omega arith, sym e)
    place (y ∷ l) (Memᴰ.tail m) = let k = place l m in (suc k.0, omega (arith, k.1), k.2)

-- a class by its bit
by_bit : ℕ → StateClass
by_bit n = get_or (sigma₁ ∷ sigma₁ ∷ pi₁ ∷ sigma₁ ∷ sigma₂ ∷ pi₂ ∷ []) n sigma₁

bit-class : (Γ : StateClass) → by_bit (class_bit Γ) ≡ Γ
unfolding by_bit
bit-class sigma₁ = refl
bit-class pi₁ = refl
bit-class sigma₂ = refl
bit-class pi₂ = refl

pub same_class : (Γ Δ : StateClass) → class_bit Γ ≡ class_bit Δ → Γ ≡ Δ
same_class Γ Δ e = sym (bit-class Γ) ∙ ap by_bit e ∙ bit-class Δ

-- the test of two states
is_same : (p q : State) → T (is_state p q) → p ≡ q
is_same p q t =
    let k = (T_and (same p.formula q.formula) (eqb (class_bit p.class) (class_bit q.class))).0 t in
    let e : p.formula ≡ q.formula =
    sym (Memᴰ.eq_of_singleton (mem_of_member (p.formula ∷ []) q.formula ((T_or (same p.formula q.formula) false).1 (inl k.0)))) in
    let c : p.class ≡ q.class = same_class p.class q.class (eqb→eq (class_bit p.class) (class_bit q.class) k.1) in
    λ i. record { formula = e i; class = c i }

same_is : (q : State) → T (is_state q q)
same_is q =
    (T_and (same q.formula q.formula) (eqb (class_bit q.class) (class_bit q.class))).1 (
      ⊎_elim (λ x. x) absurd ((T_or (same q.formula q.formula) false).0 (member_of_mem (q.formula ∷ []) q.formula (Memᴰ.head refl))),
      eqb_refl (class_bit q.class),
    )

-- a state in a list has a number, and stands at it
pub number-found : (n : ℕ) (l : List State) (q : State) → Memᴰ q l → (i : ℕ) × (i < length l) × (number_from n l q ≡ suc (n + i)) × (get_or l i no_state ≡ q)
unfolding number_from
number-found n [] q m = absurd (Memᴰ.not-nil m)
number-found n (p ∷ ps) q m = go (is_state p q) refl (Memᴰ.cases_cons m) (λ k. number-found (suc n) ps q k)
  where
    go : (b : Bool) → is_state p q ≡ b → (q ≡ p) ⊎ Memᴰ q ps
        → (Memᴰ q ps → (i : ℕ) × (i < length ps) × (number_from (suc n) ps q ≡ suc (suc n + i)) × (get_or ps i no_state ≡ q))
        → (i : ℕ) × (i < suc (length ps)) × (cond b (suc n) (number_from (suc n) ps q) ≡ suc (n + i)) × (get_or (p ∷ ps) i no_state ≡ q)
    go true e c r = (0, omega arith, omega arith, is_same p q (subst T (sym e) tt))
    go false e (inl x) r = absurd (subst T e (subst (λ (z : State). T (is_state p z)) (sym x) (same_is p)))
    go false e (inr k) r = let i = r k in (suc i.0, omega (arith, i.1), omega (arith, i.2), i.3)

-- the state at a place has the number of the place
pub number_at : (n : ℕ) (l : List State) → NoRepeat l → (i : ℕ) → i < length l → number_from n l (get_or l i no_state) ≡ suc (n + i)
number_at n l a i h =
    let k = number-found n l (get_or l i no_state) (at_mem l no_state i h) in
    omega (arith, k.2, one_place l no_state a k.0 i k.1 h k.3)
