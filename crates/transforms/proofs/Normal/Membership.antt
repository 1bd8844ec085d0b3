-- Membership in the lists of a normal form: the test `member`, the kept elements, the numbers from one on and below one, joined lists, and at which places elements stand.
use Prim.Native.Nat.{ℕ, zero, suc, ◌+◌, ◌≤◌, ◌<◌}
use native.Mathlib.Nat.{eq-or-lt_of_le}
use native.Mathlib.Omega.{arith}
use mathlib.Core.Path.{◌≡◌, refl, sym, ap, subst, ◌∙◌}
use mathlib.Core.Bool.{Bool, true, false, cond, decide, Bool-discrete}
use mathlib.Core.Logic.{◌⊎◌, inl, inr, ⊎_elim}
use mathlib.Core.List.Memᴰ
use mathlib.Core.List.{List, [], ◌∷◌, Memᴰ}
use native.Mathlib.Decide.{ℕ_discrete}
use lib.ListN.{length, get_or}
use lib.Dec.{T}
use Rattle.logic.specs.Formula.{Formula, const, same, Formula-discrete, Unary-discrete, Binary-discrete}
use Rattle.transforms.specs.NormalForm.{is_fixpoint, keep, member, from, below, join_all}
use Rattle.transforms.specs.Subformula.{Sub, Numbers}
use Rattle.logic.proofs.Tests.{T_or}

decide_true {ℓ} : {A : Type ℓ} (d : Dec A) → T (decide d) → A
unfolding decide
decide_true (yes a) t = a
decide_true (no f) t = absurd t

true-decide {ℓ} : {A : Type ℓ} (d : Dec A) → A → T (decide d)
unfolding decide
true-decide (yes a) x = tt
true-decide (no f) x = absurd (f x)

abbrev alike : (a b : Formula) → Dec (a ≡ b)
alike = Formula-discrete Bool-discrete ℕ_discrete Unary-discrete Binary-discrete

pub mem_of_member : (ψs : List Formula) (φ : Formula) → T (member ψs φ) → Memᴰ φ ψs
unfolding same
mem_of_member [] φ t = absurd t
mem_of_member (ψ ∷ ψs) φ t =
    ⊎_elim (λ e. Memᴰ.head (sym (decide_true (alike ψ φ) e))) (λ m. Memᴰ.tail (mem_of_member ψs φ m)) ((T_or (same ψ φ) (member ψs φ)).0 t)

pub member_of_mem : (ψs : List Formula) (φ : Formula) → Memᴰ φ ψs → T (member ψs φ)
unfolding same
member_of_mem [] φ m = absurd (Memᴰ.not-nil m)
member_of_mem (ψ ∷ ψs) φ m =
    ⊎_elim (λ e. (T_or (same ψ φ) (member ψs φ)).1 (inl (true-decide (alike ψ φ) (sym e)))) (λ n. (T_or (same ψ φ) (member ψs φ)).1 (inr (member_of_mem ψs φ n)))
    (Memᴰ.cases_cons m)

module _ {ℓ} {A : Type ℓ} where
  -- the head that passes, kept
  mem_kept : (p : A → Bool) {a : A} (x : A) (l : List A) (b : Bool) → p x ≡ b → (Memᴰ a (keep p l) → Memᴰ a l × T (p a))
      → Memᴰ a (cond b (x ∷ keep p l) (keep p l)) → Memᴰ a (x ∷ l) × T (p a)
  mem_kept p {a} x l true e ih m =
      ⊎_elim {C = Memᴰ a (x ∷ l) × T (p a)}
      (λ q. (Memᴰ.head q, subst T (sym (ap p q ∙ e)) tt)) (λ n. (Memᴰ.tail (ih n).0, (ih n).1)) (Memᴰ.cases_cons m)
  mem_kept p x l false e ih m = (Memᴰ.tail (ih m).0, (ih m).1)

  pub mem_keep : (p : A → Bool) {a : A} (l : List A) → Memᴰ a (keep p l) → Memᴰ a l × T (p a)
  mem_keep p [] m = absurd (Memᴰ.not-nil m)
  mem_keep p (x ∷ l) m = mem_kept p x l (p x) refl (λ n. mem_keep p l n) m

  pub keep_mem : (p : A → Bool) {a : A} {l : List A} → T (p a) → Memᴰ a l → Memᴰ a (keep p l)
  keep_mem p {a} t (Memᴰ.head {x} {xs} e) = here (p x) (subst (λ y. T (p y)) e t)
    where
      here : (b : Bool) → T b → Memᴰ a (cond b (x ∷ keep p xs) (keep p xs))
      here true t = Memᴰ.head e
      here false t = absurd t
  keep_mem p {a} t (Memᴰ.tail {x} {xs} m) = there (p x) (keep_mem p t m)
    where
      there : (b : Bool) → Memᴰ a (keep p xs) → Memᴰ a (cond b (x ∷ keep p xs) (keep p xs))
      there true m = Memᴰ.tail m
      there false m = m

  pub mem_join_all : {a : A} {l : List A} {ls : List (List A)} → Memᴰ a l → Memᴰ l ls → Memᴰ a (join_all ls)
  mem_join_all {a} m (Memᴰ.head {x} {xs} e) = Memᴰ.append_left (join_all xs) (subst (λ l. Memᴰ a l) e m)
  mem_join_all m (Memᴰ.tail {x} {xs} n) = Memᴰ.append_right x (mem_join_all m n)

pub mem_from : (a n c : ℕ) → a ≤ c → c < a + n → Memᴰ c (from a n)
mem_from a zero c h k = absurd (omega arith)
mem_from a (suc n) c h k = go (eq-or-lt_of_le h) (λ l. mem_from (suc a) n c l (omega arith))
  where
    go : (a ≡ c) ⊎ (a < c) → (a < c → Memᴰ c (from (suc a) n)) → Memᴰ c (from a (suc n))
    go (inl e) ih = Memᴰ.head (sym e)
    go (inr l) ih = Memᴰ.tail (ih l)

pub mem_below : (n c : ℕ) → c < n → Memᴰ c (below n)
mem_below zero c h = absurd (omega arith)
mem_below (suc n) c h = go (ℕ_discrete c n) (λ l. mem_below n c l)
  where
    go : Dec (c ≡ n) → (c < n → Memᴰ c (below n)) → Memᴰ c (below (suc n))
    go (yes e) ih = Memᴰ.head e
    go (no f) ih = Memᴰ.tail (ih (omega arith))

-- the fixpoints of a list that has every subformula of φ and nothing else
pub numbers_keep : {φ : Formula} (l : List Formula) → ((ψ : Formula) → Sub ψ φ → Memᴰ ψ l)
    → ((ψ : Formula) → Memᴰ ψ l → Sub ψ φ) → Numbers (keep is_fixpoint l) φ
numbers_keep l complete inside =
    record {
      complete = λ ψ s t. keep_mem is_fixpoint t (complete ψ s);
      inside = λ ψ m. inside ψ (mem_keep is_fixpoint l m).0;
    }

-- an element has a place
pub mem_place : {φ : Formula} {l : List Formula} → Memᴰ φ l → (i : ℕ) × (i < length l) × (get_or l i (const false) ≡ φ)
mem_place (Memᴰ.head e) = (0, omega arith, sym e)
mem_place (Memᴰ.tail m) = let r = mem_place m in (suc r.0, omega (arith, r.1), r.2)

pub mem_at : (l : List Formula) (i : ℕ) → i < length l → Memᴰ (get_or l i (const false)) l
mem_at [] i h = absurd (omega arith)
mem_at (x ∷ l) zero h = Memᴰ.head refl
mem_at (x ∷ l) (suc i) h = Memᴰ.tail (mem_at l i (omega arith))
