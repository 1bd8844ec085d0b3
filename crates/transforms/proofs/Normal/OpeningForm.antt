-- The opening form φ[M]Σ₂: source 002, Lemma 20, Proposition 21, Equation (12) and condition (a) of Lemma 17.
use Prim.Native.Nat.{ℕ, suc, max}
use native.Mathlib.Nat.{le_refl, le_trans, le-max_left, le-max_right}
use native.Mathlib.Omega.{arith}
use mathlib.Core.Bool.{Bool, false}
use mathlib.Core.Logic.{◌⊎◌, inl, inr, ⊎_map, ⊎_elim, ◌↔◌}
use lib.Dec.{T}
use Rattle.logic.specs.Formula.{Formula, Binary, bin, conj, disj, until, weak, release, strong, implies, G}
use Rattle.logic.specs.Lasso.{Word}
use Rattle.logic.specs.Semantics.{Predicate, Always, Until, Weak, Release, Strong, Constant, Holds}
use Rattle.logic.specs.NegationNormalForm.{plain_binary}
use Rattle.transforms.specs.Rewriting.{opening_op, opening, steady}
use Rattle.transforms.specs.Subformula.{Sub, left, right}
use Rattle.transforms.specs.Recurrence.{M⊆GF, GF⊆M}
use Rattle.logic.proofs.Numbers.{lt_or_le}
use Rattle.transforms.proofs.Normal.Monotonicity.{Entails, binary_mono, until_mono, strong_mono, entails_later}
use Rattle.transforms.proofs.Normal.PlainFormula.{Plain, plain_induction, sub_trans}
use Rattle.transforms.proofs.Normal.Stability.{Stable, infinitely-often, always_of}
use Rattle.transforms.proofs.Normal.SteadyForm.{steady-complete, steady-sound, steady_mono}

abbrev never : Predicate
never k = ⊥

-- G P as a predicate
abbrev Globally : Predicate → Predicate
Globally P = Release (Constant false) P

globally_mono : {P P' : Predicate} {i : ℕ} → Entails P P' i → Globally P i → Globally P' i
globally_mono f x = inl (λ k ik. f k ik (always_of x k ik))

-- P U (Q or G P') gives P W Q where P' entails P
weak_of_until : {P P' Q : Predicate} {i : ℕ} → Entails P' P i → Until P (λ k. Q k ⊎ Globally P' k) i → Weak P Q i
weak_of_until {P} {P'} {Q} {i} f u = go u.2
  where
    all : Globally P' u.0 → Always P i
    all g j ij = elim (lt_or_le j u.0) [ inl h ↦ u.3 j ij h | inr h ↦ f j ij (always_of g j h) ]

    go : Q u.0 ⊎ Globally P' u.0 → Weak P Q i
    go (inl q) = inr (u.0, u.1, q, u.3)
    go (inr g) = inl (all g)

-- (P or G Q') M Q gives P R Q where Q' entails Q
release_of_strong : {P Q Q' : Predicate} {i : ℕ} → Entails Q' Q i → Strong (λ k. P k ⊎ Globally Q' k) Q i → Release P Q i
release_of_strong {P} {Q} {Q'} {i} f u = go u.2
  where
    all : Globally Q' u.0 → Always Q i
    all g j ij = elim (lt_or_le u.0 j) [ inl h ↦ f j ij (always_of g j (omega arith)) | inr h ↦ u.3 j ij h ]

    go : P u.0 ⊎ Globally Q' u.0 → Release P Q i
    go (inl p) = inr (u.0, u.1, p, u.3)
    go (inr g) = inl (all g)

-- P W Q gives P U (Q or G P') where P entails P' from some position s on
until_of_weak : {P P' Q : Predicate} {i : ℕ} (s : ℕ) → Entails P P' s → Weak P Q i → Until P (λ k. Q k ⊎ Globally P' k) i
until_of_weak {i} s f (inl p) = (
  max i s,
  le-max_left i s,
  inr (inl (λ k mk. f k (le_trans (le-max_right i s) mk) (p k (le_trans (le-max_left i s) mk)))),
  λ j ij jm. p j ij,
)
until_of_weak s f (inr u) = (u.0, u.1, inl u.2, u.3)

-- P R Q gives (P or G Q') M Q where Q entails Q' from some position s on
strong_of_release : {P Q Q' : Predicate} {i : ℕ} (s : ℕ) → Entails Q Q' s → Release P Q i → Strong (λ k. P k ⊎ Globally Q' k) Q i
strong_of_release {i} s f (inl q) = (
  max i s,
  le-max_left i s,
  inr (inl (λ k mk. f k (le_trans (le-max_right i s) mk) (q k (le_trans (le-max_left i s) mk)))),
  λ j ij jm. q j ij,
)
strong_of_release s f (inr u) = (u.0, u.1, inl u.2, u.3)

module _ {σ : Word} (w : Stable σ) (M : Formula → Bool) where
  -- from the stable position on, a formula entails its steady form
  pub steady_after : {φ : Formula} → Plain φ → GF⊆M σ M φ → Entails (Holds σ φ) (Holds σ (steady M φ)) w.position
  steady_after p h = steady-complete σ M p w.position (λ ψ s l x. h ψ s l (infinitely-often w ψ w.position (le_refl w.position) x))

  -- Lemma 20: G φ is φ U G(φ[GF]Π₁)
  pub globally_by_steady : {φ : Formula} → Plain φ → M⊆GF σ M φ → GF⊆M σ M φ → (i : ℕ) → Holds σ (G φ) i ↔ Holds σ (bin until φ (G (steady M φ))) i
  globally_by_steady {φ} p h h' i = (
    λ x. until_mono (λ k ik y. y) (λ k ik y. ⊎_elim absurd (λ z. z) y) (until_of_weak {Q = never} w.position (steady_after p h') (inl (always_of x))),
    λ x. ⊎_elim inl (λ u. absurd u.2) (weak_of_until {Q = never} (λ k ik. steady-sound σ M p h k) (until_mono (λ k ik y. y) (λ k ik y. inr y) x)),
  )

  -- Proposition 21: a W b is a U (b or G(a[GF]Π₁)), and a R b is (a or G(b[GF]Π₁)) M b
  pub weak_by_steady : {a : Formula} (b : Formula) → Plain a → M⊆GF σ M a → GF⊆M σ M a → (i : ℕ)
      → Holds σ (bin weak a b) i ↔ Holds σ (bin until a (bin disj b (G (steady M a)))) i
  weak_by_steady b p h h' i =
      (until_of_weak w.position (steady_after p h'), weak_of_until (λ k ik. steady-sound σ M p h k))

  pub release_by_steady : (a : Formula) {b : Formula} → Plain b → M⊆GF σ M b → GF⊆M σ M b → (i : ℕ)
      → Holds σ (bin release a b) i ↔ Holds σ (bin strong (bin disj a (G (steady M b))) b) i
  release_by_steady a p h h' i =
      (strong_of_release w.position (steady_after p h'), release_of_strong (λ k ik. steady-sound σ M p h k))

module _ (σ : Word) where
  -- what an operator becomes entails it, where what its operands become entails them
  opening_op-elim : (o : Binary) (a b a° b° a' b' : Formula) (i : ℕ) → T (plain_binary o) → Entails (Holds σ a°) (Holds σ a) i
      → Entails (Holds σ b°) (Holds σ b) i → Entails (Holds σ a') (Holds σ a) i → Entails (Holds σ b') (Holds σ b) i
      → Holds σ (opening_op o a° b° a' b') i → Holds σ (bin o a b) i
  opening_op-elim conj a b a° b° a' b' i t f g f' g' x = binary_mono conj tt f g x
  opening_op-elim disj a b a° b° a' b' i t f g f' g' x = binary_mono disj tt f g x
  opening_op-elim until a b a° b° a' b' i t f g f' g' x = binary_mono until tt f g x
  opening_op-elim weak a b a° b° a' b' i t f g f' g' x = weak_of_until f' (until_mono f (λ k ik. ⊎_map (g k ik) (λ y. y)) x)
  opening_op-elim release a b a° b° a' b' i t f g f' g' x = release_of_strong g' (strong_mono (λ k ik. ⊎_map (f k ik) (λ y. y)) g x)
  opening_op-elim strong a b a° b° a' b' i t f g f' g' x = binary_mono strong tt f g x
  opening_op-elim implies a b a° b° a' b' i t f g f' g' x = absurd t

  -- an operator entails what it becomes, where its operands entail what they become, the steady forms from s on
  opening_op_intro : (o : Binary) (a b a° b° a' b' : Formula) (i s : ℕ) → T (plain_binary o) → Entails (Holds σ a) (Holds σ a°) i
      → Entails (Holds σ b) (Holds σ b°) i → Entails (Holds σ a) (Holds σ a') s → Entails (Holds σ b) (Holds σ b') s
      → Holds σ (bin o a b) i → Holds σ (opening_op o a° b° a' b') i
  opening_op_intro conj a b a° b° a' b' i s t f g f' g' x = binary_mono conj tt f g x
  opening_op_intro disj a b a° b° a' b' i s t f g f' g' x = binary_mono disj tt f g x
  opening_op_intro until a b a° b° a' b' i s t f g f' g' x = binary_mono until tt f g x
  opening_op_intro weak a b a° b° a' b' i s t f g f' g' x = until_mono f (λ k ik. ⊎_map (g k ik) (λ y. y)) (until_of_weak s f' x)
  opening_op_intro release a b a° b° a' b' i s t f g f' g' x = strong_mono (λ k ik. ⊎_map (f k ik) (λ y. y)) g (strong_of_release s g' x)
  opening_op_intro strong a b a° b° a' b' i s t f g f' g' x = binary_mono strong tt f g x
  opening_op_intro implies a b a° b° a' b' i s t f g f' g' x = absurd t

  opening_op_mono : (o : Binary) (a b a° b° c d c' d' : Formula) (i : ℕ) → T (plain_binary o) → Entails (Holds σ a) (Holds σ a°) i
      → Entails (Holds σ b) (Holds σ b°) i → Entails (Holds σ c) (Holds σ c') i → Entails (Holds σ d) (Holds σ d') i
      → Holds σ (opening_op o a b c d) i → Holds σ (opening_op o a° b° c' d') i
  opening_op_mono conj a b a° b° c d c' d' i t f g f' g' x = binary_mono conj tt f g x
  opening_op_mono disj a b a° b° c d c' d' i t f g f' g' x = binary_mono disj tt f g x
  opening_op_mono until a b a° b° c d c' d' i t f g f' g' x = binary_mono until tt f g x
  opening_op_mono weak a b a° b° c d c' d' i t f g f' g' x = until_mono f (λ k ik. ⊎_map (g k ik) (globally_mono (entails_later ik f'))) x
  opening_op_mono release a b a° b° c d c' d' i t f g f' g' x = strong_mono (λ k ik. ⊎_map (f k ik) (globally_mono (entails_later ik g'))) g x
  opening_op_mono strong a b a° b° c d c' d' i t f g f' g' x = binary_mono strong tt f g x
  opening_op_mono implies a b a° b° c d c' d' i t f g f' g' x = absurd t

  -- Equation (12), right to left: φ[M]Σ₂ entails φ, if every chosen least fixpoint of φ holds again and again
  pub opening-sound : (M : Formula → Bool) {φ : Formula} → Plain φ → M⊆GF σ M φ → (i : ℕ) → Holds σ (opening M φ) i → Holds σ φ i
  unfolding opening
  opening-sound M p h =
      plain_induction (λ φ. (i : ℕ) → Holds σ (opening M φ) i → Holds σ φ i) (λ c i x. x) (λ c n i x. x) (λ a e i x. e (suc i) x) p
      (λ o a b s t p q e f i.
      opening_op-elim o a b (opening M a) (opening M b) (steady M a) (steady M b) i t (λ k ik. e k) (λ k ik. f k)
      (λ k ik. steady-sound σ M p (λ ψ r. h ψ (sub_trans (left r) s)) k) (λ k ik. steady-sound σ M q (λ ψ r. h ψ (sub_trans (right r) s)) k))

  -- Equation (12), left to right: φ entails φ[M]Σ₂, if every least fixpoint of φ that holds again and again is chosen
  pub opening-complete : Stable σ → (M : Formula → Bool) {φ : Formula} → Plain φ → GF⊆M σ M φ → (i : ℕ) → Holds σ φ i → Holds σ (opening M φ) i
  unfolding opening
  opening-complete w M p h =
      plain_induction (λ φ. (i : ℕ) → Holds σ φ i → Holds σ (opening M φ) i) (λ c i x. x) (λ c n i x. x) (λ a e i x. e (suc i) x) p
      (λ o a b s t p q e f i.
      opening_op_intro o a b (opening M a) (opening M b) (steady M a) (steady M b) i w.position t (λ k ik. e k) (λ k ik. f k)
      (steady_after w M p (λ ψ r. h ψ (sub_trans (left r) s))) (steady_after w M q (λ ψ r. h ψ (sub_trans (right r) s))))

  -- condition (a) of Lemma 17: φ[M]Σ₂ is monotone in M
  pub opening_mono : (M M' : Formula → Bool) {φ : Formula} → Plain φ → ((ψ : Formula) → Sub ψ φ → T (M ψ) → T (M' ψ)) → (i : ℕ)
      → Holds σ (opening M φ) i → Holds σ (opening M' φ) i
  unfolding opening
  opening_mono M M' p h =
      plain_induction (λ φ. (i : ℕ) → Holds σ (opening M φ) i → Holds σ (opening M' φ) i) (λ c i x. x) (λ c n i x. x) (λ a e i x. e (suc i) x) p
      (λ o a b s t p q e f i.
      opening_op_mono o (opening M a) (opening M b) (opening M' a) (opening M' b) (steady M a) (steady M b) (steady M' a) (steady M' b) i t
      (λ k ik. e k) (λ k ik. f k)
      (λ k ik. steady_mono σ M M' p (λ ψ r. h ψ (sub_trans (left r) s)) k) (λ k ik. steady_mono σ M M' q (λ ψ r. h ψ (sub_trans (right r) s)) k))
