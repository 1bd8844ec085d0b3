-- The states of a table: which they are, that none stands twice, and what their words tell.
use Prim.Native.Nat.{ℕ, zero, suc, ◌+◌, ◌-◌, ◌*◌, ◌≤◌, ◌<◌}
use native.Mathlib.Omega.{arith}
use native.Mathlib.Nat.{add-zero}
use native.Mathlib.Decide.{dec_lt}
use mathlib.Core.Path.{◌≡◌, refl, sym, ap, subst, ◌∙◌}
use mathlib.Core.Logic.{◌⊎◌, inl, inr, ⊎_elim}
use mathlib.Core.Bool.{Bool, true, false, cond}
use mathlib.Core.List.Memᴰ
use mathlib.Core.List.{List, [], ◌∷◌, ◌++◌, map, Memᴰ}
use lib.ListN.{length, get_or, length-map, length-append, get_or-append}
use lib.Seq.{get_or-append-add}
use lib.Dec.{T}
use Rattle.logic.specs.Formula.{Formula, const}
use Rattle.transforms.specs.NormalForm.{keep}
use Rattle.transforms.proofs.Normal.Membership.{mem_keep, keep_mem}
use Rattle.automata_laws.specs.StateClass.{StateClass, sigma₁, pi₁, sigma₂, pi₂, class_bit, every, is_smallest, smallest_in}
use Rattle.automata_laws.specs.FormulaAutomaton.{is_proper, State}
use Rattle.automata_laws.proofs.Classes.{mem_every}
use Rattle.automata_laws.proofs.Promise.{two_smallest}
use Rattle.automata_tables.specs.States.{classes_of, state_word, words_from, states_from, no_state}
use Rattle.automata_tables.proofs.Numbers.{NoRepeat, append-norepeat, keep-norepeat, map-norepeat}

-- the classes of a formula's states
pub mem_classes : (φ : Formula) (Γ : StateClass) → T (is_proper φ) → T (is_smallest φ Γ) → Memᴰ Γ (classes_of φ)
unfolding smallest_in
mem_classes φ Γ p t = go (is_proper φ) p
  where
    go : (b : Bool) → T b → Memᴰ Γ (cond b (smallest_in every φ) [])
    go true x = keep_mem (is_smallest φ) t (mem_every Γ)
    go false x = absurd x

pub classes_mem : (φ : Formula) (Γ : StateClass) → Memᴰ Γ (classes_of φ) → T (is_proper φ) × T (is_smallest φ Γ)
unfolding smallest_in
classes_mem φ Γ = go (is_proper φ)
  where
    go : (b : Bool) → Memᴰ Γ (cond b (smallest_in every φ) []) → T b × T (is_smallest φ Γ)
    go true m = (tt, (mem_keep (is_smallest φ) every m).1)
    go false m = absurd (Memᴰ.not-nil m)

-- the states of one formula
abbrev pub own : Formula → List State
own φ = map (λ Γ. record { formula = φ; class = Γ }) (classes_of φ)

pub own-length : (φ : Formula) → length (own φ) ≡ length (classes_of φ)
own-length φ = length-map {B = State} (classes_of φ) (λ Γ. record { formula = φ; class = Γ })

own_mem : {q : State} (φ : Formula) → Memᴰ q (own φ) → (q.formula ≡ φ) × Memᴰ q.class (classes_of φ)
own_mem φ m =
    let k = Memᴰ.of_map (λ Γ. record { formula = φ; class = Γ }) (classes_of φ) m in
    (sym (ap (λ (s : State). s.formula) k.2), subst (λ (Γ : StateClass). Memᴰ Γ (classes_of φ)) (ap (λ (s : State). s.class) k.2) k.1)

-- and of some
pub states_mem : {q : State} (φs : List Formula) → Memᴰ q (states_from φs) → Memᴰ q.formula φs × Memᴰ q.class (classes_of q.formula)
unfolding states_from
states_mem [] m = absurd (Memᴰ.not-nil m)
states_mem {q} (φ ∷ φs) m = go (Memᴰ.append_cases (own φ) m) (λ k. states_mem φs k)
  where
    go : Memᴰ q (own φ) ⊎ Memᴰ q (states_from φs) → (Memᴰ q (states_from φs) → Memᴰ q.formula φs × Memᴰ q.class (classes_of q.formula))
        → Memᴰ q.formula (φ ∷ φs) × Memᴰ q.class (classes_of q.formula)
    go (inl k) r = let x = own_mem φ k in (Memᴰ.head x.0, subst (λ (ψ : Formula). Memᴰ q.class (classes_of ψ)) (sym x.0) x.1)
    go (inr k) r = (Memᴰ.tail (r k).0, (r k).1)

pub mem_states : (q : State) (φs : List Formula) → Memᴰ q.formula φs → Memᴰ q.class (classes_of q.formula) → Memᴰ q (states_from φs)
unfolding states_from
mem_states q [] m k = absurd (Memᴰ.not-nil m)
mem_states q (φ ∷ φs) (Memᴰ.head e) k =
    Memᴰ.append_left (states_from φs) (subst (λ (ψ : Formula). Memᴰ q (own ψ)) e (Memᴰ.map (λ Γ. record { formula = q.formula; class = Γ }) k))
mem_states q (φ ∷ φs) (Memᴰ.tail m) k = Memᴰ.append_right (own φ) (mem_states q φs m k)

-- no state stands twice
-- a class is none of those with higher bits
abbrev Above : ℕ → List StateClass → Type 0
Above n [] = Unit {0}
Above n (Γ ∷ Γs) = (n < class_bit Γ) × Above n Γs

not_above : (Γ : StateClass) (Γs : List StateClass) → Above (class_bit Γ) Γs → Memᴰ Γ Γs → ⊥
not_above Γ [] a m = Memᴰ.not-nil m
not_above Γ (Δ ∷ Γs) a m = ⊎_elim (λ e. omega (arith, ap class_bit e, a.0)) (not_above Γ Γs a.1) (Memᴰ.cases_cons m)

every-norepeat : NoRepeat every
every-norepeat = (
  not_above sigma₁ (pi₁ ∷ sigma₂ ∷ pi₂ ∷ []) (omega arith),
  (not_above pi₁ (sigma₂ ∷ pi₂ ∷ []) (omega arith), (not_above sigma₂ (pi₂ ∷ []) (omega arith), (not_above pi₂ [] tt, tt))),
)

classes-norepeat : (φ : Formula) → NoRepeat (classes_of φ)
unfolding smallest_in
classes-norepeat φ = go (is_proper φ)
  where
    go : (b : Bool) → NoRepeat (cond b (smallest_in every φ) [])
    go true = keep-norepeat (is_smallest φ) every every-norepeat
    go false = tt

pub states-norepeat : (φs : List Formula) → NoRepeat φs → NoRepeat (states_from φs)
unfolding states_from
states-norepeat [] h = tt
states-norepeat (φ ∷ φs) h =
    append-norepeat (own φ) (states_from φs)
    (map-norepeat (λ Γ. record { formula = φ; class = Γ }) (classes_of φ) (λ Γ Δ e. ap (λ (s : State). s.class) e) (classes-norepeat φ))
    (states-norepeat φs h.1)
    (λ q m k. h.0 (subst (λ (ψ : Formula). Memᴰ ψ φs) (own_mem φ m).0 (states_mem φs k).0))

-- as many words as states
pub words-length : (j : ℕ) (φs : List Formula) → length (words_from j φs) ≡ length (states_from φs)
unfolding words_from states_from
words-length j [] = refl
words-length j (φ ∷ φs) =
    omega (
      arith,
      length-append (map (state_word j) (classes_of φ)) (words_from (suc j) φs),
      length-append (own φ) (states_from φs),
      length-map (classes_of φ) (state_word j),
      own-length φ,
      words-length (suc j) φs,
    )

-- at most two states a proper formula
classes-few : (φ : Formula) → length (classes_of φ) ≤ 2 * cond (is_proper φ) 1 0
classes-few φ = go (is_proper φ)
  where
    go : (b : Bool) → length (cond b (smallest_in every φ) []) ≤ 2 * cond b 1 0
    go true = omega (arith, two_smallest φ)
    go false = omega arith

pub states-few : (φs : List Formula) → length (states_from φs) ≤ 2 * length (keep is_proper φs)
unfolding states_from
states-few [] = omega arith
states-few (φ ∷ φs) =
    omega (arith, length-append (own φ) (states_from φs), own-length φ, classes-few φ, states-few φs, kept (is_proper φ))
  where
    kept : (b : Bool) → length (cond b (φ ∷ keep is_proper φs) (keep is_proper φs)) ≡ cond b 1 0 + length (keep is_proper φs)
    kept true = omega arith
    kept false = omega arith

-- a place in a list that is mapped
pub map_at : {A B : Type 0} (f : A → B) (l : List A) (i : ℕ) (a : A) (b : B) → i < length l → get_or (map f l) i b ≡ f (get_or l i a)
map_at f [] i a b h = absurd (omega arith)
map_at f (x ∷ l) zero a b h = refl
map_at f (x ∷ l) (suc i) a b h = map_at f l i a b (omega arith)

-- the word and the state at a place
pub record At (j : ℕ) (φs : List Formula) (i : ℕ) : Type 0 where
  pub word : ℕ
  pub class : StateClass
  pub inside : word < length φs
  pub is_word : get_or (words_from j φs) i 0 ≡ state_word (j + word) class
  pub is_state : get_or (states_from φs) i no_state ≡ record { formula = get_or φs word (const false); class = class }

pub word_at : (j : ℕ) (φs : List Formula) (i : ℕ) → i < length (states_from φs) → At j φs i
unfolding words_from states_from
word_at j [] i h = absurd (omega arith)
word_at j (φ ∷ φs) i h = go (dec_lt i (length (classes_of φ))) (λ k l. word_at (suc j) φs k l)
  where
    words : List ℕ
    words = map (state_word j) (classes_of φ)

    long : length words ≡ length (classes_of φ)
    long = length-map (classes_of φ) (state_word j)

    first : i < length (classes_of φ) → At j (φ ∷ φs) i
    first l = record {
      word = 0;
      class = get_or (classes_of φ) i sigma₁;
      inside = omega arith;
      is_word = get_or-append words (words_from (suc j) φs) 0 i (omega (arith, long)) ∙ map_at (state_word j) (classes_of φ) i sigma₁ 0 l ∙ ap (λ (k : ℕ). state_word k (get_or (classes_of φ) i sigma₁)) (sym (add-zero j));
      is_state = get_or-append (own φ) (states_from φs) no_state i (omega (arith, own-length φ)) ∙ map_at (λ Γ. record { formula = φ; class = Γ }) (classes_of φ) i sigma₁ no_state l;
    }

    later : (k : ℕ) → i ≡ length words + k → i ≡ length (own φ) + k → At (suc j) φs k → At j (φ ∷ φs) i
    later k e d x = record {
      word = suc x.word;
      class = x.class;
      inside = omega (arith, x.inside);
      is_word = ap (λ (n : ℕ). get_or (words ++ words_from (suc j) φs) n 0) e ∙ get_or-append-add words (words_from (suc j) φs) k 0 ∙ x.is_word ∙ ap (λ (n : ℕ). state_word n x.class) (omega arith);
      is_state = ap (λ (n : ℕ). get_or (own φ ++ states_from φs) n no_state) d ∙ get_or-append-add (own φ) (states_from φs) k no_state ∙ x.is_state;
    }

    go : Dec (i < length (classes_of φ)) → ((k : ℕ) → k < length (states_from φs) → At (suc j) φs k) → At j (φ ∷ φs) i
    go (yes l) r = first l
    go (no f) r =
        later (i - length (classes_of φ)) (omega (arith, long, f)) (omega (arith, own-length φ, f))
        (r (i - length (classes_of φ)) (omega (arith, length-append (own φ) (states_from φs), own-length φ, f)))
