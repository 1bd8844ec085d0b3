-- Models of positive boolean formulas: they turn on the atoms that occur, a larger set of which is a model too, and every model contains a minimal one.
use mathlib.Core.Path.{◌≡◌, refl, sym, subst}
use mathlib.Core.Logic.{◌⊎◌, inl, inr}
use mathlib.Core.Bool.{Bool, true, false, not, cond, decide, ◌&&◌, ◌||◌}
use mathlib.Core.List.Memᴰ
use mathlib.Core.List.{List, [], ◌∷◌, ◌++◌, foldl, Memᴰ}
use lib.Dec.{T, T_not, not_T}
use Rattle.logic.proofs.Tests.{T_and, T_or, T-decided}
use Rattle.automata.specs.Positive.{Positive, constant, atom, and, or, any_of, Subset, Within, models, Minimal}

module _ {X : Type 0} where
  -- the atoms that occur
  unfoldable pub atoms : Positive X → List X
  atoms (constant b) = []
  atoms (atom x) = x ∷ []
  atoms (and a b) = atoms a ++ atoms b
  atoms (or a b) = atoms a ++ atoms b

  -- a model of which another set has every atom that occurs
  pub models_on : (S S' : Subset X) (θ : Positive X) → ((x : X) → Memᴰ x (atoms θ) → T (S x) → T (S' x)) → T (models S θ) → T (models S' θ)
  unfolding atoms
  models_on S S' (constant b) f m = m
  models_on S S' (atom x) f m = f x (Memᴰ.head refl) m
  models_on S S' (and a b) f m =
      let n = (T_and (models S a) (models S b)).0 m in
      (T_and (models S' a) (models S' b)).1 (
        models_on S S' a (λ x k. f x (Memᴰ.append_left (atoms b) k)) n.0,
        models_on S S' b (λ x k. f x (Memᴰ.append_right (atoms a) k)) n.1,
      )
  models_on S S' (or a b) f m = go ((T_or (models S a) (models S b)).0 m) (models_on S S' a (λ x k. f x (Memᴰ.append_left (atoms b) k))) (models_on S S' b (λ x k. f x (Memᴰ.append_right (atoms a) k)))
    where
      go : T (models S a) ⊎ T (models S b) → (T (models S a) → T (models S' a)) → (T (models S b) → T (models S' b)) → T (models S' a || models S' b)
      go (inl n) p q = (T_or (models S' a) (models S' b)).1 (inl (p n))
      go (inr n) p q = (T_or (models S' a) (models S' b)).1 (inr (q n))

  pub models_more : (S S' : Subset X) (θ : Positive X) → Within S S' → T (models S θ) → T (models S' θ)
  models_more S S' θ f m = models_on S S' θ (λ x k. f x) m

  -- a set with the same elements is minimal too
  pub minimal_same : {S S' : Subset X} {θ : Positive X} → Within S S' → Within S' S → Minimal S θ → Minimal S' θ
  minimal_same {S} {S'} {θ} f g m = record {
    model = models_more S S' θ f m.model;
    least = λ R w n x t. m.least R (λ y u. g y (w y u)) n x (g x t);
  }

  -- a disjunction from the left has a model where one that is joined has
  joined_first : (S : Subset X) (θ : Positive X) (θs : List (Positive X)) → T (models S θ) → T (models S (foldl or θ θs))
  joined_first S θ [] m = m
  joined_first S θ (η ∷ θs) m = joined_first S (or θ η) θs ((T_or (models S θ) (models S η)).1 (inl m))

  joined_each : (S : Subset X) {η : Positive X} (θ : Positive X) (θs : List (Positive X)) → Memᴰ η θs → T (models S η) → T (models S (foldl or θ θs))
  joined_each S θ [] k m = absurd (Memᴰ.not-nil k)
  joined_each S θ (χ ∷ θs) (Memᴰ.head e) m = joined_first S (or θ χ) θs ((T_or (models S θ) (models S χ)).1 (inr (subst (λ (η : Positive X). T (models S η)) e m)))
  joined_each S θ (χ ∷ θs) (Memᴰ.tail k) m = joined_each S (or θ χ) θs k m

  pub any-model : (S : Subset X) {η : Positive X} (θs : List (Positive X)) → Memᴰ η θs → T (models S η) → T (models S (any_of θs))
  any-model S [] k m = absurd (Memᴰ.not-nil k)
  any-model S (χ ∷ θs) (Memᴰ.head e) m = joined_first S χ θs (subst (λ (η : Positive X). T (models S η)) e m)
  any-model S (χ ∷ θs) (Memᴰ.tail k) m = joined_each S χ θs k m

  -- and where it has, one that is joined has
  joined-some : (S : Subset X) (θ : Positive X) (θs : List (Positive X)) → T (models S (foldl or θ θs)) → (η : Positive X) × Memᴰ η (θ ∷ θs) × T (models S η)
  joined-some S θ [] m = (θ, Memᴰ.head refl, m)
  joined-some S θ (χ ∷ θs) m = go (joined-some S (or θ χ) θs m)
    where
      first : T (models S θ) ⊎ T (models S χ) → (η : Positive X) × Memᴰ η (θ ∷ χ ∷ θs) × T (models S η)
      first (inl n) = (θ, Memᴰ.head refl, n)
      first (inr n) = (χ, Memᴰ.tail (Memᴰ.head refl), n)

      by : (η : Positive X) → T (models S η) → (η ≡ or θ χ) ⊎ Memᴰ η θs → (η : Positive X) × Memᴰ η (θ ∷ χ ∷ θs) × T (models S η)
      by η n (inl e) = first ((T_or (models S θ) (models S χ)).0 (subst (λ (ζ : Positive X). T (models S ζ)) e n))
      by η n (inr k) = (η, Memᴰ.tail (Memᴰ.tail k), n)

      go : (η : Positive X) × Memᴰ η (or θ χ ∷ θs) × T (models S η) → (η : Positive X) × Memᴰ η (θ ∷ χ ∷ θs) × T (models S η)
      go r = by r.0 r.2 (Memᴰ.cases_cons r.1)

  pub any_some : (S : Subset X) (θs : List (Positive X)) → T (models S (any_of θs)) → (η : Positive X) × Memᴰ η θs × T (models S η)
  any_some S [] m = absurd m
  any_some S (θ ∷ θs) m = joined-some S θ θs m

  -- and its atoms are those of what is joined
  joined-atoms : {x : X} (θ : Positive X) (θs : List (Positive X)) → Memᴰ x (atoms (foldl or θ θs)) → (η : Positive X) × Memᴰ η (θ ∷ θs) × Memᴰ x (atoms η)
  unfolding atoms
  joined-atoms θ [] m = (θ, Memᴰ.head refl, m)
  joined-atoms {x} θ (χ ∷ θs) m = go (joined-atoms (or θ χ) θs m)
    where
      first : Memᴰ x (atoms θ) ⊎ Memᴰ x (atoms χ) → (η : Positive X) × Memᴰ η (θ ∷ χ ∷ θs) × Memᴰ x (atoms η)
      first (inl n) = (θ, Memᴰ.head refl, n)
      first (inr n) = (χ, Memᴰ.tail (Memᴰ.head refl), n)

      by : (η : Positive X) → Memᴰ x (atoms η) → (η ≡ or θ χ) ⊎ Memᴰ η θs → (η : Positive X) × Memᴰ η (θ ∷ χ ∷ θs) × Memᴰ x (atoms η)
      by η n (inl e) = first (Memᴰ.append_cases (atoms θ) (subst (λ (ζ : Positive X). Memᴰ x (atoms ζ)) e n))
      by η n (inr k) = (η, Memᴰ.tail (Memᴰ.tail k), n)

      go : (η : Positive X) × Memᴰ η (or θ χ ∷ θs) × Memᴰ x (atoms η) → (η : Positive X) × Memᴰ η (θ ∷ χ ∷ θs) × Memᴰ x (atoms η)
      go r = by r.0 r.2 (Memᴰ.cases_cons r.1)

  pub any-atoms : {x : X} (θs : List (Positive X)) → Memᴰ x (atoms (any_of θs)) → (η : Positive X) × Memᴰ η θs × Memᴰ x (atoms η)
  unfolding atoms
  any-atoms [] m = absurd (Memᴰ.not-nil m)
  any-atoms (θ ∷ θs) m = joined-atoms θ θs m

  -- where equality is decided, a model contains a minimal one
  module _ (same : (x y : X) → Dec (x ≡ y)) where
    pub is_same : X → X → Bool
    is_same x y = decide (same x y)

    pub same_eq : (x y : X) → T (is_same x y) → x ≡ y
    unfolding is_same decide
    same_eq x y t = go (same x y) t
      where
        go : (d : Dec (x ≡ y)) → T (decide d) → x ≡ y
        go (yes e) t = e
        go (no f) t = absurd t

    pub eq_same : (x y : X) → x ≡ y → T (is_same x y)
    unfolding is_same decide
    eq_same x y e = go (same x y)
      where
        go : (d : Dec (x ≡ y)) → T (decide d)
        go (yes q) = tt
        go (no f) = absurd (f e)

    without : X → Subset X → Subset X
    without x S y = S y && not (is_same x y)

    without_within : (x : X) (S : Subset X) → Within (without x S) S
    unfolding without
    without_within x S y t = ((T_and (S y) (not (is_same x y))).0 t).0

    without_more : (x : X) (S S' : Subset X) → Within S S' → Within (without x S) (without x S')
    unfolding without
    without_more x S S' f y t = let p = (T_and (S y) (not (is_same x y))).0 t in (T_and (S' y) (not (is_same x y))).1 (f y p.0, p.1)

    without-itself : (x : X) (S : Subset X) → T (without x S x) → ⊥
    unfolding without
    without-itself x S t = T_not (is_same x x) ((T_and (S x) (not (is_same x x))).0 t).1 (eq_same x x refl)

    -- a set that lacks x lies in what is left without it
    lacking : (x : X) (S S' : Subset X) → Within S' S → (T (S' x) → ⊥) → Within S' (without x S)
    unfolding without
    lacking x S S' f n y t = (T_and (S y) (not (is_same x y))).1 (f y t, not_T (is_same x y) (λ e. n (subst (λ (z : X). T (S' z)) (sym (same_eq x y e)) t)))

    -- one element dropped, if a model is left
    drop : Positive X → X → Subset X → Subset X
    drop θ x S = cond (models (without x S) θ) (without x S) S

    drop_within : (θ : Positive X) (x : X) (S : Subset X) → Within (drop θ x S) S
    unfolding drop
    drop_within θ x S = go (models (without x S) θ)
      where
        go : (b : Bool) → Within (cond b (without x S) S) S
        go true = without_within x S
        go false = λ y t. t

    drop-model : (θ : Positive X) (x : X) (S : Subset X) → T (models S θ) → T (models (drop θ x S) θ)
    unfolding drop
    drop-model θ x S m = go (models (without x S) θ) refl
      where
        go : (b : Bool) → models (without x S) θ ≡ b → T (models (cond b (without x S) S) θ)
        go true e = subst T (sym e) tt
        go false e = m

    -- what is kept of it is needed
    drop-needed : (θ : Positive X) (x : X) (S : Subset X) → T (drop θ x S x) → T (models (without x (drop θ x S)) θ) → ⊥
    unfolding drop
    drop-needed θ x S = go (models (without x S) θ) refl
      where
        go : (b : Bool) → models (without x S) θ ≡ b → T (cond b (without x S) S x) → T (models (without x (cond b (without x S) S)) θ) → ⊥
        go true e t m = without-itself x S t
        go false e t m = subst T e m

    shrink : Positive X → List X → Subset X → Subset X
    shrink θ [] S = S
    shrink θ (x ∷ l) S = shrink θ l (drop θ x S)

    shrink_within : (θ : Positive X) (l : List X) (S : Subset X) → Within (shrink θ l S) S
    unfolding shrink
    shrink_within θ [] S y t = t
    shrink_within θ (x ∷ l) S y t = drop_within θ x S y (shrink_within θ l (drop θ x S) y t)

    shrink-model : (θ : Positive X) (l : List X) (S : Subset X) → T (models S θ) → T (models (shrink θ l S) θ)
    unfolding shrink
    shrink-model θ [] S m = m
    shrink-model θ (x ∷ l) S m = shrink-model θ l (drop θ x S) (drop-model θ x S m)

    shrink-needed : (θ : Positive X) (l : List X) (S : Subset X) (x : X) → Memᴰ x l → T (shrink θ l S x) → T (models (without x (shrink θ l S)) θ) → ⊥
    unfolding shrink
    shrink-needed θ [] S x k t m = Memᴰ.not-nil k
    shrink-needed θ (y ∷ l) S x k t m = go (Memᴰ.cases_cons k) (λ n. shrink-needed θ l (drop θ y S) x n t m)
      where
        inside : Within (shrink θ l (drop θ y S)) (drop θ y S)
        inside = shrink_within θ l (drop θ y S)

        go : (x ≡ y) ⊎ Memᴰ x l → (Memᴰ x l → ⊥) → ⊥
        go (inl e) r =
            drop-needed θ y S (subst (λ (z : X). T (drop θ y S z)) e (inside x t))
            (models_more (without x (shrink θ l (drop θ y S))) (without y (drop θ y S)) θ
            (subst (λ (z : X). Within (without x (shrink θ l (drop θ y S))) (without z (drop θ y S))) e (without_more x _ _ inside)) m)
        go (inr n) r = r n

    -- the set of what is listed
    pub listed : List X → Subset X
    listed [] y = false
    listed (x ∷ l) y = is_same x y || listed l y

    pub mem_listed : {x : X} (l : List X) → Memᴰ x l → T (listed l x)
    unfolding listed
    mem_listed [] k = Memᴰ.not-nil k
    mem_listed {x} (y ∷ l) (Memᴰ.head e) = (T_or (is_same y x) (listed l x)).1 (inl (eq_same y x (sym e)))
    mem_listed {x} (y ∷ l) (Memᴰ.tail k) = (T_or (is_same y x) (listed l x)).1 (inr (mem_listed l k))

    pub listed_mem : {x : X} (l : List X) → T (listed l x) → Memᴰ x l
    unfolding listed
    listed_mem [] t = absurd t
    listed_mem {x} (y ∷ l) t = go ((T_or (is_same y x) (listed l x)).0 t) (λ u. listed_mem l u)
      where
        go : T (is_same y x) ⊎ T (listed l x) → (T (listed l x) → Memᴰ x l) → Memᴰ x (y ∷ l)
        go (inl s) r = Memᴰ.head (sym (same_eq y x s))
        go (inr u) r = Memᴰ.tail (r u)

    -- the atoms of θ that are in a set
    occurring : Positive X → Subset X → Subset X
    occurring θ S y = S y && listed (atoms θ) y

    pub minimal_model : (S : Subset X) (θ : Positive X) → T (models S θ) → (S' : Subset X) × Within S' S × Minimal S' θ
    unfolding occurring
    minimal_model S θ m = (
      least,
      λ y t. ((T_and (S y) (listed (atoms θ) y)).0 (inside y t)).0,
      record {
        model = shrink-model θ (atoms θ) (occurring θ S) (models_on S (occurring θ S) θ (λ x k t. (T_and (S x) (listed (atoms θ) x)).1 (t, mem_listed (atoms θ) k)) m);
        least = λ S' w n x t. by S' w n x t (T-decided (S' x));
      },
    )
      where
        least : Subset X
        least = shrink θ (atoms θ) (occurring θ S)

        inside : Within least (occurring θ S)
        inside = shrink_within θ (atoms θ) (occurring θ S)

        by : (S' : Subset X) → Within S' least → T (models S' θ) → (x : X) → T (least x) → T (S' x) ⊎ (T (S' x) → ⊥) → T (S' x)
        by S' w n x t (inl u) = u
        by S' w n x t (inr f) =
            absurd (shrink-needed θ (atoms θ) (occurring θ S) x (listed_mem (atoms θ) ((T_and (S x) (listed (atoms θ) x)).0 (inside x t)).1) t
            (models_more S' (without x least) θ (lacking x least S' w f) n))

    -- and has only atoms that occur
    pub minimal_occurs : {S : Subset X} {θ : Positive X} → Minimal S θ → (x : X) → T (S x) → Memᴰ x (atoms θ)
    unfolding occurring
    minimal_occurs {S} {θ} m x t =
        let within : Within (occurring θ S) S = λ y u. ((T_and (S y) (listed (atoms θ) y)).0 u).0 in
        let model : T (models (occurring θ S) θ) = models_on S (occurring θ S) θ (λ y k u. (T_and (S y) (listed (atoms θ) y)).1 (u, mem_listed (atoms θ) k)) m.model in
        listed_mem (atoms θ) ((T_and (S x) (listed (atoms θ) x)).0 (m.least (occurring θ S) within model x t)).1
