-- Finding a word in a table, and putting one: what `find` answers, and that `put` keeps all words apart.
use Prim.Native.Nat.{ℕ, zero, suc, ◌+◌, ◌<◌, zero-le, suc-le-suc}
use native.Mathlib.Nat.{le_of_suc-le-suc, not-suc-le-zero, eq-or-lt_of_le}
use native.Mathlib.Omega.{arith}
use mathlib.Core.Path.{◌≡◌, refl, sym, ◌∙◌}
use mathlib.Core.Bool.{Bool, true, false}
use mathlib.Core.Logic.{◌⊎◌, inl, inr}
use mathlib.Core.List.{List, [], ◌∷◌, ◌++◌}
use lib.ListN.{length, get_or, length-append, get_or-append}
use lib.Seq.{get_or-append_seam}
use lib.Dec.{eqb}
use borrow.Author.Tests.{eqb-true, eqb-false, eq-eqb, ne_eqb}
use Rattle.table.specs.Checks.{occurs}
use Rattle.table.specs.Numbering.{find_from, find, put}
use Rattle.table.proofs.Accepted.{occurs_none}
use Rattle.numbering.specs.Held.{Distinct, Word}

-- where the search answers 0, no word is w
find_from_none : (k : ℕ) (t : List ℕ) (w : ℕ) → find_from k t w ≡ 0 → (i : ℕ) → i < length t → get_or t i 0 ≡ w → ⊥
unfolding find_from
find_from_none k [] w e i h q = omega arith
find_from_none k (v ∷ vs) w e i h q = go (eqb v w) refl (find_from_none (suc k) vs w) i h q
  where
    go : (b : Bool) → eqb v w ≡ b → (find_from (suc k) vs w ≡ 0 → (i : ℕ) → i < length vs → get_or vs i 0 ≡ w → ⊥) → (i : ℕ) → i < suc (length vs) → get_or (v ∷ vs) i 0 ≡ w → ⊥
    go true c rec i h q = let z : suc k ≡ 0 = (rw c at e) in omega arith
    go false c rec zero h q = eqb-false v w c q
    go false c rec (suc i) h q = rec (rw c at e) i (le_of_suc-le-suc h) q

-- a word that the search numbers is w, and no earlier one is
find_from-some : (k : ℕ) (t : List ℕ) (w n : ℕ) → find_from k t w ≡ suc n → (i : ℕ) × (n ≡ k + i) × (i < length t) × (get_or t i 0 ≡ w)
unfolding find_from
find_from-some k [] w n e = absurd (omega arith)
find_from-some k (v ∷ vs) w n e = go (eqb v w) refl (find_from-some (suc k) vs w n)
  where
    go : (b : Bool) → eqb v w ≡ b → (find_from (suc k) vs w ≡ suc n → (i : ℕ) × (n ≡ suc k + i) × (i < length vs) × (get_or vs i 0 ≡ w)) → (i : ℕ) × (n ≡ k + i) × (i < suc (length vs)) × (get_or (v ∷ vs) i 0 ≡ w)
    go true c rec = let z : suc k ≡ suc n = (rw c at e) in (0, omega arith, omega arith, eqb-true v w c)
    go false c rec = let r = rec (rw c at e) in (suc r.0, omega (arith, r.1), suc-le-suc r.2, r.3)

-- the first word that is w is the one that the search numbers
find_from_first : (k : ℕ) (t : List ℕ) (w i : ℕ) → i < length t → get_or t i 0 ≡ w → ((j : ℕ) → j < i → get_or t j 0 ≡ w → ⊥) → find_from k t w ≡ suc (k + i)
unfolding find_from
find_from_first k [] w i h q f = absurd (not-suc-le-zero h)
find_from_first k (v ∷ vs) w zero h q f = rw (eq-eqb v w q) (omega arith)
find_from_first k (v ∷ vs) w (suc i) h q f =
    rw (ne_eqb v w (f 0 (suc-le-suc zero-le))) (find_from_first (suc k) vs w i (le_of_suc-le-suc h) q (λ j g. f (suc j) (suc-le-suc g)) ∙ omega arith)

module _ (t : List ℕ) (w : ℕ) where
  pub find_none : find t w ≡ 0 → (i : ℕ) → i < length t → get_or t i 0 ≡ w → ⊥
  unfolding find
  find_none e = find_from_none 0 t w e

  pub find_within : (i : ℕ) → find t w ≡ suc i → i < length t
  unfolding find
  find_within i e = let r = find_from-some 0 t w i e in omega (arith, r.1, r.2)

  pub find_is : (i : ℕ) → find t w ≡ suc i → get_or t i 0 ≡ w
  unfolding find
  find_is i e = let r = find_from-some 0 t w i e in let q : i ≡ r.0 = omega (arith, r.1) in rw q r.3

  pub find_absent : occurs w t ≡ false → find t w ≡ 0
  find_absent e = go (find t w) refl
    where
      go : (n : ℕ) → find t w ≡ n → find t w ≡ 0
      go zero f = f
      go (suc i) f = absurd (occurs_none w t e i (find_within i f) (find_is i f))

  pub find-word : (i : ℕ) → find t w ≡ suc i → Word t (suc i) w
  find-word i e = record { positive = omega arith; within = find_within i e; is = find_is i e }

  -- among words that are apart, the one that is w is the one found
  pub find-distinct : Distinct t → (i : ℕ) → i < length t → get_or t i 0 ≡ w → find t w ≡ suc i
  unfolding find
  find-distinct d i h q =
      find_from_first 0 t w i h q (λ j g e. let s : j ≡ i = d.apart j i (omega arith) h (e ∙ sym q) in omega arith) ∙ omega arith

  pub find_held : Distinct t → (n : ℕ) → Word t n w → find t w ≡ n
  find_held d zero r = absurd (not-suc-le-zero r.positive)
  find_held d (suc i) r = find-distinct d i r.within r.is

  pub put-found : (i : ℕ) → find t w ≡ suc i → put t w ≡ record { table = t; number = suc i }
  unfolding put
  put-found i e = rw e

  pub put-new : find t w ≡ 0 → put t w ≡ record { table = t ++ (w ∷ []); number = suc (length t) }
  unfolding put
  put-new e = rw e

  -- a word that is there already is used again
  pub put_held : Distinct t → (n : ℕ) → Word t n w → put t w ≡ record { table = t; number = n }
  put_held d zero r = absurd (not-suc-le-zero r.positive)
  put_held d (suc i) r = put-found i (find_held d (suc i) r)

-- a table followed by a word that it has not is still of words that are apart
pub distinct_snoc : (t : List ℕ) (w : ℕ) → Distinct t → find t w ≡ 0 → Distinct (t ++ (w ∷ []))
distinct_snoc t w d e = record { apart = apart }
  where
    long : length (t ++ (w ∷ [])) ≡ suc (length t)
    long = length-append t (w ∷ []) ∙ omega arith

    old : (i : ℕ) → i < length t → get_or (t ++ (w ∷ [])) i 0 ≡ get_or t i 0
    old i h = get_or-append t (w ∷ []) 0 i h

    last : (i : ℕ) → i ≡ length t → get_or (t ++ (w ∷ [])) i 0 ≡ w
    last i h = rw h (get_or-append_seam t w [] 0)

    split : (i : ℕ) → i < length (t ++ (w ∷ [])) → (i ≡ length t) ⊎ (i < length t)
    split i h = eq-or-lt_of_le (omega (arith, long))

    apart : (i j : ℕ) → i < length (t ++ (w ∷ [])) → j < length (t ++ (w ∷ [])) → get_or (t ++ (w ∷ [])) i 0 ≡ get_or (t ++ (w ∷ [])) j 0 → i ≡ j
    apart i j hi hj q = go (split i hi) (split j hj)
      where
        go : (i ≡ length t) ⊎ (i < length t) → (j ≡ length t) ⊎ (j < length t) → i ≡ j
        go (inr a) (inr b) = d.apart i j a b (sym (old i a) ∙ q ∙ old j b)
        go (inr a) (inl b) = absurd (find_none t w e i a (sym (old i a) ∙ q ∙ last j b))
        go (inl a) (inr b) = absurd (find_none t w e j b (sym (old j b) ∙ sym q ∙ last i a))
        go (inl a) (inl b) = a ∙ sym b

pub distinct_nil : Distinct []
distinct_nil = record { apart = λ i j h. absurd (not-suc-le-zero h) }

-- what `put` gives: the table as it was, or with the word at its end
pub data Put (t : List ℕ) (w : ℕ) : Type 0 where
  again : (i : ℕ) → find t w ≡ suc i → put t w ≡ record { table = t; number = suc i } → Put t w
  fresh : find t w ≡ 0 → put t w ≡ record { table = t ++ (w ∷ []); number = suc (length t) } → Put t w

pub put_cases : (t : List ℕ) (w : ℕ) → Put t w
put_cases t w = go (find t w) refl
  where
    go : (f : ℕ) → find t w ≡ f → Put t w
    go zero e = fresh e (put-new t w e)
    go (suc i) e = again i e (put-found t w i e)
