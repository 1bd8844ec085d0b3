-- U, W, R and M by the present and the next position: the expansion laws.
use Prim.Native.Nat.{ℕ, suc, ◌≤◌, ◌<◌}
use native.Mathlib.Nat.{le_refl}
use native.Mathlib.Omega.{arith}
use mathlib.Core.Path.{subst}
use mathlib.Core.Logic.{◌↔◌, ◌⊎◌, inl, inr}
use Rattle.logic.specs.Semantics.{Predicate, Until, Strong, Weak, Release}
use Rattle.logic.proofs.Numbers.{lt_or_le}

-- what is so at present, and at a later position if it is not the present one
or_now : (P : Predicate) (i j : ℕ) → i ≤ j → P i → (suc i ≤ j → P j) → P j
or_now P i j h p f = go (lt_or_le i j)
  where
    go : (i < j) ⊎ (j ≤ i) → P j
    go (inl l) = f l
    go (inr l) = subst P (omega arith) p

-- each fixpoint is what it asks of the present, and itself at the next position
module _ (P Q : Predicate) (i : ℕ) where
  pub until_next : Until P Q i ↔ (Q i ⊎ (P i × Until P Q (suc i)))
  until_next = (λ u. there u (lt_or_le i u.0), back)
    where
      there : (u : Until P Q i) → (i < u.0) ⊎ (u.0 ≤ i) → Q i ⊎ (P i × Until P Q (suc i))
      there u (inl h) = inr (u.3 i (le_refl i) h, (u.0, h, u.2, λ j a b. u.3 j (omega arith) b))
      there u (inr h) = inl (subst Q (omega (arith, u.1)) u.2)

      back : Q i ⊎ (P i × Until P Q (suc i)) → Until P Q i
      back (inl q) = (i, le_refl i, q, λ j h l. absurd (omega arith))
      back (inr (p, u)) = (u.0, omega (arith, u.1), u.2, λ j h l. or_now P i j h p (λ m. u.3 j m l))

  pub strong_next : Strong P Q i ↔ (Q i × (P i ⊎ Strong P Q (suc i)))
  strong_next = (λ s. (s.3 i (le_refl i) s.1, there s (lt_or_le i s.0)), back)
    where
      there : (s : Strong P Q i) → (i < s.0) ⊎ (s.0 ≤ i) → P i ⊎ Strong P Q (suc i)
      there s (inl h) = inr (s.0, h, s.2, λ j a b. s.3 j (omega arith) b)
      there s (inr h) = inl (subst P (omega (arith, s.1)) s.2)

      back : Q i × (P i ⊎ Strong P Q (suc i)) → Strong P Q i
      back (q, inl p) = (i, le_refl i, p, λ j h l. subst Q (omega arith) q)
      back (q, inr s) = (s.0, omega (arith, s.1), s.2, λ j h l. or_now Q i j h q (λ m. s.3 j m l))

  -- W and R may also go on for ever
  pub weak_next : Weak P Q i ↔ (Q i ⊎ (P i × Weak P Q (suc i)))
  weak_next = (there, back)
    where
      there : Weak P Q i → Q i ⊎ (P i × Weak P Q (suc i))
      there (inl a) = inr (a i (le_refl i), inl (λ k h. a k (omega arith)))
      there (inr u) = elim (until_next.0 u) [ inl q ↦ inl q | inr r ↦ inr (r.0, inr r.1) ]

      back : Q i ⊎ (P i × Weak P Q (suc i)) → Weak P Q i
      back (inl q) = inr (until_next.1 (inl q))
      back (inr (p, inl a)) = inl (λ k h. or_now P i k h p (a k))
      back (inr (p, inr u)) = inr (until_next.1 (inr (p, u)))

  pub release_next : Release P Q i ↔ (Q i × (P i ⊎ Release P Q (suc i)))
  release_next = (there, back)
    where
      there : Release P Q i → Q i × (P i ⊎ Release P Q (suc i))
      there (inl a) = (a i (le_refl i), inr (inl (λ k h. a k (omega arith))))
      there (inr s) = let r = strong_next.0 s in (r.0, elim r.1 [ inl p ↦ inl p | inr m ↦ inr (inr m) ])

      back : Q i × (P i ⊎ Release P Q (suc i)) → Release P Q i
      back (q, inl p) = inr (strong_next.1 (q, inl p))
      back (q, inr (inl a)) = inl (λ k h. or_now Q i k h q (a k))
      back (q, inr (inr s)) = inr (strong_next.1 (q, inr s))
