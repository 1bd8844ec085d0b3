-- One part more: of a choice with another count, of one whose part is false, and of one that is joined.
use Prim.Native.Nat.{ℕ, ◌^◌, ◌≤◌}
use native.Mathlib.Omega.{arith}
use mathlib.Core.Path.{◌≡◌, refl, sym, subst}
use mathlib.Core.Bool.{true, false}
use mathlib.Core.List.{List, [], ◌∷◌}
use lib.ListN.{length, get_or}
use lib.Count.{ones}
use borrow.Author.Tests.{ne_eqb, eq-eqb}
use Rattle.logic.specs.Formula.{Formula, const, lit, un, bin, disj}
use Rattle.transforms.specs.NormalForm.{chosen_in}
use Rattle.transforms.specs.Folding.{fold_binary}
use Rattle.slots.specs.Slot.{kind}
use Rattle.drafts.specs.Drafted.{Drafted}
use Rattle.drafts.proofs.Drafts.{drafted_within}
use Rattle.folding.proofs.Roots.{kind-constant, constant-kind}
use Rattle.choosing.specs.Filled.{Laid}
use Rattle.placing.specs.State.{State, Numbered}
use Rattle.parts.specs.Parts.{folded_part}
use Rattle.true_parts.proofs.Looks.{ready_again}
use Rattle.std.specs.Prelude.{Option, Some, None}
use Rattle.sums.specs.Summed.{Sum, Standing, SmallOr, SummedOr, Grown}
use Rattle.sums.proofs.Growth.{or-false, join-full}
use Rattle.part_sums.specs.Joining.{joined, Untrue, Joinable}

pub grown_same : (g : Formula → Formula) {s : State} {a : Option Sum} → Numbered s → SmallOr a → ((χ : Formula) → χ ≡ g χ) → Grown g s s a a
grown_same g {s} {a} h l e = record { numbered = h; small = l; sums = λ s₀ χ p. subst (λ (φ : Formula). SummedOr s₀ s φ a) (e χ) p }

-- a false part adds nothing to any sum
or_nothing : (s₀ s : State) (χ : Formula) (a : Option Sum) → SummedOr s₀ s χ a → SummedOr s₀ s (fold_binary disj χ (const false)) a
unfolding fold_binary
or_nothing s₀ s χ None p = rw (or-false χ p.0) p
or_nothing s₀ s χ (Some None) p = rw p.0 (refl, p.1)
or_nothing s₀ s χ (Some (Some n)) p = rw (or-false χ p.0) p

standing : (φ : Formula) → (φ ≡ const true → ⊥) → (φ ≡ const false → ⊥) → Standing φ
standing (const true) t f = absurd (t refl)
standing (const false) t f = absurd (f refl)
standing (lit b n) t f = tt
standing (un o a) t f = tt
standing (bin o a b) t f = tt

module _ (t : List ℕ) (c n : ℕ) {s : State} where
  pub part_other : {a : Option Sum} → Numbered s → SmallOr a → (ones c ≡ n → ⊥) → Grown (joined t (chosen_in (c ∷ []) n)) s s a a
  part_other h l f = grown_same (joined t (chosen_in (c ∷ []) n)) h l (λ χ. sym (rw (ne_eqb (ones c) n f) refl))

  module _ (q : ones c ≡ n) where
    pub part_joined : {e : State} {a r : Option Sum} → Grown (λ χ. fold_binary disj χ (folded_part t c)) s e a r → Grown (joined t (chosen_in (c ∷ []) n)) s e a r
    part_joined g = record { numbered = g.numbered; small = g.small; sums = λ s₀ χ p. rw (eq-eqb (ones c) n q) (g.sums s₀ χ p) }

    pub part_false : {a : Option Sum} → Numbered s → SmallOr a → folded_part t c ≡ const false → Grown (joined t (chosen_in (c ∷ []) n)) s s a a
    part_false {a} h l z = part_joined (record { numbered = h; small = l; sums = λ s₀ χ p. rw z (or_nothing s₀ s χ a p) })

    -- nothing is joined where there is no room
    pub part_full : {a : Option Sum} → Numbered s → Untrue t c → a ≡ None → Grown (joined t (chosen_in (c ∷ []) n)) s s a None
    part_full {a} h u z = subst (λ (x : Option Sum). Grown (joined t (chosen_in (c ∷ []) n)) s s x None) (sym z) (go (folded_part t c) refl)
      where
        go : (φ : Formula) → folded_part t c ≡ φ → Grown (joined t (chosen_in (c ∷ []) n)) s s None None
        go (const true) e = absurd (u e)
        go (const false) e = part_false h tt e
        go (lit b p) e = part_joined (subst (λ (φ : Formula). Grown (λ χ. fold_binary disj χ φ) s s None None) (sym e) (join-full (lit b p) tt h))
        go (un o a) e = part_joined (subst (λ (φ : Formula). Grown (λ χ. fold_binary disj χ φ) s s None None) (sym e) (join-full (un o a) tt h))
        go (bin o a b) e = part_joined (subst (λ (φ : Formula). Grown (λ χ. fold_binary disj χ φ) s s None None) (sym e) (join-full (bin o a b) tt h))

-- what the kind of the root tells of a part
module _ (t folded : List ℕ) (c root : ℕ) (drafted : Drafted folded (folded_part t c) root) (few : length folded ≤ 2 ^ 20) where
  pub root_false : kind (get_or folded root 0) ≡ 1 → folded_part t c ≡ const false
  root_false e = kind-constant folded root (omega (arith, drafted_within folded (folded_part t c) root drafted)) false (folded_part t c) drafted e

  pub root_standing : Untrue t c → (kind (get_or folded root 0) ≡ 1 → ⊥) → Standing (folded_part t c)
  root_standing u e = standing (folded_part t c) u (λ z. e (constant-kind folded root false (subst (λ (φ : Formula). Drafted folded φ root) z drafted)))

-- the next choice is asked with the same, but for the state and what the slices hold
pub joinable_again : {t positions d folded numbers stack : List ℕ} {s m : State} → Joinable t positions d folded numbers stack s → {d' f' n' k' : List ℕ}
    → length d' ≡ length d → length f' ≡ length folded → length n' ≡ length numbers → length k' ≡ length stack → Laid t d' (length t) → Numbered m → Joinable t positions d' f' n' k' m
joinable_again q l f n k laid h = record {
  ready = ready_again q.ready l f laid;
  numbers_long = omega (arith, q.numbers_long);
  stack_long = omega (arith, q.stack_long);
  numbered = h;
}
