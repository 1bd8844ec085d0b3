-- Words placed one after the other: parts joined by or, and that there is no room passed on.
use Prim.Native.Nat.{ℕ, ◌<◌}
use native.Mathlib.Omega.{arith}
use mathlib.Core.Path.{◌≡◌, refl, sym, subst}
use mathlib.Core.Bool.{Bool, false}
use Rattle.logic.specs.Formula.{Formula, const, lit, un, bin, disj}
use Rattle.transforms.specs.Folding.{Fold, stands, by_constant, on_left, on_right, fold_binary}
use Rattle.table.specs.Node.{pack, binary_kind}
use Rattle.table.specs.Numbering.{put, build}
use Rattle.numbering.proofs.Building.{Grows, grows_trans, put-grows, build-grows, build-bin}
use Rattle.placing.specs.State.{State, written, Numbered, Placing, Putting}
use Rattle.placing.proofs.Placing.{placing-written, placing-answer, placing-full, placing-grows, placing-reached, placing_on, build-positive}
use Rattle.std.specs.Prelude.{Option, Some, None}
use Rattle.table.specs.Answers.{OrNone, or_zero}
use Rattle.sums.specs.Summed.{Sum, at_of, Standing, SmallOr, Summed, SummedOr, Grown}

pub placing_small : {s e : State} {p : _} {r : ℕ} → Placing s e p r → r < 16384
placing_small q = omega (arith, q.within, q.numbered.within)

-- an or over two formulas that were placed one after the other
module _ {s m : State} (φ ψ : Formula) {a : ℕ} (p : Placing s m (build (written s) φ) a) where
  left_grows : Grows (build (written s) φ).table (build (written s) (bin disj φ ψ)).table
  left_grows = rw build-bin (grows_trans (build-grows (build (written s) φ).table ψ) (put-grows _ _))

  pub placing_left_full : a ≡ 0 → Placing s m (build (written s) (bin disj φ ψ)) 0
  placing_left_full z = placing-full (build (written s) (bin disj φ ψ)) p z (build-positive (written s) φ) left_grows

  module _ (g : 0 < a) {n : State} {b : ℕ} (q : Placing m n (build (written m) ψ) b) where
    pub placing_right_full : b ≡ 0 → Placing s n (build (written s) (bin disj φ ψ)) 0
    placing_right_full z =
        let grows = left_grows in
        placing_on (build (written s) (bin disj φ ψ)) (placing-reached p g)
        (placing-full (build (written s) (bin disj φ ψ)) q z (build-positive (written m) ψ) (rw (build-bin, ← placing-written p g) (put-grows _ _)))
        (rw (← (sym (placing-written p g))) grows)

    pub placing_both : 0 < b → {e : State} {r : ℕ} → Putting n e (put (written n) (pack (binary_kind disj) a b)) r → Placing s e (build (written s) (bin disj φ ψ)) r
    placing_both h {e} {r} k =
        rw (build-bin, ← placing-written p g, ← placing-answer p g, ← placing-written q h, ← placing-answer q h)
        (placing_on _ (placing-reached p g) (placing_on _ (placing-reached q h) k.placed (put-grows _ _)) (grows_trans (placing-grows ψ q h) (put-grows _ _)))

-- what is no constant makes nothing of a word
standing_by : (f : Bool → Fold) (φ : Formula) → Standing φ → by_constant f φ ≡ stands
standing_by f (const b) h = absurd h
standing_by f (lit b n) h = refl
standing_by f (un o a) h = refl
standing_by f (bin o a b) h = refl

-- an or that stands, and one with false on the right
pub or_stands : (χ φ : Formula) → Standing χ → Standing φ → fold_binary disj χ φ ≡ bin disj χ φ
unfolding fold_binary
or_stands χ φ p q = rw (standing_by (on_left disj) χ p, standing_by (on_right disj) φ q)

pub or-false : (χ : Formula) → Standing χ → fold_binary disj χ (const false) ≡ χ
unfolding fold_binary
or-false χ p = rw (standing_by (on_left disj) χ p)

false_or : (φ : Formula) → fold_binary disj (const false) φ ≡ φ
unfolding fold_binary
false_or φ = refl

-- what is said of a number or none holds of the number that stands for it
pub of_or : (P : ℕ → Type 0) (r : Option ℕ) → OrNone P r → P (or_zero r)
of_or P None p = p
of_or P (Some n) p = p.1

-- the number that was answered for a formula
pub at_number : (s₀ e : State) (φ : Formula) (r : Option ℕ) → Standing φ → OrNone (λ n. Placing s₀ e (build (written s₀) φ) n) r → SummedOr s₀ e φ (at_of r)
at_number s₀ e φ None h p = (h, p)
at_number s₀ e φ (Some r) h p = (h, p.0, p.1)

pub at_small : (r : Option ℕ) → or_zero r < 16384 → SmallOr (at_of r)
at_small None h = tt
at_small (Some r) h = h

-- a formula that is no constant, joined to each sum
module _ (φ : Formula) (st : Standing φ) {s : State} where
  pub join-full : Numbered s → Grown (λ χ. fold_binary disj χ φ) s s None None
  join-full h = record { numbered = h; small = tt; sums = λ s₀ χ p. rw (or_stands χ φ p.0 st) (tt, placing_left_full χ φ p.1 refl) }

  pub join-nothing : {e : State} (r : Option ℕ) → OrNone (λ n. Placing s e (build (written s) φ) n) r → Grown (λ χ. fold_binary disj χ φ) s e (Some None) (at_of r)
  join-nothing {e} r q =
      let k = of_or (λ n. Placing s e (build (written s) φ) n) r q in
      record {
        numbered = k.numbered;
        small = at_small r (placing_small k);
        sums = λ s₀ χ p. rw (p.0, false_or φ) (at_number s₀ e φ r st (subst (λ (x : State). OrNone (λ n. Placing x e (build (written x) φ) n) r) p.1 q));
      }

  -- no room for the formula
  pub join_no_room : (a : Sum) {m : State} → Placing s m (build (written s) φ) 0 → Grown (λ χ. fold_binary disj χ φ) s m (Some a) None
  join_no_room None q = join-nothing None q
  join_no_room (Some n) q = record { numbered = q.numbered; small = tt; sums = λ s₀ χ p. rw (or_stands χ φ p.0 st) (tt, placing_right_full χ φ p.2 p.1 q refl) }

  module _ (n : ℕ) {m : State} {b : ℕ} (g : 0 < b) (q : Placing s m (build (written s) φ) b) where
    both : (s₀ e : State) (w : ℕ) (χ : Formula) → Summed s₀ s χ (Some n) → w ≡ pack (binary_kind disj) n b → (r : Option ℕ)
        → OrNone (λ i. Putting m e (put (written m) w) i) r → OrNone (λ i. Placing s₀ e (build (written s₀) (bin disj χ φ)) i) r
    both s₀ e w χ p z None k = placing_both χ φ p.2 p.1 q g (rw z at k)
    both s₀ e w χ p z (Some i) k = (k.0, placing_both χ φ p.2 p.1 q g (rw z at k.1))

    pub join_at : {e : State} {w : ℕ} (r : Option ℕ) → w ≡ pack (binary_kind disj) n b → OrNone (λ i. Putting m e (put (written m) w) i) r → Grown (λ χ. fold_binary disj χ φ) s e (Some (Some n)) (at_of r)
    join_at {e} {w} r z k =
        let l = of_or (λ i. Putting m e (put (written m) w) i) r k in
        record {
          numbered = l.placed.numbered;
          small = at_small r (placing_small l.placed);
          sums = λ s₀ χ p. rw (or_stands χ φ p.0 st) (at_number s₀ e (bin disj χ φ) r tt (both s₀ e w χ p z r k));
        }

-- the same sum under another name
pub grown_as : {g : Formula → Formula} {s e : State} {a b r : Option Sum} → a ≡ b → Grown g s e b r → Grown g s e a r
grown_as {g} {s} {e} {r = r} x h = subst (λ (a : Option Sum). Grown g s e a r) (sym x) h
