-- One part of the normal form, the disjunct of a choice: what it tells when it holds, and that it holds for the exact choice.
use Prim.Native.Nat.{ℕ, ◌%◌, ◌/◌}
use mathlib.Core.Path.{subst}
use mathlib.Core.Bool.{Bool, true, false, cond}
use mathlib.Core.Logic.{◌⊎◌, inl, inr}
use mathlib.Core.List.Memᴰ
use mathlib.Core.List.{List, [], ◌∷◌, ◌++◌, map, Memᴰ}
use lib.Dec.{T, eqb}
use Rattle.logic.specs.Formula.{Formula, F, G}
use Rattle.logic.specs.Lasso.{Word}
use Rattle.logic.specs.Semantics.{Holds}
use Rattle.transforms.specs.Rewriting.{steady, recurring, opening}
use Rattle.transforms.specs.NormalForm.{is_least, is_greatest, is_fixpoint, member, chosen, least_of, greatest_of, part}
use Rattle.transforms.specs.Subformula.{Numbers}
use Rattle.transforms.specs.Recurrence.{InfinitelyOften, AlmostAlways, M⊆GF, GF⊆M, N⊆FG, FG⊆N}
use Rattle.transforms.specs.Choice.{Exact}
use Rattle.transforms.proofs.Normal.PlainFormula.{Plain, plain-sub, sub_trans}
use Rattle.transforms.proofs.Normal.Stability.{Stable, infinitely_of, of_infinitely, almost_of, of_almost}
use Rattle.transforms.proofs.Normal.OpeningForm.{opening-sound, opening-complete}
use Rattle.transforms.proofs.Normal.Conjuncts.{Conjuncts, conjuncts-sound, recurring-infinitely, steady-almost}
use Rattle.logic.proofs.Tests.{T_or}
use Rattle.transforms.proofs.Normal.Membership.{mem_of_member, member_of_mem, mem_keep}
use Rattle.transforms.proofs.Normal.Junctions.{conjunction_intro, conjunction_first, conjunction_each}

-- M and N of a choice, as tests
abbrev pub in_m : List Formula → ℕ → Formula → Bool
in_m ψs c = member (least_of ψs c)

abbrev pub in_n : List Formula → ℕ → Formula → Bool
in_n ψs c = member (greatest_of ψs c)

module _ (ψs : List Formula) (c : ℕ) where
  -- a part's conjuncts
  abbrev pub infinitelies : List Formula
  infinitelies = map (λ ψ. G (F (recurring (in_n ψs c) ψ))) (least_of ψs c)

  abbrev pub almosts : List Formula
  almosts = map (λ ψ. F (G (steady (in_m ψs c) ψ))) (greatest_of ψs c)

  part_conjuncts : {σ : Word} (φ : Formula) (i : ℕ) → Holds σ (part ψs φ c) i → Conjuncts σ (in_m ψs c) (in_n ψs c) φ
  unfolding part
  part_conjuncts {σ} φ i x =
      record {
        infinitely =
            λ ψ s l m.
            infinitely_of {i = i}
            (conjunction_each σ i (infinitelies ++ almosts) (opening (in_m ψs c) φ) x
            (Memᴰ.append_left almosts (Memᴰ.map (λ ψ. G (F (recurring (in_n ψs c) ψ))) (mem_of_member (least_of ψs c) ψ m))));
        almost =
            λ ψ s g n.
            almost_of {i = i}
            (conjunction_each σ i (infinitelies ++ almosts) (opening (in_m ψs c) φ) x
            (Memᴰ.append_right infinitelies (Memᴰ.map (λ ψ. F (G (steady (in_m ψs c) ψ))) (mem_of_member (greatest_of ψs c) ψ n))));
      }

-- a chosen formula is one of those numbered
pub mem_chosen : {ψ : Formula} (ψs : List Formula) (c : ℕ) → Memᴰ ψ (chosen ψs c) → Memᴰ ψ ψs
unfolding chosen
mem_chosen [] c m = m
mem_chosen {ψ} (χ ∷ ψs) c m = go (eqb (c % 2) 1) (λ n. mem_chosen ψs (c / 2) n) m
  where
    go : (b : Bool) → (Memᴰ ψ (chosen ψs (c / 2)) → Memᴰ ψ ψs)
        → Memᴰ ψ (cond b (χ ∷ chosen ψs (c / 2)) (chosen ψs (c / 2))) → Memᴰ ψ (χ ∷ ψs)
    go true ih (Memᴰ.head e) = Memᴰ.head e
    go true ih (Memᴰ.tail n) = Memᴰ.tail (ih n)
    go false ih n = Memᴰ.tail (ih n)

pub mem_least_of : {ψ : Formula} (ψs : List Formula) (c : ℕ) → Memᴰ ψ (least_of ψs c) → Memᴰ ψ ψs × T (is_least ψ)
unfolding least_of
mem_least_of ψs c m = let k = mem_keep is_least (chosen ψs c) m in (mem_chosen ψs c k.0, k.1)

pub mem_greatest_of : {ψ : Formula} (ψs : List Formula) (c : ℕ) → Memᴰ ψ (greatest_of ψs c) → Memᴰ ψ ψs × T (is_greatest ψ)
unfolding greatest_of
mem_greatest_of ψs c m = let k = mem_keep is_greatest (chosen ψs c) m in (mem_chosen ψs c k.0, k.1)

-- a least and a greatest fixpoint are fixpoints
least-fixpoint : (ψ : Formula) → T (is_least ψ) → T (is_fixpoint ψ)
least-fixpoint ψ l = (T_or (is_least ψ) (is_greatest ψ)).1 (inl l)

greatest-fixpoint : (ψ : Formula) → T (is_greatest ψ) → T (is_fixpoint ψ)
greatest-fixpoint ψ g = (T_or (is_least ψ) (is_greatest ψ)).1 (inr g)

module _ {σ : Word} (w : Stable σ) (ψs : List Formula) {φ : Formula} (plain : Plain φ) (c i : ℕ) where
  -- a part that holds has chosen only fixpoints of φ that hold infinitely often, or from some position on
  pub part_chosen : Holds σ (part ψs φ c) i → M⊆GF σ (in_m ψs c) φ × N⊆FG σ (in_n ψs c) φ
  part_chosen x = conjuncts-sound w (in_m ψs c) (in_n ψs c) plain (part_conjuncts ψs c φ i x)

  -- and φ holds
  pub part_sound : Holds σ (part ψs φ c) i → Holds σ φ i
  unfolding part
  part_sound x =
      opening-sound σ (in_m ψs c) plain (part_chosen x).0 i
      (conjunction_first σ i (infinitelies ψs c ++ almosts ψs c) (opening (in_m ψs c) φ) x)

  module _ (numbers : Numbers ψs φ) where
    pub part_least : Holds σ (part ψs φ c) i → (ψ : Formula) → Memᴰ ψ (least_of ψs c) → InfinitelyOften (Holds σ ψ)
    part_least x ψ m =
        let k = mem_least_of ψs c m in
        (part_chosen x).0 ψ (numbers.inside ψ k.0) k.1 (member_of_mem (least_of ψs c) ψ m)

    pub part_greatest : Holds σ (part ψs φ c) i → (ψ : Formula) → Memᴰ ψ (greatest_of ψs c) → AlmostAlways (Holds σ ψ)
    part_greatest x ψ m =
        let k = mem_greatest_of ψs c m in
        (part_chosen x).1 ψ (numbers.inside ψ k.0) k.1 (member_of_mem (greatest_of ψs c) ψ m)

    module _ (exact : Exact σ ψs c) where
      GF-chosen : GF⊆M σ (in_m ψs c) φ
      GF-chosen ψ s l x = member_of_mem (least_of ψs c) ψ ((exact.least ψ).1 (numbers.complete ψ s (least-fixpoint ψ l), l, x))

      FG-chosen : FG⊆N σ (in_n ψs c) φ
      FG-chosen ψ s g x = member_of_mem (greatest_of ψs c) ψ ((exact.greatest ψ).1 (numbers.complete ψ s (greatest-fixpoint ψ g), g, x))

      infinitely_each : {ψ : Formula} → Memᴰ ψ (least_of ψs c) → Holds σ (G (F (recurring (in_n ψs c) ψ))) i
      infinitely_each {ψ} m =
          let k = (exact.least ψ).0 m in
          let s = numbers.inside ψ k.0 in
          of_infinitely i
          (recurring-infinitely w (in_m ψs c) (in_n ψs c) (plain-sub s plain) (λ χ t. FG-chosen χ (sub_trans t s)) k.2)

      almost_each : {ψ : Formula} → Memᴰ ψ (greatest_of ψs c) → Holds σ (F (G (steady (in_m ψs c) ψ))) i
      almost_each {ψ} m =
          let k = (exact.greatest ψ).0 m in
          let s = numbers.inside ψ k.0 in
          of_almost i
          (steady-almost w (in_m ψs c) (in_n ψs c) (plain-sub s plain) (λ χ t. GF-chosen χ (sub_trans t s)) k.2)

      conjunct_each : (θ : Formula) → Memᴰ θ (infinitelies ψs c) ⊎ Memᴰ θ (almosts ψs c) → Holds σ θ i
      conjunct_each θ (inl m) =
          let k = Memᴰ.of_map (λ ψ. G (F (recurring (in_n ψs c) ψ))) (least_of ψs c) m in
          subst (λ χ. Holds σ χ i) k.2 (infinitely_each k.1)
      conjunct_each θ (inr m) =
          let k = Memᴰ.of_map (λ ψ. F (G (steady (in_m ψs c) ψ))) (greatest_of ψs c) m in
          subst (λ χ. Holds σ χ i) k.2 (almost_each k.1)

      -- where φ holds, the part of the exact choice holds
      pub part_complete : Holds σ φ i → Holds σ (part ψs φ c) i
      unfolding part
      part_complete x =
          conjunction_intro σ i (infinitelies ψs c ++ almosts ψs c) (opening (in_m ψs c) φ)
          (opening-complete σ w (in_m ψs c) plain GF-chosen i x)
          (λ θ m. conjunct_each θ (Memᴰ.append_cases (infinitelies ψs c) m))
