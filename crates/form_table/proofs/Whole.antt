-- The folded form is the sum of the folded parts; it is true where one of them is.
use Prim.Native.Nat.{ℕ, ◌^◌, ◌<◌}
use native.Mathlib.Omega.{arith}
use mathlib.Core.Path.{◌≡◌, refl, sym, ap, subst, ◌∙◌}
use mathlib.Core.Bool.{true, false}
use mathlib.Core.List.Memᴰ
use mathlib.Core.List.{List, [], ◌∷◌, map, foldl, Memᴰ}
use mathlib.Core.Logic.{◌⊎◌, inl, inr}
use lib.ListN.{length}
use Rattle.logic.specs.Formula.{Formula, const, lit, un, bin, disj}
use Rattle.transforms.specs.NormalForm.{part, choices, disjoin, normal_form}
use Rattle.transforms.specs.Folding.{fold_binary, fold}
use Rattle.transforms.proofs.Normal.Choices.{mem_choices}
use Rattle.table.specs.Table.{rule}
use Rattle.table.specs.Steps.{fixpoints}
use Rattle.table.specs.Numbering.{put, constant_word, build}
use Rattle.numbering.proofs.Building.{build-const}
use Rattle.placing.specs.State.{State, written, Numbered, Placing, Putting}
use Rattle.choosing.specs.Filled.{Laid}
use Rattle.parts.specs.Parts.{folded_part, Ready}
use Rattle.true_parts.proofs.Looks.{ready_again}
use Rattle.std.specs.Prelude.{Option, Some, None}
use Rattle.table.specs.Answers.{OrNone}
use Rattle.sums.specs.Summed.{Sum, SummedOr}
use Rattle.part_sums.specs.Joining.{joined, Joinable}
use Rattle.form_table.specs.Formable.{Formable}

module _ (t : List ℕ) where
  abbrev form : Formula
  form = normal_form (fixpoints t) (rule t)

  -- folding a disjunction folds what is joined
  fold-joined : (cs : List ℕ) (φ : Formula) → fold (foldl (bin disj) φ (map (part (fixpoints t) (rule t)) cs)) ≡ joined t cs (fold φ)
  unfolding fold
  fold-joined [] φ = refl
  fold-joined (c ∷ cs) φ = fold-joined cs (bin disj φ (part (fixpoints t) (rule t) c))

  fold-disjoin : (cs : List ℕ) → fold (disjoin (map (part (fixpoints t) (rule t)) cs)) ≡ joined t cs (const false)
  unfolding fold fold_binary
  fold-disjoin [] = refl
  fold-disjoin (c ∷ cs) = fold-joined cs (part (fixpoints t) (rule t) c)

  pub fold-form : {k : ℕ} → k ≡ length (fixpoints t) → joined t (choices k) (const false) ≡ fold form
  unfolding normal_form
  fold-form e = ap (λ (j : ℕ). joined t (choices j) (const false)) e ∙ sym (fold-disjoin (choices (length (fixpoints t))))

  -- true joined to anything is true, and so is what is joined to it
  or-true : (χ : Formula) → fold_binary disj χ (const true) ≡ const true
  unfolding fold_binary
  or-true (const true) = refl
  or-true (const false) = refl
  or-true (lit b n) = refl
  or-true (un o a) = refl
  or-true (bin o a b) = refl

  true-stays : (cs : List ℕ) → joined t cs (const true) ≡ const true
  unfolding fold_binary
  true-stays [] = refl
  true-stays (c ∷ cs) = true-stays cs

  joined-true : (c : ℕ) → folded_part t c ≡ const true → (cs : List ℕ) (χ : Formula) → Memᴰ c cs → joined t cs χ ≡ const true
  joined-true c e [] χ m = absurd (Memᴰ.not-nil m)
  joined-true c e (d ∷ ds) χ m = go (Memᴰ.cases_cons m) (λ n. joined-true c e ds (fold_binary disj χ (folded_part t d)) n)
    where
      go : (c ≡ d) ⊎ Memᴰ c ds → (Memᴰ c ds → joined t (d ∷ ds) χ ≡ const true) → joined t (d ∷ ds) χ ≡ const true
      go (inl q) f =
          ap (λ (φ : Formula). joined t ds (fold_binary disj χ φ)) (subst (λ (x : ℕ). folded_part t x ≡ const true) q e) ∙ ap (joined t ds) (or-true χ) ∙ true-stays ds
      go (inr n) f = f n

  pub form-true : {k : ℕ} → k ≡ length (fixpoints t) → (c : ℕ) × (c < 2 ^ k) × (folded_part t c ≡ const true) → fold form ≡ const true
  form-true {k} e w = sym (fold-form e) ∙ joined-true w.0 w.2 (choices k) (const false) (mem_choices k w.0 w.1)

  placed_word : fold form ≡ const true → {s e : State} {w r : ℕ} → w ≡ constant_word true → Putting s e (put (written s) w) r → Placing s e (build (written s) (fold form)) r
  placed_word e {s} z p = rw (e, build-const (written s) true) (rw z at p.placed)

  pub placed-true : fold form ≡ const true → (s e : State) (w : ℕ) → w ≡ constant_word true → (r : Option ℕ)
      → OrNone (λ n. Putting s e (put (written s) w) n) r → OrNone (λ n. Placing s e (build (written s) (fold form)) n) r
  placed-true e s m w z None p = placed_word e z p
  placed-true e s m w z (Some n) p = (p.0, placed_word e z p.1)

  pub placed_sum : {k : ℕ} → k ≡ length (fixpoints t) → (s e : State) (r : Option ℕ)
      → OrNone (λ n. Placing s e (build (written s) (joined t (choices k) (const false))) n) r → OrNone (λ n. Placing s e (build (written s) (fold form)) n) r
  placed_sum q s e r p = subst (λ (φ : Formula). OrNone (λ n. Placing s e (build (written s) φ) n) r) (fold-form q) p

-- a sum leaves a table whose words are numbered
pub summed-numbered : (s e : State) (χ : Formula) (r : Option Sum) → Numbered s → SummedOr s e χ r → Numbered e
summed-numbered s e χ None h p = p.1.numbered
summed-numbered s e χ (Some None) h p = subst Numbered (sym p.1) h
summed-numbered s e χ (Some (Some n)) h p = p.2.numbered

-- what the look and the sum are asked with
module _ {t positions : List ℕ} {bits : ℕ} {d folded numbers stack : List ℕ} {s : State} (q : Formable t positions bits d folded numbers stack s) where
  pub ready_first : {e : List ℕ} → length e ≡ length d → Laid t e (length t) → Ready t positions e folded
  ready_first l laid = record {
    fillable = record {
      room = record { limit = q.room.limit; accepted = q.room.accepted; long = rw l q.room.long; narrow = rw l q.room.narrow };
      kept = q.kept;
      laid = laid;
    };
    long = q.long ∙ sym l;
  }

  pub joinable_first : {e : List ℕ} → length e ≡ length d → Laid t e (length t) → {e' f : List ℕ} → length e' ≡ length e → length f ≡ length folded → Laid t e' (length t)
      → Joinable t positions e' f numbers stack s
  joinable_first l laid k f again = record {
    ready = ready_again (ready_first l laid) k f again;
    numbers_long = omega (arith, q.numbers_long);
    stack_long = omega (arith, q.stack_long);
    numbered = q.numbered;
  }
