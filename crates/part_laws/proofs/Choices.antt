-- The choices among so many words are the numbers below a power of two, each of which is given by the bits of the until-like words.
use Prim.Native.Nat.{ℕ, zero, suc, ◌^◌, ◌≤◌, ◌<◌}
use native.Mathlib.Omega.{arith}
use native.Mathlib.Nat.{zero-add}
use native.Mathlib.Decide.{dec_lt}
use mathlib.Core.Path.{◌≡◌, refl, sym, ap, subst, ◌∙◌}
use mathlib.Core.Logic.{◌↔◌, ⊎_elim}
use mathlib.Core.Bool.{Bool, true, false}
use mathlib.Core.List.Memᴰ
use mathlib.Core.List.{List, [], ◌∷◌, foldl, Memᴰ}
use lib.ListN.{length, get_or}
use lib.Count.{ones}
use lib.Dec.{eqb}
use Rattle.logic.specs.Bit.{bit}
use Rattle.logic.specs.Formula.{Formula, bin, disj}
use Rattle.transforms.specs.NormalForm.{below, choices_of, choices, disjoin, from}
use Rattle.transforms.specs.Subformula as subformula
use Rattle.transforms.specs.Subformula.{Sub}
use Rattle.transforms.proofs.Normal.Membership.{mem_keep}
use Rattle.transforms.proofs.Normal.Choices.{mem_choices}
use Rattle.transforms.proofs.Normal.PlainFormula.{sub_trans}
use Rattle.row_words.proofs.Bits.{packed}
use Rattle.normal_laws.proofs.LengthBound.{mem_flat}
use Rattle.table.specs.StepChecks.{is_fixpoint_word}
use Rattle.fixpoints.specs.Positions.{bit_of}
use Rattle.fixpoints.proofs.UntilLike.{bit_of_step}

below_mem : (n c : ℕ) → Memᴰ c (below n) → c < n
below_mem zero c m = absurd (Memᴰ.not-nil m)
below_mem (suc n) c m = ⊎_elim {C = c < suc n} (λ e. omega arith) (λ k. omega (arith, below_mem n c k)) (Memᴰ.cases_cons m)

choice_below : (k c : ℕ) → Memᴰ c (choices k) → c < 2 ^ k
unfolding choices choices_of
choice_below k c m =
    let j = mem_flat (choices_of k) (from 0 (suc k)) m in
    below_mem (2 ^ k) c (mem_keep (λ d. eqb (ones d) j.0) (below (2 ^ k)) j.2).0

-- the choices among k words are the numbers below 2 ^ k
pub choices_below : (k c : ℕ) → Memᴰ c (choices k) ↔ (c < 2 ^ k)
choices_below k c = (choice_below k c, mem_choices k c)

-- what is joined from the left stands in the whole
sub_first : (φ : Formula) (l : List Formula) → Sub φ (foldl (bin disj) φ l)
sub_first φ [] = subformula.self
sub_first φ (ψ ∷ l) = sub_trans (subformula.left subformula.self) (sub_first (bin disj φ ψ) l)

sub_each : {ψ : Formula} (φ : Formula) (l : List Formula) → Memᴰ ψ l → Sub ψ (foldl (bin disj) φ l)
sub_each φ [] m = absurd (Memᴰ.not-nil m)
sub_each {ψ} φ (χ ∷ l) m =
    ⊎_elim (λ e. subst (λ (θ : Formula). Sub θ (foldl (bin disj) φ (χ ∷ l))) (sym e) (sub_trans (subformula.right subformula.self) (sub_first (bin disj φ χ) l)))
    (λ n. sub_each (bin disj φ χ) l n) (Memᴰ.cases_cons m)

pub sub-disjoin : {ψ : Formula} (l : List Formula) → Memᴰ ψ l → Sub ψ (disjoin l)
sub-disjoin [] m = absurd (Memᴰ.not-nil m)
sub-disjoin (φ ∷ l) m =
    ⊎_elim (λ e. subst (λ (θ : Formula). Sub θ (disjoin (φ ∷ l))) (sym e) (sub_first φ l)) (λ n. sub_each φ l n) (Memᴰ.cases_cons m)

-- each bit is that of an until-like word
pub bit_word_lem : (t : List ℕ) (b n : ℕ) → n ≤ length t → b < bit_of t n → (i : ℕ) × (i < n) × (bit_of t i ≡ b) × (is_fixpoint_word (get_or t i 0) ≡ true)
bit_word_lem t b zero h l = absurd (omega arith)
bit_word_lem t b (suc n) h l = go (dec_lt b (bit_of t n)) (is_fixpoint_word (get_or t n 0)) refl (bit_word_lem t b n (omega arith))
  where
    go : Dec (b < bit_of t n) → (x : Bool) → is_fixpoint_word (get_or t n 0) ≡ x
        → (b < bit_of t n → (i : ℕ) × (i < n) × (bit_of t i ≡ b) × (is_fixpoint_word (get_or t i 0) ≡ true))
        → (i : ℕ) × (i < suc n) × (bit_of t i ≡ b) × (is_fixpoint_word (get_or t i 0) ≡ true)
    go (yes k) x e r = let w = r k in (w.0, omega (arith, w.1), w.2, w.3)
    go (no k) true e r = (n, omega arith, omega (arith, k, rw e at (bit_of_step t n h)), e)
    go (no k) false e r = absurd (omega (arith, k, rw e at (bit_of_step t n h)))

-- two numbers below 2 ^ k with the same k bits are one
pub same_bits : (k c d : ℕ) → c < 2 ^ k → d < 2 ^ k → ((b : ℕ) → b < k → bit c b ≡ bit d b) → c ≡ d
same_bits k c d hc hd e =
    packed (bit d) 0 k c hc (λ b h. e b h ∙ ap (bit d) (sym (zero-add b)))
    ∙ sym (packed (bit d) 0 k d hd (λ b h. ap (bit d) (sym (zero-add b))))
