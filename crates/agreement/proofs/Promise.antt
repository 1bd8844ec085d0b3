-- What the answer says: recordings that are the same have the same driven bits at every position, for ever, and of others it is the first position that
-- differs; and what that says of rules.
use Prim.Native.Nat.{ℕ, zero, suc, ◌+◌, ◌≤◌, ◌<◌}
use mathlib.Core.Path.{◌≡◌, refl, sym, ap, subst, ◌∙◌}
use mathlib.Core.Bool.{Bool, true, false, cond}
use mathlib.Core.Logic.{◌↔◌, inl, inr}
use mathlib.Core.List.{List, ◌++◌}
use native.Mathlib.Nat.{eq-or-lt_of_le}
use native.Mathlib.Omega.{arith}
use lib.ListN.{length}
use lib.Dec.{eqb}
use borrow.Author.Tests.{eqb-true, not-false, ltb-false, leb-false}
use Rattle.refusals.specs.declared.Refusal.{Refusal}
use Rattle.refusals.specs.Refusals.{Outcome}
use Rattle.std.specs.Prelude.{None, Some, Ok, Err}
use Rattle.refusals.specs.Refusals.{first}
use Rattle.refusals.proofs.First.{first_passed, first_append_both}
use Rattle.logic.specs.Formula.{Formula}
use Rattle.logic.specs.Lasso.{Word, Lasso, letter_in, word, lasso_of}
use Rattle.logic.specs.Semantics.{Holds}
use Rattle.logic.specs.Driven.{Drives, Agree}
use Rattle.logic.proofs.Numbers.{lt_or_le}
use Rattle.logic.proofs.Lasso.Period.{period, word-periodic, lasso_inside}
use Rattle.logic.proofs.Lasso.Driven.{agree-holds}
use Rattle.table.specs.StepChecks.{driven_checks}
use Rattle.judge_conditions.specs.Checks.{recording_checks}
use Rattle.agreement.specs.Comparing.{Comparison, count_checks, comparison_checks, alike, difference_in, window, compared, compared_by, comparison}
use Rattle.agreement.specs.Difference.{Says}
use Rattle.agreement.specs.Telling.{TellsApart}
use Rattle.agreement.proofs.Bits.{alike-bits, unlike_bit}
use Rattle.agreement.proofs.Window.{for_ever}
use Rattle.agreement.proofs.Telling.{told-apart}

-- what a search through the n positions from i on says
abbrev Found : ℕ → Word → Word → ℕ → ℕ → Comparison → Type 0
Found k σ τ i n (Ok None) = (j : ℕ) → i ≤ j → j < i + n → alike k (σ j) (τ j) ≡ true
Found k σ τ i n (Ok (Some m)) = ((j : ℕ) → i ≤ j → j < m → alike k (σ j) (τ j) ≡ true) × (i ≤ m) × (alike k (σ m) (τ m) ≡ false)
Found k σ τ i n (Err why) = ⊥

module _ (k : ℕ) (σ τ : Word) where
  after_same : (i n : ℕ) → alike k (σ i) (τ i) ≡ true → (c : Comparison) → Found k σ τ (suc i) n c → Found k σ τ i (suc n) c
  after_same i n e (Ok None) h = λ j a b. elim (eq-or-lt_of_le a) [ inl q ↦ subst (λ (x : ℕ). alike k (σ x) (τ x) ≡ true) q e | inr l ↦ h j l (omega arith) ]
  after_same i n e (Ok (Some m)) h = (
    λ j a b. elim (eq-or-lt_of_le a) [ inl q ↦ subst (λ (x : ℕ). alike k (σ x) (τ x) ≡ true) q e | inr l ↦ h.0 j l b ],
    omega (arith, h.1),
    h.2,
  )
  after_same i n e (Err why) h = h

  found : (i n : ℕ) → Found k σ τ i n (difference_in k σ τ i n)
  unfolding difference_in
  found i zero = λ j a b. absurd (omega arith)
  found i (suc n) = go (alike k (σ i) (τ i)) (found (suc i) n) refl
    where
      go : (b : Bool) → Found k σ τ (suc i) n (difference_in k σ τ (suc i) n) → alike k (σ i) (τ i) ≡ b → Found k σ τ i (suc n) (cond b (difference_in k σ τ (suc i) n) (Ok (Some i)))
      go true f e = after_same i n e (difference_in k σ τ (suc i) n) f
      go false f e = (λ j a b. absurd (omega arith), omega arith, e)

module _ (r r' : Lasso) (counts : r.driven ≡ r'.driven) where
  -- how many positions are looked at
  abbrev looked : ℕ
  looked = window (length r.samples) r.start (length r'.samples) r'.start

  -- what is the same at those is the same for ever
  agree : ((j : ℕ) → j < looked → alike r.driven (word r j) (word r' j) ≡ true) → Agree r r'
  agree h = record {
    driven = counts;
    bits = λ i n d.
        for_ever r.start (period r) r'.start (period r') (omega (arith, r.inside)) (omega (arith, r'.inside))
        (λ j. letter_in (word r j) n) (λ j. letter_in (word r' j) n)
        (λ j l. ap (λ (v : ℕ). letter_in v n) (word-periodic r j l)) (λ j l. ap (λ (v : ℕ). letter_in v n) (word-periodic r' j l))
        (λ j l. alike-bits (word r j) (word r' j) r.driven (h j (omega arith)) n d) i;
  }

  says_by : (c : Comparison) → Found r.driven (word r) (word r') 0 looked c → Says r r' c
  says_by (Ok None) h = agree (λ j l. h j (omega arith) (omega arith))
  says_by (Ok (Some m)) h =
      let u = unlike_bit (word r m) (word r' m) r.driven h.2 in
      record {
        before = λ i n l d. alike-bits (word r i) (word r' i) r.driven (h.0 i (omega arith) l) n d;
        letter = u.0;
        driven = u.1;
        there = u.2;
      }
  says_by (Err why) h = h

  -- the answer says what is so
  pub compared_says : Says r r' (compared r r')
  unfolding compared
  compared_says = says_by (compared r r') (found r.driven (word r) (word r') 0 looked)

  -- and nothing else is so
  pub says_once : (c d : Comparison) → Says r r' c → Says r r' d → c ≡ d
  says_once (Ok None) (Ok None) a b = refl
  says_once (Ok None) (Ok (Some m)) a b = absurd (b.there (a.bits m b.letter b.driven))
  says_once (Ok (Some m)) (Ok None) a b = absurd (a.there (b.bits m a.letter a.driven))
  says_once (Ok (Some m)) (Ok (Some m')) a b =
      elim (lt_or_le m m') [
        | inl l ↦ absurd (a.there (b.before m a.letter l a.driven))
        | inr l ↦ elim (eq-or-lt_of_le l) [ inl e ↦ ap (λ (k : ℕ). Ok (Some k)) (sym e) | inr l' ↦ absurd (b.there (a.before m' b.letter l' b.driven)) ]
      ]
  says_once (Err why) d a b = absurd a
  says_once (Ok None) (Err why) a b = absurd b
  says_once (Ok (Some m)) (Err why) a b = absurd b

  -- same exactly where they agree for ever, and differing from m on exactly where m is the first position that differs
  pub says_exactly : (c : Comparison) → (compared r r' ≡ c) ↔ Says r r' c
  says_exactly c = (λ e. subst (Says r r') e compared_says, λ s. says_once (compared r r') c compared_says s)

  -- the same: every rule of driven letters holds at each position of both, or of neither
  pub same_holds : compared r r' ≡ Ok None → (φ : Formula) → Drives r φ → (i : ℕ) → Holds (word r) φ i ↔ Holds (word r') φ i
  same_holds e φ d i = agree-holds ((says_exactly (Ok None)).0 e) φ d i

  -- not the same: some rule of driven letters and X holds at position 0 of the first, and not of the second
  pub differ-told : (m : ℕ) → compared r r' ≡ Ok (Some m) → (φ : Formula) × TellsApart r r' φ
  differ-told m e = (_, told-apart counts ((says_exactly (Ok (Some m))).0 e))

-- recordings that a comparison accepts
pub record Comparable (samples : List ℕ) (start driven : ℕ) (samples' : List ℕ) (start' driven' : ℕ) : Type 0 where
  pub few_samples : length samples ≤ 4096
  pub few_samples' : length samples' ≤ 4096
  pub inside : start < length samples
  pub inside' : start' < length samples'
  pub few : driven ≤ 32
  pub counts : driven ≡ driven'

module _ (samples : List ℕ) (start driven : ℕ) (samples' : List ℕ) (start' driven' : ℕ) where
  pub comparable : first (comparison_checks (length samples) start driven (length samples') start' driven') ≡ Ok tt
      → Comparable samples start driven samples' start' driven'
  unfolding comparison_checks recording_checks driven_checks count_checks
  comparable e =
      let own = (first_append_both (recording_checks (length samples) start driven) (recording_checks (length samples') start' driven' ++ count_checks driven driven')).0 e in
      let others = (first_append_both (recording_checks (length samples') start' driven') (count_checks driven driven')).0 own.1 in
      let p = first_passed (recording_checks (length samples) start driven) own.0 in
      let q = first_passed (recording_checks (length samples') start' driven') others.0 in
      let c = first_passed (count_checks driven driven') others.1 in
      record {
        few_samples = ltb-false 4096 (length samples) p.1.0;
        few_samples' = ltb-false 4096 (length samples') q.1.0;
        inside = leb-false (length samples) start p.1.1.0;
        inside' = leb-false (length samples') start' q.1.1.0;
        few = ltb-false 32 driven p.1.1.1.0;
        counts = eqb-true driven driven' (not-false (eqb driven driven') c.0);
      }

  -- of any samples and numbers: refused by the first check that applies, or else the answer says what is so of the two recordings
  pub refused : (why : Refusal) → first (comparison_checks (length samples) start driven (length samples') start' driven') ≡ Err why
      → comparison samples start driven samples' start' driven' ≡ Err why
  unfolding comparison compared_by
  refused why e = ap (λ (o : Outcome). compared_by o (lasso_of samples start driven) (lasso_of samples' start' driven')) e

  module _ (e : first (comparison_checks (length samples) start driven (length samples') start' driven') ≡ Ok tt) where
    pub accepted : comparison samples start driven samples' start' driven' ≡ compared (lasso_of samples start driven) (lasso_of samples' start' driven')
    unfolding comparison compared_by
    accepted = ap (λ (o : Outcome). compared_by o (lasso_of samples start driven) (lasso_of samples' start' driven')) e

    same_counts : (lasso_of samples start driven).driven ≡ (lasso_of samples' start' driven').driven
    same_counts =
        let f = comparable e in
        let few' : driven' ≤ 32 = omega (arith, f.few, f.counts) in
        ap (λ (r : Lasso). r.driven) (lasso_inside samples start driven f.inside f.few).2 ∙ f.counts
        ∙ sym (ap (λ (r : Lasso). r.driven) (lasso_inside samples' start' driven' f.inside' few').2)

    pub says : (c : Comparison) → (comparison samples start driven samples' start' driven' ≡ c) ↔ Says (lasso_of samples start driven) (lasso_of samples' start' driven') c
    says c = (λ q. (says_exactly _ _ same_counts c).0 (sym accepted ∙ q), λ s. accepted ∙ (says_exactly _ _ same_counts c).1 s)

    -- the same: every rule of driven letters holds at each moment of both, or of neither
    pub rules-alike : comparison samples start driven samples' start' driven' ≡ Ok None → (φ : Formula) → Drives (lasso_of samples start driven) φ
        → (i : ℕ) → Holds (word (lasso_of samples start driven)) φ i ↔ Holds (word (lasso_of samples' start' driven')) φ i
    rules-alike q = same_holds _ _ same_counts (sym accepted ∙ q)

    -- not the same: some rule of driven letters and X tells them apart
    pub rule-tells : (m : ℕ) → comparison samples start driven samples' start' driven' ≡ Ok (Some m)
        → (φ : Formula) × TellsApart (lasso_of samples start driven) (lasso_of samples' start' driven') φ
    rule-tells m q = differ-told _ _ same_counts m (sym accepted ∙ q)
