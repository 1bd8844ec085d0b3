-- Classes never rise along a path, so that there is at most one change between accepting and other states.
use Prim.Native.Nat.{ℕ, zero, suc, ◌+◌, ◌-◌, ◌≤◌, ◌<◌}
use native.Mathlib.Nat.{add-suc, add-zero}
use native.Mathlib.Omega.{arith}
use native.Mathlib.Decide.{ℕ_discrete, dec_lt}
use mathlib.Core.Path.{◌≡◌, sym, ap, subst}
use mathlib.Core.Logic.{◌⊎◌, inl, inr}
use mathlib.Core.Bool.{Bool-discrete}
use Rattle.logic.specs.Formula.{Formula, Formula-discrete, Unary-discrete, Binary-discrete}
use Rattle.automata.specs.Automaton.{Leads, Changes, ChangesOnce}
use Rattle.automata.proofs.Models.{minimal_occurs}
use Rattle.automata_laws.specs.StateClass.{StateClass, StateClass-discrete}
use Rattle.automata_laws.specs.FormulaAutomaton.{State, formula_automaton}
use Rattle.automata_laws.proofs.Occurring.{level, level_range, Occurs, move-atoms}

-- two states are the same, or not
pub state_same : (p q : State) → Dec (p ≡ q)
state_same p q = go (Formula-discrete Bool-discrete ℕ_discrete Unary-discrete Binary-discrete p.formula q.formula) (StateClass-discrete p.class q.class)
  where
    go : Dec (p.formula ≡ q.formula) → Dec (p.class ≡ q.class) → Dec (p ≡ q)
    go (yes e) (yes f) = yes (λ i. record { formula = e i; class = f i })
    go (yes e) (no f) = no (λ x. f (ap (λ (s : State). s.class) x))
    go (no e) d = no (λ x. e (ap (λ (s : State). s.formula) x))

module _ (φ : Formula) where
  class-falls : (q q' : State) → Leads (formula_automaton φ) q q' → (q'.class ≡ q.class) ⊎ (level q'.class < level q.class)
  class-falls q q' x = go (move-atoms q.formula q.class x.0 (minimal_occurs state_same x.2 q' x.3))
    where
      go : Occurs q.formula q.class q' → (q'.class ≡ q.class) ⊎ (level q'.class < level q.class)
      go (inl e) = inl (ap (λ (s : State). s.class) e.0)
      go (inr i) = i.0.class

  module _ (k : ℕ) (p : ℕ → State) (leads : (n : ℕ) → n < k → Leads (formula_automaton φ) (p n) (p (suc n))) where
    falls : (m d : ℕ) → m + d ≤ k → level (p (m + d)).class ≤ level (p m).class
    falls m zero h = rw add-zero (omega arith)
    falls m (suc d) h =
        rw (add-suc m d) (go (class-falls (p (m + d)) (p (suc (m + d))) (leads (m + d) (omega arith))) (falls m d (omega arith)))
      where
        go : ((p (suc (m + d))).class ≡ (p (m + d)).class) ⊎ (level (p (suc (m + d))).class < level (p (m + d)).class) → level (p (m + d)).class ≤ level (p m).class
            → level (p (suc (m + d))).class ≤ level (p m).class
        go (inl e) r = rw e r
        go (inr l) r = omega arith

    change_falls : (n : ℕ) → n < k → Changes (formula_automaton φ) (p n) (p (suc n)) → level (p (suc n)).class < level (p n).class
    change_falls n h c = go (class-falls (p n) (p (suc n)) (leads n h))
      where
        go : ((p (suc n)).class ≡ (p n).class) ⊎ (level (p (suc n)).class < level (p n).class) → level (p (suc n)).class < level (p n).class
        go (inl e) = absurd (c (ap (λ (Γ : StateClass). (formula_automaton φ).accepting (record { formula = (p n).formula; class = Γ })) (sym e)))
        go (inr l) = l

    -- a second change would fall below the first level
    no_later : (m n : ℕ) → m < n → n < k → Changes (formula_automaton φ) (p m) (p (suc m)) → Changes (formula_automaton φ) (p n) (p (suc n)) → ⊥
    no_later m n h l c d =
        let e : suc m + (n - suc m) ≡ n = omega arith in
        let f : level (p n).class ≤ level (p (suc m)).class = subst (λ (x : ℕ). level (p x).class ≤ level (p (suc m)).class) e (falls (suc m) (n - suc m) (omega arith)) in
        omega (arith, change_falls m (omega arith) c, change_falls n l d, (level_range (p m).class).1, (level_range (p (suc n)).class).0)

  pub changes_once : ChangesOnce (formula_automaton φ)
  changes_once k p leads m n hm hn c d = go (ℕ_discrete m n) (dec_lt m n)
    where
      go : Dec (m ≡ n) → Dec (m < n) → m ≡ n
      go (yes e) x = e
      go (no f) (yes l) = absurd (no_later k p leads m n l hn c d)
      go (no f) (no l) = absurd (no_later k p leads n m (omega (arith, f, l)) hm d c)
