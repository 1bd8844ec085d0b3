-- The states of an automaton move to its states, and it starts with them.
use Prim.Native.Nat.{ℕ}
use mathlib.Core.Path.{sym, subst}
use mathlib.Core.Logic.{inl, inr}
use mathlib.Core.List.{Memᴰ}
use Rattle.logic.specs.Formula.{Formula}
use Rattle.transforms.proofs.Normal.PlainFormula.{sub_trans}
use Rattle.automata.proofs.Models.{atoms}
use Rattle.automata_laws.specs.StateClass.{every}
use Rattle.automata_laws.specs.FormulaAutomaton.{State, combination, move_of, formula_automaton}
use Rattle.automata_laws.proofs.Occurring.{Occurs, down-atoms, move-atoms}

module _ (φ : Formula) where
  pub start_closed : (q : State) → Memᴰ q (atoms (combination every φ)) → (formula_automaton φ).IsState q
  start_closed q m = let k = down-atoms φ every m in (k.sub, k.proper, k.smallest)

  pub move_closed : (p : State) (s : ℕ) (q : State) → (formula_automaton φ).IsState p → Memᴰ q (atoms (move_of p.formula p.class s)) → (formula_automaton φ).IsState q
  move_closed p s q i m = go (move-atoms p.formula p.class s m)
    where
      go : Occurs p.formula p.class q → (formula_automaton φ).IsState q
      go (inl x) = subst (formula_automaton φ).IsState (sym x.0) i
      go (inr x) = (sub_trans x.0.sub i.0, x.0.proper, x.0.smallest)
