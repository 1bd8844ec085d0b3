-- The letters of a table's states are those of its rule, and a move that is written looks at no other bits of a sample.
use Prim.Native.Nat.{ℕ, zero, suc, ◌≤◌, ◌<◌}
use native.Mathlib.Omega.{arith}
use native.Mathlib.Decide.{dec_lt}
use mathlib.Core.Path.{◌≡◌, refl, sym, ap, subst}
use mathlib.Core.Bool.{true}
use mathlib.Core.List.{List}
use lib.ListN.{length, get_or, get_or-eq_default}
use Rattle.logic.specs.Lasso.{letter_in}
use Rattle.logic.specs.Letters.{Letters}
use Rattle.transforms.proofs.Letters.{letters-sub}
use Rattle.table.specs.Table.{formulas, rule}
use Rattle.table.specs.Numbering.{table_of}
use Rattle.table.proofs.Accepted.{WellFormed}
use Rattle.normal_laws.proofs.Subformulas.{inside}
use Rattle.automata.specs.Positive.{Positive, renamed}
use Rattle.automata_laws.specs.FormulaAutomaton.{State}
use Rattle.automata_laws.proofs.Letters.{move_same}
use Rattle.automata_tables.specs.States.{states, number_of, no_state, state_at}
use Rattle.automata_tables.specs.Moves.{move_at, written_at, as_formula, move_table}
use Rattle.automata_tables.proofs.Numbers.{at_mem}
use Rattle.automata_tables.proofs.States.{states_mem}

module _ (P : ℕ → Type 0) {limit : ℕ} {t : List ℕ} (small : limit ≤ 16383) (formed : WellFormed true limit t) (letters : Letters P (rule t)) where
  -- what is so of every letter of the rule is so of every state's
  state-letters : (n : ℕ) → Letters P (state_at (states t) n).formula
  unfolding states state_at
  state-letters zero = tt
  state-letters (suc i) = go (dec_lt i (length (states t)))
    where
      go : Dec (i < length (states t)) → Letters P (get_or (states t) i no_state).formula
      go (yes h) = letters-sub P (inside small formed _ (states_mem (formulas t) (at_mem (states t) no_state i h)).0) letters
      go (no f) = subst (λ (q : State). Letters P q.formula) (sym (get_or-eq_default (states t) no_state (omega (arith, f)))) tt

  -- samples that have the same bits of those letters
  module _ (v w : ℕ) (e : (n : ℕ) → P n → letter_in v n ≡ letter_in w n) where
    pub written_same : (n : ℕ) → written_at t n v ≡ written_at t n w
    unfolding move_at
    written_same zero = refl
    written_same (suc i) =
        let q : State = state_at (states t) (suc i) in
        ap (renamed (number_of t)) (move_same P v w e q.formula (state-letters (suc i)) q.class)

    pub table_same : (n : ℕ) → move_table t n v ≡ move_table t n w
    unfolding move_table
    table_same n = ap (λ (θ : Positive ℕ). table_of (as_formula θ)) (written_same n)
