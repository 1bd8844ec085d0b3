-- The slot that stands for the start, or for a state's move.
use Prim.Native.Nat.{ℕ, zero, suc, ◌+◌, ◌*◌, ◌≤◌, ◌<◌}
use native.Mathlib.Omega.{arith}
use mathlib.Core.Path.{◌≡◌, sym, ap, ◌∙◌, subst}
use mathlib.Core.Bool.{Bool, true, false, cond}
use mathlib.Core.List.{List}
use lib.ListN.{length}
use lib.Dec.{T, eqb}
use Rattle.logic.specs.Formula.{Formula}
use Rattle.logic.specs.Letters.{Letters}
use Rattle.std.specs.Prelude.{Ok}
use Rattle.table.specs.Checks.{checked}
use Rattle.table.specs.Table.{formulas, rule}
use Rattle.table.proofs.Accepted.{accepted-well-formed}
use Rattle.table.specs.Numbering.{table_of}
use Rattle.drafts.specs.Drafted.{Drafted}
use Rattle.drafts.proofs.Growth.{drafted-length}
use Rattle.automata.specs.Positive.{Positive, constant, atom, and, or}
use Rattle.automata_laws.specs.StateClass.{StateClass, sigma₁, pi₁, sigma₂, pi₂, class_bit, every, is_smallest}
use Rattle.automata_laws.specs.FormulaAutomaton.{State, is_proper, combination, move_of}
use Rattle.automata_tables.specs.States.{state_words, states_from, states, state_at, no_state}
use Rattle.automata_tables.specs.Moves.{as_formula, start_of, move_at, written_at}
use Rattle.automata_tables.proofs.Numbers.{at_mem}
use Rattle.automata_tables.proofs.States.{words-length, states_mem, classes_mem}
use Rattle.state_classes.specs.Kept.{word_of, Kept}
use Rattle.word_states.specs.States.{shown}
use Rattle.word_states.proofs.Smallest.{number_small}
use Rattle.move_draft.specs.Filling as moves
use Rattle.move_draft.proofs.Forms.{state-move}
use Rattle.start_draft.specs.Filling as starts
use Rattle.move_roots.specs.Roots.{Named, root_of}

-- the letters of what is written are numbers of states
shown_small : {t bytes starts : List ℕ} → Kept t bytes starts → (θ : Positive State) → Letters (λ p. p < 16384) (shown t θ)
shown_small k (constant b) = tt
shown_small k (atom q) = number_small k q
shown_small k (and a b) = (shown_small k a, shown_small k b)
shown_small k (or a b) = (shown_small k a, shown_small k b)

pub written_small : {t bytes starts : List ℕ} → Kept t bytes starts → (n v : ℕ) → Letters (λ p. p < 16384) (as_formula (written_at t n v))
unfolding start_of move_at
written_small {t} k zero v = shown_small k (combination every (rule t))
written_small {t} k (suc n) v = shown_small k (let q : State = state_at (states t) (suc n) in move_of q.formula q.class v)

-- the start
pub start_drafted : (t d : List ℕ) (v : ℕ) → checked true 16383 t ≡ Ok tt → starts.Filled t d (length t) → Drafted d (as_formula (written_at t 0 v)) (3 * length t + 2)
unfolding start_of rule
start_drafted t d v ok f = f.word (length t) (accepted-well-formed true 16383 t ok).some (omega arith)

-- a state is that of a proper formula, with one of its smallest classes
is_state : (t : List ℕ) (n : ℕ) (q : State) → 0 < n → n ≤ length (state_words t) → state_at (states t) n ≡ q → T (is_proper q.formula) × T (is_smallest q.formula q.class)
unfolding state_at states state_words
is_state t zero q p h e = absurd (omega arith)
is_state t (suc i) q p h e =
    let l : i < length (states_from (formulas t)) = omega (arith, words-length 1 (formulas t)) in
    let m = subst (λ (q : State). T (is_proper q.formula) × T (is_smallest q.formula q.class)) e in
    m (classes_mem _ _ (states_mem (formulas t) (at_mem (states_from (formulas t)) no_state i l)).1)

-- what is written of it is its word moved by its class
move-form : (t : List ℕ) (v n w bit : ℕ) → 0 < n → (q : Named t n w bit) → as_formula (written_at t n v) ≡ moves.move_by v t q.class w
unfolding move_at
move-form t v zero w bit p q = absurd (omega arith)
move-form t v (suc i) w bit p q =
    let s = is_state t (suc i) (record { formula = word_of t w; class = q.class }) p q.among q.state in
    let moved : shown t (move_of (word_of t w) q.class v) ≡ moves.move_by v t q.class w = ap (shown t) (sym (state-move v t (word_of t w) q.class s.0 s.1)) in
    ap (λ (q : State). shown t (move_of q.formula q.class v)) q.state ∙ moved

-- the slot of a word moved by a class
class-drafted : (t d : List ℕ) (v w : ℕ) (Γ : StateClass) → 0 < w → w ≤ length t → moves.Filled v (eqb (class_bit Γ) 5) t d (length t)
    → Drafted d (moves.move_by v t Γ w) (root_of w (class_bit Γ))
class-drafted t d v w sigma₁ p h f = subst (Drafted d (moves.move_by v t sigma₁ w)) (omega arith) ((f.word w p h).moved 0 (omega arith))
class-drafted t d v w pi₁ p h f = subst (Drafted d (moves.move_by v t pi₁ w)) (omega arith) ((f.word w p h).moved 1 (omega arith))
class-drafted t d v w sigma₂ p h f = subst (Drafted d (moves.move_by v t sigma₂ w)) (omega arith) ((f.word w p h).moved 2 (omega arith))
class-drafted t d v w pi₂ p h f = subst (Drafted d (moves.move_by v t pi₂ w)) (omega arith) ((f.word w p h).moved 2 (omega arith))

pub root_within : (w bit : ℕ) → root_of w bit < 7 * w + 7
root_within w bit = go (eqb bit 1) (eqb bit 2)
  where
    go : (a b : Bool) → 7 * w + (4 + cond a 0 (cond b 1 2)) < 7 * w + 7
    go true b = omega arith
    go false true = omega arith
    go false false = omega arith

pub move-drafted : (t d : List ℕ) (v n w bit : ℕ) → 0 < n → (q : Named t n w bit) → moves.Filled v (eqb bit 5) t d (length t) → Drafted d (as_formula (written_at t n v)) (root_of w bit)
move-drafted t d v n w bit p q f =
    rw (move-form t v n w bit p q, q.is_bit)
    (class-drafted t d v w q.class q.positive q.inside (subst (λ (b : ℕ). moves.Filled v (eqb b 5) t d (length t)) q.is_bit f))

-- a table has no more words than there are slots up to its own
pub drafted-short : (d e : List ℕ) (φ : Formula) {r k : ℕ} → length d ≤ 1048576 → length e ≡ length d → Drafted e φ r → r < k → length (table_of φ) ≤ k
drafted-short d e φ {r} few same q h = let l : length (table_of φ) ≤ suc r = drafted-length e (omega arith) φ r q in omega arith
