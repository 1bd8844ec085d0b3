-- The reader as the code has it: formulas are numbers of words in a table, and what is open is a stack of words, innermost first.
use Rattle.std.specs.Prelude.{ℕ, ◌+◌, ◌*◌, ◌/◌, ◌%◌, ◌-◌, ◌≤◌, Bool, true, false, ◌&&◌, cond, ◌≡◌, List, [], ◌∷◌, length, eqb, leb}
use Rattle.table.specs.Node.{kind, left, pack}
use Rattle.table.specs.Numbering.{put}
use Rattle.placing.specs.State as draft
use Rattle.signs.specs.declared.Sign.{Sign}
use Rattle.signs.specs.declared.Sign.TheVariants.{Blank, Constant, Letter, Prefix, Operator, Open, Close, Unknown}
use Rattle.turns.specs.declared.Turn.{Turn}
use Rattle.turns.specs.declared.Turn.TheVariants as turns
use Rattle.turns.specs.declared.Reader.{Reader}
use Rattle.signs.specs.Signed.{signed}
use Rattle.settling.specs.Settled.{is_prefix, Ended, settle_words, top_first}
use Rattle.grammar.specs.Reader.{mark_of, is_digit}

-- the bytes that are left of a symbol, what may come next, what is open, and the words so far
pub record Words : Type 0 where
  pub left : ℕ
  pub turn : Turn
  pub stack : List ℕ
  pub table : List ℕ

abbrev pub words : ℕ → Turn → List ℕ → List ℕ → Words
words l n s t = record { left = l; turn = n; stack = s; table = t }

abbrev pub stuck_words : List ℕ → List ℕ → Words
stuck_words s t = words 0 turns.Stuck s t

abbrev pub ended_words : ℕ → Ended → Words
ended_words l e = words l (turns.Ended e.placed.number) e.stack e.placed.table

unfoldable pub begin_words : Sign → List ℕ → List ℕ → Words
begin_words Blank s t = words 0 turns.Operand s t
begin_words (Constant k l) s t = ended_words l (settle_words s (put t (pack k 0 0)))
begin_words Letter s t = words 0 (turns.Letter 0) s t
begin_words (Prefix k) s t = words 0 turns.Operand (pack k 0 0 ∷ s) t
begin_words (Operator k l) s t = stuck_words s t
begin_words Open s t = words 0 turns.Operand (0 ∷ s) t
begin_words Close s t = stuck_words s t
begin_words Unknown s t = stuck_words s t

unfoldable pub join_words : ℕ → ℕ → ℕ → List ℕ → List ℕ → Words
join_words k l n [] t = stuck_words [] t
join_words k l n (e ∷ s) t = cond (eqb e 0) (words l turns.Operand (pack k n 0 ∷ s) t) (stuck_words (e ∷ s) t)

unfoldable pub close_words : ℕ → List ℕ → List ℕ → Words
close_words n [] t = stuck_words [] t
close_words n (e ∷ s) t =
    cond (eqb e 0) (stuck_words (e ∷ s) t)
    (cond (is_prefix (kind e)) (stuck_words (e ∷ s) t) (ended_words 0 (settle_words s (put t (pack (kind e) (left e) n)))))

unfoldable pub follow_words : Sign → ℕ → List ℕ → List ℕ → Words
follow_words Blank n s t = words 0 (turns.Ended n) s t
follow_words (Constant k l) n s t = stuck_words s t
follow_words Letter n s t = stuck_words s t
follow_words (Prefix k) n s t = stuck_words s t
follow_words (Operator k l) n s t = join_words k l n s t
follow_words Open n s t = stuck_words s t
follow_words Close n s t = close_words n s t
follow_words Unknown n s t = stuck_words s t

abbrev pub follow_ended : Sign → Ended → Words
follow_ended x e = follow_words x e.placed.number e.stack e.placed.table

unfoldable pub digit_words : ℕ → List ℕ → List ℕ → Words
digit_words m s t = cond (leb 1 m && leb m 32) (words 0 (turns.Letter m) s t) (stuck_words s t)

unfoldable pub letter_words : ℕ → ℕ → List ℕ → List ℕ → Words
letter_words n b s t =
    cond (is_digit b) (digit_words (10 * n + (b - 48)) s t)
    (cond (eqb n 0) (stuck_words s t) (follow_ended (signed (mark_of b)) (settle_words s (put t (pack 3 0 n)))))

abbrev pub turn_words : Turn → ℕ → List ℕ → List ℕ → Words
turn_words turns.Operand b s t = begin_words (signed (mark_of b)) s t
turn_words (turns.Letter n) b s t = letter_words n b s t
turn_words (turns.Ended n) b s t = follow_words (signed (mark_of b)) n s t
turn_words turns.Stuck b s t = stuck_words s t

-- one byte
unfoldable pub step_words : Words → ℕ → Words
step_words y b =
    cond (eqb y.left 0) (turn_words y.turn b y.stack y.table)
    (cond (eqb (y.left % 256) b) (words (y.left / 256) y.turn y.stack y.table) (stuck_words y.stack y.table))

-- what the code holds
abbrev pub viewed : Reader → List ℕ → draft.State → Words
viewed r stack s = words r.left r.turn (top_first stack r.depth) (draft.written s)

-- numbers that fit their fields
abbrev pub Fit : Turn → Type 0
Fit turns.Operand = Unit {0}
Fit (turns.Letter n) = n ≤ 32
Fit (turns.Ended n) = n ≤ 1025
Fit turns.Stuck = Unit {0}

-- what a step is to make, and keeps
pub record Makes (r : Reader) (stack : List ℕ) (s : draft.State) (y : Words) : Type 0 where
  pub numbered : draft.Numbered s
  pub fit : Fit r.turn
  pub same : viewed r stack s ≡ y

-- what is open and the words, which a byte makes more by one at most
abbrev pub size : Words → ℕ
size y = length y.stack + length y.table

abbrev pub is_stuck : Turn → Bool
is_stuck turns.Operand = false
is_stuck (turns.Letter n) = false
is_stuck (turns.Ended n) = false
is_stuck turns.Stuck = true

abbrev pub is_ended : Turn → Bool
is_ended turns.Operand = false
is_ended (turns.Letter n) = false
is_ended (turns.Ended n) = true
is_ended turns.Stuck = false
