-- A byte makes what is open and the words more by one at most.
use Prim.Native.Nat.{ℕ, suc, ◌+◌, ◌*◌, ◌/◌, ◌%◌, ◌-◌, ◌≤◌}
use native.Mathlib.Omega.{arith}
use mathlib.Core.Bool.{Bool, true, false, ◌&&◌, cond}
use mathlib.Core.List.{List, [], ◌∷◌}
use lib.ListN.{length}
use lib.Dec.{eqb, leb}
use Rattle.table.specs.Node.{kind, left, pack}
use Rattle.table.specs.Numbering.{Placed, put}
use Rattle.signs.specs.declared.Sign.{Sign}
use Rattle.signs.specs.declared.Sign.TheVariants.{Blank, Constant, Letter, Prefix, Operator, Open, Close, Unknown}
use Rattle.turns.specs.declared.Turn.{Turn}
use Rattle.turns.specs.declared.Turn.TheVariants as turns
use Rattle.grammar.specs.Reader.{mark_of, is_digit}
use Rattle.signs.specs.Signed.{signed}
use Rattle.settling.specs.Settled.{Ended, is_prefix, settle_words}
use Rattle.turns.specs.Numbers.{Words, words, stuck_words, ended_words, begin_words, join_words, close_words, follow_words, follow_ended, digit_words, letter_words, turn_words, step_words, size}
use Rattle.settling.proofs.Settling.{put-few}

-- of two, the larger
cond-size : (b : Bool) (x y : Words) (n : ℕ) → size x ≤ n → size y ≤ n → size (cond b x y) ≤ n
cond-size true x y n h k = h
cond-size false x y n h k = k

settle-size : (s : List ℕ) (p : Placed) → length (settle_words s p).stack + length (settle_words s p).placed.table ≤ length s + length p.table
unfolding settle_words
settle-size [] p = omega arith
settle-size (e ∷ s) p = go (is_prefix (kind e)) (settle-size s (put p.table (pack (kind e) 0 p.number)))
  where
    next : Ended
    next = settle_words s (put p.table (pack (kind e) 0 p.number))

    go : (b : Bool) → length next.stack + length next.placed.table ≤ length s + length (put p.table (pack (kind e) 0 p.number)).table
        → length (cond b next (record { stack = e ∷ s; placed = p })).stack + length (cond b next (record { stack = e ∷ s; placed = p })).placed.table ≤ suc (length s) + length p.table
    go true h = omega (arith, put-few p.table (pack (kind e) 0 p.number))
    go false h = omega arith

pub put-size : (s t : List ℕ) (w : ℕ) → length (settle_words s (put t w)).stack + length (settle_words s (put t w)).placed.table ≤ suc (length s + length t)
put-size s t w = omega (arith, settle-size s (put t w), put-few t w)

begin-size : (x : Sign) (s t : List ℕ) → size (begin_words x s t) ≤ suc (length s + length t)
unfolding begin_words
begin-size Blank s t = omega arith
begin-size (Constant k l) s t = put-size s t (pack k 0 0)
begin-size Letter s t = omega arith
begin-size (Prefix k) s t = omega arith
begin-size (Operator k l) s t = omega arith
begin-size Open s t = omega arith
begin-size Close s t = omega arith
begin-size Unknown s t = omega arith

join-size : (k l n : ℕ) (s t : List ℕ) → size (join_words k l n s t) ≤ length s + length t
unfolding join_words
join-size k l n [] t = omega arith
join-size k l n (e ∷ s) t = cond-size (eqb e 0) (words l turns.Operand (pack k n 0 ∷ s) t) (stuck_words (e ∷ s) t) _ (omega arith) (omega arith)

close-size : (n : ℕ) (s t : List ℕ) → size (close_words n s t) ≤ length s + length t
unfolding close_words
close-size n [] t = omega arith
close-size n (e ∷ s) t =
    cond-size (eqb e 0) (stuck_words (e ∷ s) t) (cond (is_prefix (kind e)) (stuck_words (e ∷ s) t) (ended_words 0 (settle_words s (put t (pack (kind e) (left e) n))))) _ (omega arith)
    (cond-size (is_prefix (kind e)) (stuck_words (e ∷ s) t) (ended_words 0 (settle_words s (put t (pack (kind e) (left e) n)))) _ (omega arith) (omega (arith, put-size s t (pack (kind e) (left e) n))))

follow_size : (x : Sign) (n : ℕ) (s t : List ℕ) → size (follow_words x n s t) ≤ length s + length t
unfolding follow_words
follow_size Blank n s t = omega arith
follow_size (Constant k l) n s t = omega arith
follow_size Letter n s t = omega arith
follow_size (Prefix k) n s t = omega arith
follow_size (Operator k l) n s t = join-size k l n s t
follow_size Open n s t = omega arith
follow_size Close n s t = close-size n s t
follow_size Unknown n s t = omega arith

digit-size : (m : ℕ) (s t : List ℕ) → size (digit_words m s t) ≤ length s + length t
unfolding digit_words
digit-size m s t = cond-size (leb 1 m && leb m 32) (words 0 (turns.Letter m) s t) (stuck_words s t) _ (omega arith) (omega arith)

letter-size : (n b : ℕ) (s t : List ℕ) → size (letter_words n b s t) ≤ suc (length s + length t)
unfolding letter_words
letter-size n b s t =
    let e = settle_words s (put t (pack 3 0 n)) in
    let x = signed (mark_of b) in
    cond-size (is_digit b) (digit_words (10 * n + (b - 48)) s t) (cond (eqb n 0) (stuck_words s t) (follow_ended x e)) _ (omega (arith, digit-size (10 * n + (b - 48)) s t))
    (cond-size (eqb n 0) (stuck_words s t) (follow_ended x e) _ (omega arith) (omega (arith, put-size s t (pack 3 0 n), follow_size x e.placed.number e.stack e.placed.table)))

turn-size : (u : Turn) (b : ℕ) (s t : List ℕ) → size (turn_words u b s t) ≤ suc (length s + length t)
turn-size turns.Operand b s t = begin-size (signed (mark_of b)) s t
turn-size (turns.Letter n) b s t = letter-size n b s t
turn-size (turns.Ended n) b s t = omega (arith, follow_size (signed (mark_of b)) n s t)
turn-size turns.Stuck b s t = omega arith

pub step_size : (y : Words) (b : ℕ) → size (step_words y b) ≤ suc (size y)
unfolding step_words
step_size y b =
    let s = y.stack in
    let t = y.table in
    let u = turn_words y.turn b s t in
    let v = cond (eqb (y.left % 256) b) (words (y.left / 256) y.turn s t) (stuck_words s t) in
    cond-size (eqb y.left 0) u v _ (turn-size y.turn b s t)
    (cond-size (eqb (y.left % 256) b) (words (y.left / 256) y.turn s t) (stuck_words s t) _ (omega arith) (omega arith))
