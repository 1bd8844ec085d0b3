-- What the parts of a step make: nothing any more, one entry more, an operator in its bracket, an operand that has ended.
use Prim.Native.Nat.{ℕ, zero, suc, ◌+◌, ◌*◌, ◌-◌, ◌/◌, ◌%◌, ◌≤◌, ◌<◌}
use native.Mathlib.Omega.{arith}
use mathlib.Core.Path.{◌≡◌, refl, sym, ap, ◌∙◌, subst}
use mathlib.Core.Bool.{Bool, true, false, ◌&&◌}
use mathlib.Core.List.{List, ◌∷◌}
use lib.ListN.{length, get_or, set}
use lib.Seq.{get_or-set_same, get_or-set_other}
use lib.Dec.{leb}
use borrow.Author.Tests.{eq-eqb, ne_eqb, le-leb, lt-leb, leb-true}
use Rattle.table.specs.Node.{kind, left, pack}
use Rattle.table.specs.Numbering.{put}
use Rattle.placing.specs.State.{State, written, Numbered}
use Rattle.signs.specs.declared.Sign.{Sign}
use Rattle.turns.specs.declared.Turn.TheVariants as turns
use Rattle.turns.specs.declared.Reader.{Reader}
use Rattle.settling.specs.declared.Operand.{Operand}
use Rattle.logic.specs.Formula.{Unary, Binary, next, neg, finally, globally, conj, disj, until, weak, release, strong, implies}
use Rattle.grammar.specs.Grammar.{Symbol, constant, letter, prefix, operator, open_bracket, close_bracket}
use Rattle.grammar.specs.Reader.{Mark, blank, begins, begins_letter, unknown, mark_of, is_digit}
use Rattle.signs.specs.Signed.{signed, Kinded}
use Rattle.settling.specs.Settled.{Ended, is_prefix, settle_words, top_first, Settles}
use Rattle.turns.specs.Numbers.{Words, words, stuck_words, ended_words, join_words, close_words, digit_words, letter_words, follow_ended, step_words, turn_words, Fit, Makes}
use Rattle.settling.proofs.Settling.{top_pop}

abbrev pub stuck_reader : ℕ → Reader
stuck_reader depth = record { left = 0; turn = turns.Stuck; depth = depth }

pub stuck-makes : {r : Reader} (stack : List ℕ) (s : State) (depth : ℕ) {y : Words} → Numbered s → r ≡ stuck_reader depth
    → y ≡ stuck_words (top_first stack depth) (written s) → Makes r stack s y
stuck-makes stack s depth {y} h e k = subst (λ (q : Reader). Makes q stack s y) (sym e) (record { numbered = h; fit = tt; same = sym k })

pub end_makes : (l : ℕ) {o : Operand} {stack : List ℕ} {s : State} {depth room : ℕ} {x : Ended} {y : Words} → Settles stack s depth room o x
    → y ≡ ended_words l x → Makes (record { left = l; turn = turns.Ended o.number; depth = o.depth }) stack s y
end_makes l h k = record { numbered = h.numbered; fit = h.small; same = ap (ended_words l) h.same ∙ sym k }

-- writes past the top do not show
top_set : (l : List ℕ) (d i v : ℕ) → d ≤ i → top_first (set l i v) d ≡ top_first l d
top_set l zero i v h = refl
top_set l (suc d) i v h =
    rw (get_or-set_other l i d v 0 (λ e. omega arith), top_set l d i v (omega arith))

-- one entry more
pub top_push : (l : List ℕ) (d v : ℕ) → d < length l → top_first (set l d v) (suc d) ≡ v ∷ top_first l d
top_push l d v h = rw (get_or-set_same l d v 0 h, top_set l d d v (omega arith))

pub push_makes : {r : Reader} (stack : List ℕ) {last : List ℕ} (s : State) (depth e : ℕ) {y : Words} → Numbered s
    → (r ≡ record { left = 0; turn = turns.Operand; depth = suc depth }) × (top_first last (suc depth) ≡ e ∷ top_first stack depth)
    → y ≡ words 0 turns.Operand (e ∷ top_first stack depth) (written s) → Makes r last s y
push_makes stack {last} s depth e {y} h p k =
    subst (λ (q : Reader). Makes q last s y) (sym p.0)
    (record { numbered = h; fit = tt; same = ap (λ (t : List ℕ). words 0 turns.Operand t (written s)) p.1 ∙ sym k })

-- an operator in its bracket
module _ (k l n : ℕ) (stack : List ℕ) (depth : ℕ) where
  pub join-empty : {r : Reader} → r ≡ stuck_reader depth → depth ≡ 0
      → ((t : List ℕ) → words r.left r.turn (top_first stack r.depth) t ≡ join_words k l n (top_first stack depth) t) × Fit r.turn
  unfolding join_words
  join-empty e z = rw (e, z) (λ t. refl, tt)

  pub join_other : {r : Reader} → r ≡ stuck_reader depth → 0 < depth → (get_or stack (depth - 1) 0 ≡ 0 → ⊥)
      → ((t : List ℕ) → words r.left r.turn (top_first stack r.depth) t ≡ join_words k l n (top_first stack depth) t) × Fit r.turn
  unfolding join_words
  join_other e h f = rw e (λ t. rw (top_pop stack depth h, ne_eqb _ 0 f), tt)

  pub join_made : 0 < depth → depth ≤ length stack → get_or stack (depth - 1) 0 ≡ 0
      → (t : List ℕ) → words l turns.Operand (top_first (set stack (depth - 1) (pack k n 0)) depth) t ≡ join_words k l n (top_first stack depth) t
  unfolding join_words
  join_made h g f t =
      let e = top_push stack (depth - 1) (pack k n 0) (omega arith) in
      let d : suc (depth - 1) ≡ depth = omega arith in
      ap (λ (x : List ℕ). words l turns.Operand x t) (ap (top_first (set stack (depth - 1) (pack k n 0))) (sym d) ∙ e)
      ∙ rw (top_pop stack depth h, eq-eqb _ 0 f)

-- a closing bracket
module _ (n : ℕ) (stack : List ℕ) (depth : ℕ) (t : List ℕ) where
  pub close-empty : depth ≡ 0 → close_words n (top_first stack depth) t ≡ stuck_words (top_first stack depth) t
  unfolding close_words
  close-empty z = rw z

  module _ (h : 0 < depth) where
    pub close-bracket_only : get_or stack (depth - 1) 0 ≡ 0 → close_words n (top_first stack depth) t ≡ stuck_words (top_first stack depth) t
    unfolding close_words
    close-bracket_only z = rw (top_pop stack depth h, eq-eqb _ 0 z)

    module _ (f : get_or stack (depth - 1) 0 ≡ 0 → ⊥) (k : ℕ) (e : k ≡ kind (get_or stack (depth - 1) 0)) where
      pub close-prefix : true ≡ is_prefix k → close_words n (top_first stack depth) t ≡ stuck_words (top_first stack depth) t
      unfolding close_words
      close-prefix p = rw (top_pop stack depth h, ne_eqb _ 0 f, ← e, ← p)

      pub close_made : false ≡ is_prefix k → (l w : ℕ) → l ≡ left (get_or stack (depth - 1) 0) → w ≡ pack k l n
          → close_words n (top_first stack depth) t ≡ ended_words 0 (settle_words (top_first stack (depth - 1)) (put t w))
      unfolding close_words
      close_made p l w g q = rw (top_pop stack depth h, ne_eqb _ 0 f, ← e, ← p, ← g, ← q)

-- a digit
digits-out : (m : ℕ) → (leb 1 m && leb m 32) ≡ false → (s t : List ℕ) → stuck_words s t ≡ digit_words m s t
unfolding digit_words
digits-out m e s t = rw e

pub digit-out : {r : Reader} (m depth : ℕ) → r ≡ stuck_reader depth → (leb 1 m && leb m 32) ≡ false
    → ((s t : List ℕ) → words r.left r.turn s t ≡ digit_words m s t) × Fit r.turn × (r.depth ≡ depth)
digit-out m depth e f = rw e (digits-out m f, tt, refl)

pub digit_in : (m : ℕ) → 1 ≤ m → m ≤ 32 → (s t : List ℕ) → words 0 (turns.Letter m) s t ≡ digit_words m s t
unfolding digit_words
digit_in m h k s t = rw (le-leb 1 m h, le-leb m 32 k)

-- every sign's kind is a kind
unary-kinded : (o : Unary) → Kinded (signed (begins (prefix o)))
unary-kinded next = omega arith
unary-kinded neg = omega arith
unary-kinded finally = omega arith
unary-kinded globally = omega arith

binary-kinded : (o : Binary) → Kinded (signed (begins (operator o)))
binary-kinded conj = omega arith
binary-kinded disj = omega arith
binary-kinded until = omega arith
binary-kinded weak = omega arith
binary-kinded release = omega arith
binary-kinded strong = omega arith
binary-kinded implies = omega arith

symbol-kinded : (x : Symbol) → Kinded (signed (begins x))
symbol-kinded (constant true) = omega arith
symbol-kinded (constant false) = omega arith
symbol-kinded (letter n) = tt
symbol-kinded (prefix o) = unary-kinded o
symbol-kinded (operator o) = binary-kinded o
symbol-kinded open_bracket = tt
symbol-kinded close_bracket = tt

signed-kinded : (m : Mark) → Kinded (signed m)
signed-kinded blank = tt
signed-kinded (begins x) = symbol-kinded x
signed-kinded begins_letter = tt
signed-kinded unknown = tt

pub zero-out : (m : ℕ) → m ≡ 0 → (leb 1 m && leb m 32) ≡ false
zero-out m e = rw (lt-leb 1 m (omega arith))

pub large-out : (m : ℕ) → 32 < m → (leb 1 m && leb m 32) ≡ false
large-out m h = rw (le-leb 1 m (omega arith), lt-leb m 32 h)

-- a byte after a letter's number
module _ (n b : ℕ) (s t : List ℕ) where
  pub letter-digit : true ≡ is_digit b → letter_words n b s t ≡ digit_words (10 * n + (b - 48)) s t
  unfolding letter_words
  letter-digit e = rw (← e)

  module _ (e : false ≡ is_digit b) where
    pub letter_none : n ≡ 0 → letter_words n b s t ≡ stuck_words s t
    unfolding letter_words
    letter_none z = rw (← e, eq-eqb n 0 z)

    pub letter-ended : (n ≡ 0 → ⊥) → (x : Sign) (w : ℕ) → x ≡ signed (mark_of b) → w ≡ pack 3 0 n → letter_words n b s t ≡ follow_ended x (settle_words s (put t w))
    unfolding letter_words
    letter-ended z x w f g = rw (← e, ne_eqb n 0 z, f, g)

pub digit_bounds : (b : ℕ) → true ≡ is_digit b → (48 ≤ b) × (b ≤ 57)
digit_bounds b e = go (leb 48 b) (leb b 57) refl refl e
  where
    go : (t u : Bool) → leb 48 b ≡ t → leb b 57 ≡ u → true ≡ (t && u) → (48 ≤ b) × (b ≤ 57)
    go true true p q e = (leb-true 48 b p, leb-true b 57 q)
    go true false p q e = absurd (let z : ◌≡◌ {A = ℕ} 0 1 = cc in omega arith)
    go false true p q e = absurd (let z : ◌≡◌ {A = ℕ} 0 1 = cc in omega arith)
    go false false p q e = absurd (let z : ◌≡◌ {A = ℕ} 0 1 = cc in omega arith)

-- a byte, by whether a symbol lacks bytes
module _ (y : Words) (b : ℕ) where
  pub step_turn : y.left ≡ 0 → step_words y b ≡ turn_words y.turn b y.stack y.table
  unfolding step_words
  step_turn e = rw (eq-eqb y.left 0 e)

  module _ (f : y.left ≡ 0 → ⊥) where
    pub step_inside : y.left % 256 ≡ b → step_words y b ≡ words (y.left / 256) y.turn y.stack y.table
    unfolding step_words
    step_inside e = rw (ne_eqb y.left 0 f, eq-eqb (y.left % 256) b e)

    pub step_other : (y.left % 256 ≡ b → ⊥) → step_words y b ≡ stuck_words y.stack y.table
    unfolding step_words
    step_other g = rw (ne_eqb y.left 0 f, ne_eqb (y.left % 256) b g)

pub sign-kinded : {x : Sign} (b : ℕ) → x ≡ signed (mark_of b) → Kinded x
sign-kinded b e = subst Kinded (sym e) (signed-kinded (mark_of b))
