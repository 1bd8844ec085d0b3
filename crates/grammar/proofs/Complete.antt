-- The reader reads every rule of the grammar, as its formula.
use Prim.Native.Nat.{ℕ, zero, suc, ◌+◌, ◌*◌, ◌/◌, ◌%◌, ◌-◌, ◌≤◌, ◌<◌}
use native.Mathlib.Omega.{arith}
use native.Mathlib.Nat.{not-suc-le-zero}
use mathlib.Core.Path.{◌≡◌, refl, sym, ap, ◌∙◌}
use mathlib.Core.Bool.{Bool, true, false, cond}
use mathlib.Core.List.{List, [], ◌∷◌, ◌++◌}
use mathlib.Core.Option.{none, some}
use lib.Dec.{eqb, ltb}
use borrow.Author.Tests.{le-leb, leb-true, leb-false}
use Rattle.logic.specs.Formula.{Formula, next, neg, finally, globally, conj, disj, until, weak, release, strong, implies}
use Rattle.grammar.specs.Grammar.{Symbol, constant, letter, prefix, operator, open_bracket, close_bracket, decimal, spelling, Spelled, nothing, space, symbol, Rule, constant_rule, letter_rule, prefixed, bracketed, Reads}
use Rattle.grammar.specs.Reader.{Open, waiting, bracket, joined, Config, operand, ended, stuck, settle, shift, Mark, blank, begins, begins_letter, unknown, mark_of, State, inside, lettered, dead, alive, of_letter, begin, step, run, accepted, final, reading_of}

-- symbol by symbol
abbrev pub shifts : Config → List Symbol → Config
shifts c [] = c
shifts c (x ∷ xs) = shifts (shift c x) xs

pub shifts-append : (c : Config) (xs ys : List Symbol) → shifts c (xs ++ ys) ≡ shifts (shifts c xs) ys
shifts-append c [] ys = refl
shifts-append c (x ∷ xs) ys = shifts-append (shift c x) xs ys

-- the symbols of a rule are read as one operand
pub rule-shifts : {xs : List Symbol} {φ : Formula} → Rule xs φ → (s : List Open) → shifts (operand s) xs ≡ settle φ s
unfolding settle
rule-shifts (constant_rule b) s = refl
rule-shifts (letter_rule n h k) s = refl
rule-shifts (prefixed o r) s = rule-shifts r (waiting o ∷ s)
rule-shifts (bracketed o {ss = xs} {ts = ys} {a = a} {b = b} r q) s =
    shifts-append (operand (bracket ∷ s)) xs (operator o ∷ ys ++ (close_bracket ∷ []))
    ∙ ap (λ (c : Config). shifts c (operator o ∷ ys ++ (close_bracket ∷ []))) (rule-shifts r (bracket ∷ s))
    ∙ shifts-append (operand (joined o a ∷ s)) ys (close_bracket ∷ [])
    ∙ ap (λ (c : Config). shifts c (close_bracket ∷ [])) (rule-shifts q (joined o a ∷ s))

-- every letter of a rule is 1 to 32
abbrev pub Proper : List Symbol → Type 0
Proper [] = Unit {0}
Proper (constant b ∷ xs) = Proper xs
Proper (letter n ∷ xs) = (0 < n) × (n ≤ 32) × Proper xs
Proper (prefix o ∷ xs) = Proper xs
Proper (operator o ∷ xs) = Proper xs
Proper (open_bracket ∷ xs) = Proper xs
Proper (close_bracket ∷ xs) = Proper xs

pub proper-append : (xs ys : List Symbol) → Proper xs → Proper ys → Proper (xs ++ ys)
proper-append [] ys p q = q
proper-append (constant b ∷ xs) ys p q = proper-append xs ys p q
proper-append (letter n ∷ xs) ys p q = (p.0, p.1, proper-append xs ys p.2 q)
proper-append (prefix o ∷ xs) ys p q = proper-append xs ys p q
proper-append (operator o ∷ xs) ys p q = proper-append xs ys p q
proper-append (open_bracket ∷ xs) ys p q = proper-append xs ys p q
proper-append (close_bracket ∷ xs) ys p q = proper-append xs ys p q

pub rule-proper : {xs : List Symbol} {φ : Formula} → Rule xs φ → Proper xs
rule-proper (constant_rule b) = tt
rule-proper (letter_rule n h k) = (h, k, tt)
rule-proper (prefixed o r) = rule-proper r
rule-proper (bracketed o {ss = xs} {ts = ys} r q) =
    proper-append xs (operator o ∷ ys ++ (close_bracket ∷ [])) (rule-proper r) (proper-append ys (close_bracket ∷ []) (rule-proper q) tt)

-- where no rule can come of it any more, none comes
dead-begin : (m : Mark) → alive (begin stuck m) ≡ false
dead-begin blank = refl
dead-begin (begins x) = refl
dead-begin begins_letter = refl
dead-begin unknown = refl

dead-cond : (b : Bool) (xs : List ℕ) → alive (cond b (inside xs stuck) dead) ≡ false
dead-cond true xs = refl
dead-cond false xs = refl

pub dead_step : (x : State) (b : ℕ) → alive x ≡ false → alive (step x b) ≡ false
unfolding step
dead_step (inside [] (operand s)) b e = cc
dead_step (inside [] (ended φ s)) b e = cc
dead_step (inside [] stuck) b e = dead-begin (mark_of b)
dead_step (inside (x ∷ xs) (operand s)) b e = cc
dead_step (inside (x ∷ xs) (ended φ s)) b e = cc
dead_step (inside (x ∷ xs) stuck) b e = dead-cond (eqb b x) xs
dead_step (lettered n s) b e = cc

pub dead-run : (x : State) (bs : List ℕ) → alive x ≡ false → alive (run x bs) ≡ false
unfolding run
dead-run x [] e = e
dead-run x (b ∷ bs) e = dead-run (step x b) bs (dead_step x b e)

pub dead-final : (x : State) → alive x ≡ false → final x ≡ none
dead-final (inside [] (operand s)) e = cc
dead-final (inside [] (ended φ s)) e = cc
dead-final (inside [] stuck) e = refl
dead-final (inside (x ∷ xs) c) e = refl
dead-final (lettered n s) e = cc

pub dead_none : (x : State) (bs : List ℕ) → alive x ≡ false → final (run x bs) ≡ none
dead_none x bs e = dead-final (run x bs) (dead-run x bs e)

pub stuck-shifts : (xs : List Symbol) → shifts stuck xs ≡ stuck
stuck-shifts [] = refl
stuck-shifts (x ∷ xs) = stuck-shifts xs

-- a digit goes on with a letter's number, and the bytes of a letter are read as its number
digit_step : (n d : ℕ) (s : List Open) → d ≤ 9 → 1 ≤ 10 * n + d → 10 * n + d ≤ 32 → step (lettered n s) (48 + d) ≡ lettered (10 * n + d) s
unfolding step
digit_step n d s h k l =
    let e : 48 + d - 48 ≡ d = omega arith in
    rw (le-leb 48 (48 + d) (omega arith), le-leb (48 + d) 57 (omega arith), e, le-leb 1 (10 * n + d) k, le-leb (10 * n + d) 32 l)

letter-read : (n : ℕ) → 0 < n → n ≤ 32 → (s : List Open) (bs : List ℕ) → run (inside [] (operand s)) (spelling (letter n) ++ bs) ≡ run (lettered n s) bs
unfolding run step mark_of
letter-read n h k s bs = by_size (ltb n 10) refl
  where
    by_size : (b : Bool) → ltb n 10 ≡ b → run (lettered 0 s) (cond b ((48 + n) ∷ []) ((48 + n / 10) ∷ (48 + n % 10) ∷ []) ++ bs) ≡ run (lettered n s) bs
    by_size true e =
        ap (λ (x : State). run x bs)
        (digit_step 0 n s (omega (arith, leb-true (suc n) 10 e)) (omega arith) (omega arith) ∙ ap (λ (m : ℕ). lettered m s) (omega arith))
    by_size false e =
        let l = leb-false (suc n) 10 e in
        ap (λ (x : State). run (step x (48 + n % 10)) bs)
        (digit_step 0 (n / 10) s (omega arith) (omega arith) (omega arith))
        ∙ ap (λ (x : State). run x bs)
        (digit_step (10 * 0 + n / 10) (n % 10) s (omega arith) (omega arith) (omega arith) ∙ ap (λ (m : ℕ). lettered m s) (omega arith))

-- what follows a letter's number ends it
after_letter : {xs : List Symbol} {bs : List ℕ} → Spelled xs bs → (n : ℕ) (s : List Open) → final (run (lettered n s) bs) ≡ final (run (inside [] (of_letter n s)) bs)
unfolding run step
after_letter nothing n s = refl
after_letter (space r) n s = refl
after_letter (symbol (constant true) r) n s = refl
after_letter (symbol (constant false) r) n s = refl
after_letter (symbol (letter m) r) n s = refl
after_letter (symbol (prefix next) r) n s = refl
after_letter (symbol (prefix neg) r) n s = refl
after_letter (symbol (prefix finally) r) n s = refl
after_letter (symbol (prefix globally) r) n s = refl
after_letter (symbol (operator conj) r) n s = refl
after_letter (symbol (operator disj) r) n s = refl
after_letter (symbol (operator until) r) n s = refl
after_letter (symbol (operator weak) r) n s = refl
after_letter (symbol (operator release) r) n s = refl
after_letter (symbol (operator strong) r) n s = refl
after_letter (symbol (operator implies) r) n s = refl
after_letter (symbol open_bracket r) n s = refl
after_letter (symbol close_bracket r) n s = refl

letter-final : {xs : List Symbol} {bs : List ℕ} → Spelled xs bs → (n : ℕ) → 0 < n → n ≤ 32 → (c : Config)
    → final (run (inside [] c) (spelling (letter n) ++ bs)) ≡ final (run (inside [] (shift c (letter n))) bs)
unfolding run step mark_of
letter-final {bs = bs} r zero h k c = absurd (not-suc-le-zero h)
letter-final {bs = bs} r (suc n) h k (operand s) = ap final (letter-read (suc n) h k s bs) ∙ after_letter r (suc n) s
letter-final {bs = bs} r (suc n) h k (ended φ s) = dead_none dead (decimal (suc n) ++ bs) refl ∙ sym (dead_none dead bs refl)
letter-final {bs = bs} r (suc n) h k stuck = dead_none dead (decimal (suc n) ++ bs) refl ∙ sym (dead_none dead bs refl)

-- the bytes of symbols are read as those symbols
spelled-run : {xs : List Symbol} {bs : List ℕ} → Spelled xs bs → Proper xs → (c : Config) → final (run (inside [] c) bs) ≡ accepted (shifts c xs)
unfolding run step mark_of
spelled-run nothing p c = refl
spelled-run (space r) p c = spelled-run r p c
spelled-run (symbol (constant true) r) p c = spelled-run r p (shift c (constant true))
spelled-run (symbol (constant false) r) p c = spelled-run r p (shift c (constant false))
spelled-run (symbol (letter n) r) p c = letter-final r n p.0 p.1 c ∙ spelled-run r p.2 (shift c (letter n))
spelled-run (symbol (prefix next) r) p c = spelled-run r p (shift c (prefix next))
spelled-run (symbol (prefix neg) r) p c = spelled-run r p (shift c (prefix neg))
spelled-run (symbol (prefix finally) r) p c = spelled-run r p (shift c (prefix finally))
spelled-run (symbol (prefix globally) r) p c = spelled-run r p (shift c (prefix globally))
spelled-run (symbol (operator conj) r) p c = spelled-run r p (shift c (operator conj))
spelled-run (symbol (operator disj) r) p c = spelled-run r p (shift c (operator disj))
spelled-run (symbol (operator until) r) p c = spelled-run r p (shift c (operator until))
spelled-run (symbol (operator weak) r) p c = spelled-run r p (shift c (operator weak))
spelled-run (symbol (operator release) r) p c = spelled-run r p (shift c (operator release))
spelled-run (symbol (operator strong) r) p c = spelled-run r p (shift c (operator strong))
spelled-run (symbol (operator implies) r) p c = spelled-run r p (shift c (operator implies))
spelled-run (symbol open_bracket r) p c = spelled-run r p (shift c open_bracket)
spelled-run (symbol close_bracket r) p c = spelled-run r p (shift c close_bracket)

pub complete : {text : List ℕ} {φ : Formula} → Reads text φ → reading_of text ≡ some φ
unfolding reading_of settle
complete r = spelled-run r.spelled (rule-proper r.rule) (operand []) ∙ ap accepted (rule-shifts r.rule [])

-- every text of the grammar has one reading
pub one_reading : {text : List ℕ} {φ ψ : Formula} → Reads text φ → Reads text ψ → φ ≡ ψ
one_reading {φ = φ} {ψ = ψ} r q = let a = complete r in let b = complete q in cc
