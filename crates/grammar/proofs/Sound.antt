-- What the reader accepts is a rule, of that formula.
use Prim.Native.Nat.{ℕ, zero, suc, ◌+◌, ◌*◌, ◌/◌, ◌%◌, ◌-◌, ◌≤◌, ◌<◌, zero-le}
use native.Mathlib.Omega.{arith}
use mathlib.Core.Path.{◌≡◌, refl, sym, ap, ap₂, ◌∙◌, subst}
use mathlib.Core.Bool.{Bool, true, false, ◌&&◌, cond}
use mathlib.Core.List.{List, [], ◌∷◌, ◌++◌, append_assoc, append-nil}
use mathlib.Core.Option.{some}
use lib.Dec.{eqb, leb, eqb→eq}
use lib.Seq.{append_snoc}
use borrow.Author.Tests.{leb-true, lt-ltb, le-ltb}
use Rattle.logic.specs.Formula.{Formula, Unary, Binary, next, neg, finally, globally, conj, disj, until, weak, release, strong, implies}
use Rattle.grammar.specs.Grammar.{Symbol, constant, letter, prefix, operator, open_bracket, close_bracket, decimal, spelling, Spelled, nothing, space, symbol, Rule, constant_rule, letter_rule, prefixed, bracketed, Reads}
use Rattle.grammar.specs.Reader.{Open, waiting, bracket, joined, Config, operand, ended, stuck, settle, join, close, shift, Mark, blank, begins, begins_letter, unknown, signs, first_byte, other_bytes, sign_of, mark_of, State, inside, lettered, dead, of_letter, begin_letter, begin, grown, step, run, start, accepted, final, reading_of}
use Rattle.grammar.proofs.Complete.{shifts, Proper, proper-append, stuck-shifts}

-- the symbols that led to what is open
data Opened : List Open → List Symbol → Type 0 where
  none_open : Opened [] []
  prefix_open : {o : Unary} {s : List Open} {xs : List Symbol} → Opened s xs → Opened (waiting o ∷ s) (xs ++ (prefix o ∷ []))
  bracket_open : {s : List Open} {xs : List Symbol} → Opened s xs → Opened (bracket ∷ s) (xs ++ (open_bracket ∷ []))
  joined_open : {o : Binary} {a : Formula} {s : List Open} {xs ys : List Symbol} → Opened s xs → Rule ys a
      → Opened (joined o a ∷ s) (xs ++ (open_bracket ∷ ys ++ (operator o ∷ [])))

-- the symbols that led to where the reader is between two symbols
Led : Config → List Symbol → Type 0
Led (operand s) xs = Opened s xs
Led (ended φ s) xs = (ys : List Symbol) × (zs : List Symbol) × Opened s ys × Rule zs φ × (xs ≡ ys ++ zs)
Led stuck xs = Unit {0}

led_settle : (s : List Open) {φ : Formula} (xs ys zs : List Symbol) → Opened s ys → Rule zs φ → xs ≡ ys ++ zs → Led (settle φ s) xs
unfolding Led settle
led_settle [] xs ys zs h r e = (ys, zs, h, r, e)
led_settle (waiting o ∷ s) xs ys zs (prefix_open {xs = ws} h) r e = led_settle s xs ws (prefix o ∷ zs) h (prefixed o r) (e ∙ append_assoc ws (prefix o ∷ []) zs)
led_settle (bracket ∷ s) xs ys zs h r e = (ys, zs, h, r, e)
led_settle (joined o a ∷ s) xs ys zs h r e = (ys, zs, h, r, e)

led_join : (o : Binary) (s : List Open) {φ : Formula} (xs ys zs : List Symbol) → Opened s ys → Rule zs φ → xs ≡ ys ++ zs → Led (join o φ s) (xs ++ (operator o ∷ []))
unfolding Led
led_join o [] xs ys zs h r e = tt
led_join o (waiting u ∷ s) xs ys zs h r e = tt
led_join o (bracket ∷ s) {φ} xs ys zs (bracket_open {xs = ws} h) r e =
    subst (λ (l : List Symbol). Opened (joined o φ ∷ s) l) (sym (ap (λ (l : List Symbol). l ++ (operator o ∷ [])) e ∙ simp append_assoc)) (joined_open h r)
led_join o (joined u a ∷ s) xs ys zs h r e = tt

led_close : (s : List Open) {φ : Formula} (xs ys zs : List Symbol) → Opened s ys → Rule zs φ → xs ≡ ys ++ zs → Led (close φ s) (xs ++ (close_bracket ∷ []))
unfolding Led
led_close [] xs ys zs h r e = tt
led_close (waiting u ∷ s) xs ys zs h r e = tt
led_close (bracket ∷ s) xs ys zs h r e = tt
led_close (joined o a ∷ s) xs ys zs (joined_open {xs = ws} {ys = vs} h q) r e =
    led_settle s _ ws (open_bracket ∷ vs ++ (operator o ∷ zs ++ (close_bracket ∷ []))) h (bracketed o q r)
    (ap (λ (l : List Symbol). l ++ (close_bracket ∷ [])) e ∙ simp append_assoc)

led_shift : (c : Config) (xs : List Symbol) (x : Symbol) → Proper (x ∷ []) → Led c xs → Led (shift c x) (xs ++ (x ∷ []))
unfolding Led
led_shift (operand s) xs (constant b) p h = led_settle s _ xs (constant b ∷ []) h (constant_rule b) refl
led_shift (operand s) xs (letter n) p h = led_settle s _ xs (letter n ∷ []) h (letter_rule n p.0 p.1) refl
led_shift (operand s) xs (prefix o) p h = prefix_open h
led_shift (operand s) xs (operator o) p h = tt
led_shift (operand s) xs open_bracket p h = bracket_open h
led_shift (operand s) xs close_bracket p h = tt
led_shift (ended φ s) xs (constant b) p h = tt
led_shift (ended φ s) xs (letter n) p h = tt
led_shift (ended φ s) xs (prefix o) p h = tt
led_shift (ended φ s) xs (operator o) p h = led_join o s xs h.0 h.1 h.2 h.3 h.4
led_shift (ended φ s) xs open_bracket p h = tt
led_shift (ended φ s) xs close_bracket p h = led_close s xs h.0 h.1 h.2 h.3 h.4
led_shift stuck xs x p h = tt

proper-split : (x : Symbol) (xs : List Symbol) → Proper (x ∷ xs) → Proper (x ∷ []) × Proper xs
proper-split (constant b) xs p = (tt, p)
proper-split (letter n) xs p = ((p.0, p.1, tt), p.2)
proper-split (prefix o) xs p = (tt, p)
proper-split (operator o) xs p = (tt, p)
proper-split open_bracket xs p = (tt, p)
proper-split close_bracket xs p = (tt, p)

led_shifts : (c : Config) (xs ys : List Symbol) → Proper ys → Led c xs → Led (shifts c ys) (xs ++ ys)
led_shifts c xs [] p h = rw append-nil h
led_shifts c xs (y ∷ ys) p h =
    let q = proper-split y ys p in
    rw (← append_snoc xs y ys) (led_shifts (shift c y) (xs ++ (y ∷ [])) ys q.1 (led_shift c xs y q.0 h))

accepted_led : (c : Config) (xs : List Symbol) {φ : Formula} → accepted c ≡ some φ → Led c xs → Rule xs φ
unfolding Led
accepted_led (operand s) xs e h = absurd (let z : ◌≡◌ {A = ℕ} 0 1 = cc in omega arith)
accepted_led (ended ψ []) xs {φ} e h = led_whole h.0 h.1 h.2 h.3 h.4 (cc)
  where
    led_whole : (ys zs : List Symbol) → Opened [] ys → Rule zs ψ → xs ≡ ys ++ zs → ψ ≡ φ → Rule xs φ
    led_whole ys zs none_open r e p = rw (e, ← p) r
accepted_led (ended ψ (x ∷ s)) xs e h = absurd (let z : ◌≡◌ {A = ℕ} 0 1 = cc in omega arith)
accepted_led stuck xs e h = absurd (let z : ◌≡◌ {A = ℕ} 0 1 = cc in omega arith)

-- symbols that the reader accepts are a rule
shifts-rule : (xs : List Symbol) {φ : Formula} → Proper xs → accepted (shifts (operand []) xs) ≡ some φ → Rule xs φ
unfolding Led
shifts-rule xs p e = accepted_led (shifts (operand []) xs) xs e (led_shifts (operand []) [] xs p none_open)

-- no letter among symbols
abbrev pub NoLetter : List Symbol → Type 0
NoLetter [] = Unit {0}
NoLetter (constant b ∷ xs) = NoLetter xs
NoLetter (letter n ∷ xs) = ⊥
NoLetter (prefix o ∷ xs) = NoLetter xs
NoLetter (operator o ∷ xs) = NoLetter xs
NoLetter (open_bracket ∷ xs) = NoLetter xs
NoLetter (close_bracket ∷ xs) = NoLetter xs

no_letter-split : (x : Symbol) (xs : List Symbol) → NoLetter (x ∷ xs) → NoLetter (x ∷ []) × NoLetter xs
no_letter-split (constant b) xs p = (tt, p)
no_letter-split (letter n) xs p = absurd p
no_letter-split (prefix o) xs p = (tt, p)
no_letter-split (operator o) xs p = (tt, p)
no_letter-split open_bracket xs p = (tt, p)
no_letter-split close_bracket xs p = (tt, p)

sign-proper : (x : Symbol) → NoLetter (x ∷ []) → Proper (x ∷ [])
sign-proper (constant b) p = tt
sign-proper (letter n) p = absurd p
sign-proper (prefix o) p = tt
sign-proper (operator o) p = tt
sign-proper open_bracket p = tt
sign-proper close_bracket p = tt

-- what a byte is, told by its mark
abbrev pub Known : ℕ → Mark → Type 0
Known b blank = b ≡ 32
Known b (begins x) = (b ≡ first_byte x) × NoLetter (x ∷ [])
Known b begins_letter = b ≡ 112
Known b unknown = Unit {0}

sign-known : (b : ℕ) (xs : List Symbol) → NoLetter xs → Known b (sign_of xs b)
sign-known b [] p = tt
sign-known b (x ∷ xs) p = let q = no_letter-split x xs p in by_first (eqb b (first_byte x)) refl q.0 (sign-known b xs q.1)
  where
    by_first : (t : Bool) → eqb b (first_byte x) ≡ t → NoLetter (x ∷ []) → Known b (sign_of xs b) → Known b (cond t (begins x) (sign_of xs b))
    by_first true e p k = (eqb→eq b (first_byte x) (rw e tt), p)
    by_first false e p k = k

pub mark_known : (b : ℕ) → Known b (mark_of b)
unfolding mark_of
mark_known b = by_space (eqb b 32) refl
  where
    by_letter : (t : Bool) → eqb b 112 ≡ t → Known b (cond t begins_letter (sign_of signs b))
    by_letter true e = eqb→eq b 112 (rw e tt)
    by_letter false e = sign-known b signs tt

    by_space : (t : Bool) → eqb b 32 ≡ t → Known b (cond t blank (cond (eqb b 112) begins_letter (sign_of signs b)))
    by_space true e = eqb→eq b 32 (rw e tt)
    by_space false e = by_letter (eqb b 112) refl

spelled_first : (x : Symbol) → spelling x ≡ first_byte x ∷ other_bytes x
spelled_first (constant true) = refl
spelled_first (constant false) = refl
spelled_first (letter n) = refl
spelled_first (prefix next) = refl
spelled_first (prefix neg) = refl
spelled_first (prefix finally) = refl
spelled_first (prefix globally) = refl
spelled_first (operator conj) = refl
spelled_first (operator disj) = refl
spelled_first (operator until) = refl
spelled_first (operator weak) = refl
spelled_first (operator release) = refl
spelled_first (operator strong) = refl
spelled_first (operator implies) = refl
spelled_first open_bracket = refl
spelled_first close_bracket = refl

-- digits that make of the number n the number m
data Digits : ℕ → List ℕ → ℕ → Type 0 where
  no_digit : {n : ℕ} → Digits n [] n
  digit : {n m : ℕ} {ds : List ℕ} (d : ℕ) → d ≤ 9 → 1 ≤ 10 * n + d → 10 * n + d ≤ 32 → Digits (10 * n + d) ds m → Digits n ((48 + d) ∷ ds) m

digits_decimal : {ds : List ℕ} {m : ℕ} → Digits 0 ds m → 0 < m → ds ≡ decimal m
digits_decimal no_digit h = absurd (omega arith)
digits_decimal (digit d a b k no_digit) h =
    let e : 10 * 0 + d ≡ d = omega arith in
    rw (e, lt-ltb d 10 (omega arith))
digits_decimal (digit d a b k (digit e a' b' k' no_digit)) h =
    let q : (10 * (10 * 0 + d) + e) / 10 ≡ d = omega arith in
    let r : (10 * (10 * 0 + d) + e) % 10 ≡ e = omega arith in
    rw (le-ltb (10 * (10 * 0 + d) + e) 10 (omega arith), q, r)
digits_decimal (digit d a b k (digit e a' b' k' (digit f a'' b'' k'' r))) h = absurd (omega arith)

-- where a text that goes on with bs is accepted: the bytes bs end the symbol that is being spelled, and spell others, which the reader accepts
record Spells (c : Config) (bs : List ℕ) (φ : Formula) : Type 0 where
  symbols : List Symbol
  spelled : Spelled symbols bs
  proper : Proper symbols
  leads : accepted (shifts c symbols) ≡ some φ

record Numbers (n : ℕ) (s : List Open) (bs : List ℕ) (φ : Formula) : Type 0 where
  whole : ℕ
  digits : List ℕ
  rest : List ℕ
  number : Digits n digits whole
  positive : 0 < whole
  small : whole ≤ 32
  split : bs ≡ digits ++ rest
  spells : Spells (shift (operand s) (letter whole)) rest φ

abbrev Continues : State → List ℕ → Formula → Type 0
Continues (inside left c) bs φ = (rest : List ℕ) × (bs ≡ left ++ rest) × Spells c rest φ
Continues (lettered n s) bs φ = n ≤ 32 → Numbers n s bs φ

module _ (bs : List ℕ) (φ : Formula) where
  no_dead : Spells stuck bs φ → ⊥
  no_dead h = let e = ap accepted (stuck-shifts h.symbols) in let z : ◌≡◌ {A = ℕ} 0 1 = cc in omega arith

  -- a letter that ends here
  letter_whole : (n : ℕ) (s : List Open) → Spells (of_letter n s) bs φ → n ≤ 32 → Numbers n s bs φ
  letter_whole zero s h k = absurd (no_dead h)
  letter_whole (suc n) s h k = record { whole = suc n; digits = []; rest = bs; number = no_digit; positive = omega arith; small = k; split = refl; spells = h }

module _ (b : ℕ) (bs : List ℕ) (φ : Formula) where
  never : {A : Type 0} → Continues dead bs φ → A
  never h = absurd (no_dead h.0 φ h.2)

  letter-spells : (s : List Open) → b ≡ 112 → Numbers 0 s bs φ → Spells (operand s) (b ∷ bs) φ
  letter-spells s e n = record {
    symbols = letter n.whole ∷ n.spells.symbols;
    spelled = rw (e, n.split, digits_decimal n.number n.positive) (symbol (letter n.whole) n.spells.spelled);
    proper = (n.positive, n.small, n.spells.proper);
    leads = n.spells.leads;
  }

  begin_letter-spells : (c : Config) → b ≡ 112 → Continues (begin_letter c) bs φ → Spells c (b ∷ bs) φ
  begin_letter-spells (operand s) e h = letter-spells s e (h zero-le)
  begin_letter-spells (ended ψ s) e h = never h
  begin_letter-spells stuck e h = never h

  begin-spells : (c : Config) (m : Mark) → Known b m → Continues (begin c m) bs φ → Spells c (b ∷ bs) φ
  begin-spells c blank k h =
      record { symbols = h.2.symbols; spelled = rw (k, h.1) (space h.2.spelled); proper = h.2.proper; leads = h.2.leads }
  begin-spells c (begins x) k h =
      record {
        symbols = x ∷ h.2.symbols;
        spelled = rw (k.0, h.1) (rw (spelled_first x) at (symbol x h.2.spelled));
        proper = proper-append (x ∷ []) h.2.symbols (sign-proper x k.1) h.2.proper;
        leads = h.2.leads;
      }
  begin-spells c begins_letter k h = begin_letter-spells c k h
  begin-spells c unknown k h = never h

  -- one byte back
  continues-inside : (y : ℕ) (ys : List ℕ) (c : Config) (t : Bool) → eqb b y ≡ t → Continues (cond t (inside ys c) dead) bs φ → Continues (inside (y ∷ ys) c) (b ∷ bs) φ
  continues-inside y ys c true e h = (h.0, ap₂ (λ (x : ℕ) (xs : List ℕ). x ∷ xs) (eqb→eq b y (rw e tt)) h.1, h.2)
  continues-inside y ys c false e h = never h

  continues-digit : (n : ℕ) (s : List Open) → 48 ≤ b → b ≤ 57 → (t u : Bool) → leb 1 (10 * n + (b - 48)) ≡ t → leb (10 * n + (b - 48)) 32 ≡ u
      → Continues (cond (t && u) (lettered (10 * n + (b - 48)) s) dead) bs φ → n ≤ 32 → Numbers n s (b ∷ bs) φ
  continues-digit n s f l true true e g h k =
      let m = h (leb-true _ 32 g) in
      let same : b ≡ 48 + (b - 48) = omega arith in
      record {
        whole = m.whole;
        digits = (48 + (b - 48)) ∷ m.digits;
        rest = m.rest;
        number = digit (b - 48) (omega arith) (leb-true 1 _ e) (leb-true _ 32 g) m.number;
        positive = m.positive;
        small = m.small;
        split = ap₂ (λ (x : ℕ) (xs : List ℕ). x ∷ xs) same m.split;
        spells = m.spells;
      }
  continues-digit n s f l true false e g h k = never h
  continues-digit n s f l false true e g h k = never h
  continues-digit n s f l false false e g h k = never h

  continues-lettered : (n : ℕ) (s : List Open) (t u : Bool) → leb 48 b ≡ t → leb b 57 ≡ u
      → Continues (cond (t && u) (grown (10 * n + (b - 48)) s) (begin (of_letter n s) (mark_of b))) bs φ → n ≤ 32 → Numbers n s (b ∷ bs) φ
  continues-lettered n s true true e g h k = continues-digit n s (leb-true 48 b e) (leb-true b 57 g) _ _ refl refl h k
  continues-lettered n s true false e g h k = letter_whole (b ∷ bs) φ n s (begin-spells (of_letter n s) (mark_of b) (mark_known b) h) k
  continues-lettered n s false true e g h k = letter_whole (b ∷ bs) φ n s (begin-spells (of_letter n s) (mark_of b) (mark_known b) h) k
  continues-lettered n s false false e g h k = letter_whole (b ∷ bs) φ n s (begin-spells (of_letter n s) (mark_of b) (mark_known b) h) k

  continues_step : (x : State) → Continues (step x b) bs φ → Continues x (b ∷ bs) φ
  unfolding step
  continues_step (inside [] c) h = (b ∷ bs, refl, begin-spells c (mark_of b) (mark_known b) h)
  continues_step (inside (y ∷ ys) c) h = continues-inside y ys c (eqb b y) refl h
  continues_step (lettered n s) h = continues-lettered n s (leb 48 b) (leb b 57) refl refl h

continues : (bs : List ℕ) (x : State) (φ : Formula) → final (run x bs) ≡ some φ → Continues x bs φ
unfolding run
continues [] (inside [] c) φ e = ([], refl, record { symbols = []; spelled = nothing; proper = tt; leads = e })
continues [] (inside (y ∷ ys) c) φ e = absurd (let z : ◌≡◌ {A = ℕ} 0 1 = cc in omega arith)
continues [] (lettered n s) φ e = λ k. letter_whole [] φ n s (record { symbols = []; spelled = nothing; proper = tt; leads = e }) k
continues (b ∷ bs) x φ e = continues_step b bs φ x (continues bs (step x b) φ e)

pub sound : (text : List ℕ) (φ : Formula) → reading_of text ≡ some φ → Reads text φ
unfolding reading_of
sound text φ e =
    let h = continues text start φ e in
    record { symbols = h.2.symbols; spelled = subst (λ (l : List ℕ). Spelled h.2.symbols l) (sym h.1) h.2.spelled; rule = shifts-rule h.2.symbols h.2.proper h.2.leads }
