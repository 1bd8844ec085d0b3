-- The reader goes on exactly while the bytes could still be continued to a rule; where it stops is where a text departs from the grammar.
use Prim.Native.Nat.{ℕ, zero, suc, ◌+◌, ◌*◌, ◌-◌, ◌≤◌, ◌<◌}
use native.Mathlib.Omega.{arith}
use mathlib.Core.Path.{◌≡◌, refl, sym, ap, ◌∙◌}
use mathlib.Core.Logic.{◌↔◌, ⊎_elim}
use mathlib.Core.Bool.{Bool, true, false, ◌&&◌, cond, true≢false}
use mathlib.Core.List.{List, [], ◌∷◌, ◌++◌}
use mathlib.Core.Option.{none, some}
use lib.ListN.{length, take}
use lib.Dec.{eqb, leb}
use borrow.Author.Tests.{eq-eqb}
use Rattle.logic.specs.Formula.{Formula, Binary, const, lit, un, bin, conj}
use Rattle.logic.proofs.Numbers.{lt_or_le}
use Rattle.grammar.specs.Grammar.{Symbol, constant, letter, prefix, operator, open_bracket, close_bracket, Viable, Departs}
use Rattle.grammar.specs.Reader.{Open, waiting, bracket, joined, Config, operand, ended, stuck, settle, join, close, shift, Mark, blank, begins, begins_letter, unknown, mark_of, State, inside, lettered, dead, going, alive, of_letter, begin_letter, begin, is_digit, grown, step, run, start, final, reading_of, departure_from, departure_of}
use Rattle.grammar.proofs.Complete.{complete, dead_none}
use Rattle.grammar.proofs.Sound.{sound}

pub run-append : (x : State) (bs cs : List ℕ) → run x (bs ++ cs) ≡ run (run x bs) cs
unfolding run
run-append x [] cs = refl
run-append x (b ∷ bs) cs = run-append (step x b) bs cs

-- a prefix never stands on top where an operand has ended
abbrev Settled : Config → Type 0
Settled (operand s) = Unit {0}
Settled (ended φ []) = Unit {0}
Settled (ended φ (waiting o ∷ s)) = ⊥
Settled (ended φ (bracket ∷ s)) = Unit {0}
Settled (ended φ (joined o a ∷ s)) = Unit {0}
Settled stuck = Unit {0}

settle-settled : (φ : Formula) (s : List Open) → Settled (settle φ s)
unfolding settle
settle-settled φ [] = tt
settle-settled φ (waiting o ∷ s) = settle-settled (un o φ) s
settle-settled φ (bracket ∷ s) = tt
settle-settled φ (joined o a ∷ s) = tt

join-settled : (o : Binary) (φ : Formula) (s : List Open) → Settled (join o φ s)
join-settled o φ [] = tt
join-settled o φ (waiting u ∷ s) = tt
join-settled o φ (bracket ∷ s) = tt
join-settled o φ (joined u a ∷ s) = tt

close-settled : (φ : Formula) (s : List Open) → Settled (close φ s)
close-settled φ [] = tt
close-settled φ (waiting u ∷ s) = tt
close-settled φ (bracket ∷ s) = tt
close-settled φ (joined o a ∷ s) = settle-settled (bin o a φ) s

shift-settled : (c : Config) (x : Symbol) → Settled (shift c x)
shift-settled (operand s) (constant b) = settle-settled (const b) s
shift-settled (operand s) (letter n) = settle-settled (lit true n) s
shift-settled (operand s) (prefix o) = tt
shift-settled (operand s) (operator o) = tt
shift-settled (operand s) open_bracket = tt
shift-settled (operand s) close_bracket = tt
shift-settled (ended φ s) (constant b) = tt
shift-settled (ended φ s) (letter n) = tt
shift-settled (ended φ s) (prefix o) = tt
shift-settled (ended φ s) (operator o) = join-settled o φ s
shift-settled (ended φ s) open_bracket = tt
shift-settled (ended φ s) close_bracket = close-settled φ s
shift-settled stuck x = tt

abbrev Steady : State → Type 0
Steady (inside left c) = Settled c
Steady (lettered n s) = Unit {0}

begin_letter-steady : (c : Config) → Steady (begin_letter c)
begin_letter-steady (operand s) = tt
begin_letter-steady (ended φ s) = tt
begin_letter-steady stuck = tt

begin-steady : (c : Config) (m : Mark) → Settled c → Steady (begin c m)
begin-steady c blank h = h
begin-steady c (begins x) h = shift-settled c x
begin-steady c begins_letter h = begin_letter-steady c
begin-steady c unknown h = tt

letter-settled : (n : ℕ) (s : List Open) → Settled (of_letter n s)
letter-settled zero s = tt
letter-settled (suc n) s = settle-settled (lit true (suc n)) s

cond-steady : (b : Bool) (x y : State) → Steady x → Steady y → Steady (cond b x y)
cond-steady true x y h k = h
cond-steady false x y h k = k

step_steady : (x : State) (b : ℕ) → Steady x → Steady (step x b)
unfolding step
step_steady (inside [] c) b h = begin-steady c (mark_of b) h
step_steady (inside (y ∷ ys) c) b h = cond-steady (eqb b y) (inside ys c) dead h tt
step_steady (lettered n s) b h =
    let m = 10 * n + (b - 48) in
    cond-steady (is_digit b) (grown m s) _ (cond-steady (leb 1 m && leb m 32) (lettered m s) dead tt tt) (begin-steady (of_letter n s) (mark_of b) (letter-settled n s))

run-steady : (x : State) (bs : List ℕ) → Steady x → Steady (run x bs)
unfolding run
run-steady x [] h = h
run-steady x (b ∷ bs) h = run-steady (step x b) bs (step_steady x b h)

-- bytes that end whatever is open: & true ) or ) for a bracket
closing : List Open → List ℕ
closing [] = []
closing (waiting o ∷ s) = closing s
closing (bracket ∷ s) = 38 ∷ 116 ∷ 114 ∷ 117 ∷ 101 ∷ 41 ∷ closing s
closing (joined o a ∷ s) = 41 ∷ closing s

record Completed (x : State) (bs : List ℕ) : Type 0 where
  formula : Formula
  read : final (run x bs) ≡ some formula

settle_completed : (φ : Formula) (s : List Open) → Completed (inside [] (settle φ s)) (closing s)
unfolding settle closing run step mark_of
settle_completed φ [] = record { formula = φ; read = refl }
settle_completed φ (waiting o ∷ s) = settle_completed (un o φ) s
settle_completed φ (bracket ∷ s) = let h = settle_completed (bin conj φ (const true)) s in record { formula = h.formula; read = h.read }
settle_completed φ (joined o a ∷ s) = let h = settle_completed (bin o a φ) s in record { formula = h.formula; read = h.read }

config_completed : (c : Config) → Settled c → going c ≡ true → (bs : List ℕ) × Completed (inside [] c) bs
unfolding settle run step mark_of
config_completed (operand s) h e = (116 ∷ 114 ∷ 117 ∷ 101 ∷ closing s, let h = settle_completed (const true) s in record { formula = h.formula; read = h.read })
config_completed (ended φ []) h e = (closing [], settle_completed φ [])
config_completed (ended φ (waiting o ∷ s)) h e = absurd h
config_completed (ended φ (bracket ∷ s)) h e = (closing (bracket ∷ s), settle_completed φ (bracket ∷ s))
config_completed (ended φ (joined o a ∷ s)) h e = (closing (joined o a ∷ s), settle_completed φ (joined o a ∷ s))
config_completed stuck h e = absurd (true≢false (sym e))

left_completed : (left : List ℕ) (c : Config) (bs : List ℕ) → Completed (inside [] c) bs → Completed (inside left c) (left ++ bs)
unfolding run step
left_completed [] c bs h = h
left_completed (y ∷ ys) c bs h = let k = left_completed ys c bs h in record { formula = k.formula; read = ap (λ (t : Bool). final (run (cond t (inside ys c) dead) (ys ++ bs))) (eq-eqb y y refl) ∙ k.read }

state_completed : (x : State) → Steady x → alive x ≡ true → (bs : List ℕ) × Completed x bs
unfolding run step mark_of
state_completed (inside left c) h e = let k = config_completed c h e in (left ++ k.0, left_completed left c k.0 k.1)
state_completed (lettered zero s) h e = (49 ∷ 32 ∷ closing s, let k = settle_completed (lit true 1) s in record { formula = k.formula; read = k.read })
state_completed (lettered (suc n) s) h e = (32 ∷ closing s, let k = settle_completed (lit true (suc n)) s in record { formula = k.formula; read = k.read })

-- the reader goes on exactly where the bytes are viable
alive-viable : (bytes : List ℕ) → alive (run start bytes) ≡ true → Viable bytes
unfolding reading_of
alive-viable bytes e =
    let k = state_completed (run start bytes) (run-steady start bytes tt) e in
    record { continuation = k.0; formula = k.1.formula; reads = sound (bytes ++ k.0) k.1.formula (ap final (run-append start bytes k.0) ∙ k.1.read) }

dead_unviable : (bytes : List ℕ) → alive (run start bytes) ≡ false → Viable bytes → ⊥
unfolding reading_of
dead_unviable bytes e v =
    let r = complete v.reads in
    let n = ap final (run-append start bytes v.continuation) ∙ dead_none (run start bytes) v.continuation e in
    let z : ◌≡◌ {A = ℕ} 0 1 = cc in
    omega arith

pub viable : (bytes : List ℕ) → Viable bytes ↔ (alive (run start bytes) ≡ true)
viable bytes = (λ v. by_life (alive (run start bytes)) refl v, alive-viable bytes)
  where
    by_life : (b : Bool) → alive (run start bytes) ≡ b → Viable bytes → b ≡ true
    by_life true e v = refl
    by_life false e v = absurd (dead_unviable bytes e v)

-- the reader stops k bytes on from x
record Stops (x : State) (bs : List ℕ) (k : ℕ) : Type 0 where
  before : (m : ℕ) → m < k → alive (run x (take m bs)) ≡ true
  here : k ≤ length bs → alive (run x (take k bs)) ≡ false
  within : k ≤ suc (length bs)

stops : (n : ℕ) (x : State) (bs : List ℕ) → alive x ≡ true → (k : ℕ) × Stops x bs k × (departure_from n x bs ≡ n + k)
unfolding run departure_from
stops n x [] e = (1, record { before = λ m h. first m h; here = λ h. absurd (omega arith); within = omega arith }, omega arith)
  where
    first : (m : ℕ) → m < 1 → alive (run x (take m [])) ≡ true
    first zero h = e
    first (suc m) h = absurd (omega arith)
stops n x (b ∷ bs) e = by_life (alive (step x b)) refl (λ h. stops (suc n) (step x b) bs h)
  where
    by_life : (t : Bool) → alive (step x b) ≡ t → (alive (step x b) ≡ true → (k : ℕ) × Stops (step x b) bs k × (departure_from (suc n) (step x b) bs ≡ suc n + k))
        → (k : ℕ) × Stops x (b ∷ bs) k × (cond t (departure_from (suc n) (step x b) bs) (suc n) ≡ n + k)
    by_life true h ih = let q = ih h in (suc q.0, record { before = later q.0 q.1; here = λ l. q.1.here (omega arith); within = omega (arith, q.1.within) }, omega (arith, q.2))
      where
        later : (k : ℕ) → Stops (step x b) bs k → (m : ℕ) → m < suc k → alive (run x (take m (b ∷ bs))) ≡ true
        later k s zero l = e
        later k s (suc m) l = s.before m (omega arith)
    by_life false h ih = (1, record { before = λ m l. first m l; here = λ l. h; within = omega arith }, omega arith)
      where
        first : (m : ℕ) → m < 1 → alive (run x (take m (b ∷ bs))) ≡ true
        first zero l = e
        first (suc m) l = absurd (omega arith)

-- a text that is not read departs from the grammar where the reader stops
pub departs : (text : List ℕ) → reading_of text ≡ none → Departs text (departure_of text)
unfolding departure_of
departs text e =
    let s = stops 0 start text refl in
    let d : departure_of text ≡ s.0 = omega (arith, s.2) in
    rw d
    (record {
      no_rule = λ φ r. let c = complete r in let z : ◌≡◌ {A = ℕ} 0 1 = cc in omega arith;
      before = λ m h. (viable (take m text)).1 (s.1.before m (omega arith));
      here = λ h v. true≢false (sym ((viable (take s.0 text)).0 v) ∙ s.1.here h);
      within = omega (arith, s.1.within);
    })

-- and at no other place
apart : {text : List ℕ} {n m : ℕ} → Departs text n → Departs text m → n < m → ⊥
apart {n = n} d f h = d.here (omega (arith, f.within)) (f.before n h)

pub departs-once : {text : List ℕ} {n m : ℕ} → Departs text n → Departs text m → n ≡ m
departs-once {text} {n} {m} d f = ⊎_elim (λ h. absurd (apart d f h)) (λ h. ⊎_elim (λ k. absurd (apart f d k)) (λ k. omega arith) (lt_or_le m n)) (lt_or_le n m)
