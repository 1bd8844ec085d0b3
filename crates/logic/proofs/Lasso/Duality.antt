-- The negation normal form: `plain true φ` holds where φ does, `plain false φ` where φ does not, and both are plain.
-- U is dual to R, and W to M, by one law: to deny a sweep is to sweep for the denials.
use Prim.Native.Nat.{ℕ, zero, suc}
use mathlib.Core.Path.{◌≡◌, refl, sym, ap, ap₂, ◌∙◌, fun_ext, subst}
use mathlib.Core.Bool.{Bool, true, false, not, ◌&&◌, ◌||◌, beq, not-not}
use mathlib.Core.Logic.Iff
use mathlib.Core.Logic.{◌↔◌}
use lib.Dec.{T}
use Rattle.logic.specs.Formula.{Formula, Binary, const, lit, un, bin, next, neg, finally, globally, conj, disj, until, weak, release, strong, implies}
use Rattle.logic.specs.Lasso.{Lasso, letter_in, word}
use Rattle.logic.specs.Semantics.{Holds}
use Rattle.logic.specs.NegationNormalForm.{dual, signed, plain, plain_binary, is_plain}
use Rattle.logic.specs.Truth.{Sequence, sweep, across, applied, binary_operation, truth}
use Rattle.logic.proofs.Tests.{T_and, →-iff}
use Rattle.logic.proofs.Lasso.Period.{size}
use Rattle.logic.proofs.Lasso.Truth.{truth-holds}

-- a sequence denied at every position
abbrev pub denied : Sequence → Sequence
denied f i = not (f i)

-- a sequence as wanted, or as denied
abbrev pub sign : Bool → Sequence → Sequence
sign true f = f
sign false f = denied f

denied-denied : (f : Sequence) → denied (denied f) ≡ f
denied-denied f = fun_ext (λ i. not-not (f i))

-- a sweep denied: its goal is now where neither holds, and it goes on while the old goal does not hold
pub sweep-dual : (f g : Sequence) (c : Bool) (i n : ℕ) → not (sweep g f c i n) ≡ sweep (across ◌&&◌ (denied f) (denied g)) (denied g) (not c) i n
unfolding sweep
sweep-dual f g c i zero = refl
sweep-dual f g c i (suc n) =
    step (f i) (g i) (sweep g f c (suc i) n)
    ∙ ap (λ x. (not (f i) && not (g i)) || (not (g i) && x)) (sweep-dual f g c (suc i) n)
  where
    step : (a b x : Bool) → not (b || (a && x)) ≡ ((not a && not b) || (not b && not x))
    step true true x = refl
    step false true x = refl
    step true false x = refl
    step false false x = refl

-- the same law read from the denials
pub dual-sweep : (f g : Sequence) (c : Bool) (i n : ℕ) → sweep (denied g) (denied f) (not c) i n ≡ not (sweep (across ◌&&◌ f g) g c i n)
dual-sweep f g c i n =
    let e : not (sweep (denied g) (denied f) (not c) i n) ≡ sweep (across ◌&&◌ f g) g c i n
    = rw (denied-denied f, denied-denied g, not-not c) at (sweep-dual (denied f) (denied g) (not c) i n) in
    sym (not-not (sweep (denied g) (denied f) (not c) i n)) ∙ ap not e

and_dual : (a b : Bool) → (not a && not b) ≡ not (a || b)
and_dual true b = refl
and_dual false b = refl

or_dual : (a b : Bool) → (not a || not b) ≡ not (a && b)
or_dual true b = refl
or_dual false b = refl

-- the dual of a plain operator, of denied operands, denies it
binary-dual : (L : ℕ) (o : Binary) → T (plain_binary o) → (f g : Sequence) (i : ℕ) → applied L (binary_operation (dual o)) (denied f) (denied g) i ≡ not (applied L (binary_operation o) f g i)
binary-dual L conj t f g i = or_dual (f i) (g i)
binary-dual L disj t f g i = and_dual (f i) (g i)
binary-dual L until t f g i = sym (sweep-dual f g false i L)
binary-dual L weak t f g i = sym (sweep-dual f g true i L)
binary-dual L release t f g i = dual-sweep f g true i L
binary-dual L strong t f g i = dual-sweep f g false i L
binary-dual L implies t f g i = absurd t

binary-signed : (L : ℕ) (p : Bool) (o : Binary) → T (plain_binary o) → (f g : Sequence) → applied L (binary_operation (signed p o)) (sign p f) (sign p g) ≡ sign p (applied L (binary_operation o) f g)
binary-signed L true o t f g = refl
binary-signed L false o t f g = fun_ext (binary-dual L o t f g)

sign_not : (p : Bool) (f : Sequence) → sign (not p) f ≡ sign p (denied f)
sign_not true f = refl
sign_not false f = sym (denied-denied f)

sign_next : (p : Bool) (f : Sequence) → (λ (i : ℕ). sign p f (suc i)) ≡ sign p (λ i. f (suc i))
sign_next true f = refl
sign_next false f = refl

sign-const : (p b : Bool) → (λ (i : ℕ). beq p b) ≡ sign p (λ i. b)
sign-const true true = refl
sign-const true false = refl
sign-const false true = refl
sign-const false false = refl

sign-true : (p : Bool) → (λ (i : ℕ). p) ≡ sign p (λ i. true)
sign-true true = refl
sign-true false = refl

sign-false : (p : Bool) → (λ (i : ℕ). not p) ≡ sign p (λ i. false)
sign-false true = refl
sign-false false = refl

pub sign_at : (p : Bool) (f : Sequence) (i : ℕ) → sign p f i ≡ beq p (f i)
sign_at true f i = ap (λ h. h i) (sym (sign-const true (f i)))
sign_at false f i = ap (λ h. h i) (sym (sign-const false (f i)))

beq_assoc : (a b c : Bool) → beq (beq a b) c ≡ beq a (beq b c)
beq_assoc true true true = refl
beq_assoc true true false = refl
beq_assoc true false true = refl
beq_assoc true false false = refl
beq_assoc false true true = refl
beq_assoc false true false = refl
beq_assoc false false true = refl
beq_assoc false false false = refl

-- truth of a plain operator, as wanted or as denied, from that of its operands
operands : (r : Lasso) (p : Bool) (o : Binary) → T (plain_binary o) → (a b : Formula) (f g : Sequence)
    → truth r a ≡ sign p f → truth r b ≡ sign p g → truth r (bin (signed p o) a b) ≡ sign p (applied (size r) (binary_operation o) f g)
unfolding truth
operands r p o t a b f g α β = ap₂ (applied (size r) (binary_operation (signed p o))) α β ∙ binary-signed (size r) p o t f g

plain-sign : (r : Lasso) (p : Bool) (φ : Formula) → truth r (plain p φ) ≡ sign p (truth r φ)
unfolding truth plain
plain-sign r p (const b) = sign-const p b
plain-sign r p (lit b n) = fun_ext (λ i. beq_assoc p b (letter_in (word r i) n) ∙ sym (sign_at p (truth r (lit b n)) i))
plain-sign r p (un next a) = ap (λ f i. f (suc i)) (plain-sign r p a) ∙ sign_next p (truth r a)
plain-sign r p (un neg a) = plain-sign r (not p) a ∙ sign_not p (truth r a)
plain-sign r p (un finally a) = operands r p until tt (const p) (plain p a) (λ k. true) (truth r a) (sign-true p) (plain-sign r p a)
plain-sign r p (un globally a) = operands r p release tt (const (not p)) (plain p a) (λ k. false) (truth r a) (sign-false p) (plain-sign r p a)
plain-sign r p (bin conj a b) = operands r p conj tt (plain p a) (plain p b) (truth r a) (truth r b) (plain-sign r p a) (plain-sign r p b)
plain-sign r p (bin disj a b) = operands r p disj tt (plain p a) (plain p b) (truth r a) (truth r b) (plain-sign r p a) (plain-sign r p b)
plain-sign r p (bin until a b) = operands r p until tt (plain p a) (plain p b) (truth r a) (truth r b) (plain-sign r p a) (plain-sign r p b)
plain-sign r p (bin weak a b) = operands r p weak tt (plain p a) (plain p b) (truth r a) (truth r b) (plain-sign r p a) (plain-sign r p b)
plain-sign r p (bin release a b) = operands r p release tt (plain p a) (plain p b) (truth r a) (truth r b) (plain-sign r p a) (plain-sign r p b)
plain-sign r p (bin strong a b) = operands r p strong tt (plain p a) (plain p b) (truth r a) (truth r b) (plain-sign r p a) (plain-sign r p b)
plain-sign r p (bin implies a b) =
    operands r p disj tt (plain (not p) a) (plain p b) (denied (truth r a)) (truth r b)
    (plain-sign r (not p) a ∙ sign_not p (truth r a)) (plain-sign r p b)

pub plain-truth : (r : Lasso) (p : Bool) (φ : Formula) (i : ℕ) → truth r (plain p φ) i ≡ beq p (truth r φ i)
plain-truth r p φ i = ap (λ f. f i) (plain-sign r p φ) ∙ sign_at p (truth r φ) i

-- a statement as wanted, or as denied
abbrev pub Signed : Bool → Type 0 → Type 0
Signed true A = A
Signed false A = A → ⊥

T-signed : (p b : Bool) → T (beq p b) ↔ Signed p (T b)
T-signed true true = Iff.rfl
T-signed true false = Iff.rfl
T-signed false true = (λ t u. t, λ f. f tt)
T-signed false false = (λ t u. u, λ f. tt)

signed_iff : {A B : Type 0} (p : Bool) → A ↔ B → Signed p A ↔ Signed p B
signed_iff true e = e
signed_iff false e = →-iff e Iff.rfl

-- the negation normal form theorem
pub plain-holds : (r : Lasso) (p : Bool) (φ : Formula) (i : ℕ) → Holds (word r) (plain p φ) i ↔ Signed p (Holds (word r) φ i)
plain-holds r p φ i =
    Iff.trans (Iff.symm (truth-holds r (plain p φ) i))
    (Iff.trans (subst T (plain-truth r p φ i), subst T (sym (plain-truth r p φ i)))
    (Iff.trans (T-signed p (truth r φ i)) (signed_iff p (truth-holds r φ i))))

signed-plain : (p : Bool) (o : Binary) → T (plain_binary o) → T (plain_binary (signed p o))
signed-plain true o t = t
signed-plain false conj t = tt
signed-plain false disj t = tt
signed-plain false until t = tt
signed-plain false weak t = tt
signed-plain false release t = tt
signed-plain false strong t = tt
signed-plain false implies t = t

plain-operands : (p : Bool) (o : Binary) → T (plain_binary o) → (a b : Formula) → T (is_plain a) → T (is_plain b) → T (is_plain (bin (signed p o) a b))
unfolding is_plain
plain-operands p o t a b α β =
    (T_and (plain_binary (signed p o) && is_plain a) (is_plain b)).1
    ((T_and (plain_binary (signed p o)) (is_plain a)).1 (signed-plain p o t, α), β)

pub plain-is_plain : (p : Bool) (φ : Formula) → T (is_plain (plain p φ))
unfolding is_plain plain
plain-is_plain p (const b) = tt
plain-is_plain p (lit b n) = tt
plain-is_plain p (un next a) = plain-is_plain p a
plain-is_plain p (un neg a) = plain-is_plain (not p) a
plain-is_plain p (un finally a) = plain-operands p until tt (const p) (plain p a) tt (plain-is_plain p a)
plain-is_plain p (un globally a) = plain-operands p release tt (const (not p)) (plain p a) tt (plain-is_plain p a)
plain-is_plain p (bin conj a b) = plain-operands p conj tt (plain p a) (plain p b) (plain-is_plain p a) (plain-is_plain p b)
plain-is_plain p (bin disj a b) = plain-operands p disj tt (plain p a) (plain p b) (plain-is_plain p a) (plain-is_plain p b)
plain-is_plain p (bin until a b) = plain-operands p until tt (plain p a) (plain p b) (plain-is_plain p a) (plain-is_plain p b)
plain-is_plain p (bin weak a b) = plain-operands p weak tt (plain p a) (plain p b) (plain-is_plain p a) (plain-is_plain p b)
plain-is_plain p (bin release a b) = plain-operands p release tt (plain p a) (plain p b) (plain-is_plain p a) (plain-is_plain p b)
plain-is_plain p (bin strong a b) = plain-operands p strong tt (plain p a) (plain p b) (plain-is_plain p a) (plain-is_plain p b)
plain-is_plain p (bin implies a b) = plain-operands p disj tt (plain (not p) a) (plain p b) (plain-is_plain (not p) a) (plain-is_plain p b)
