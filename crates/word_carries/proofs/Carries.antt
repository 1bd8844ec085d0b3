-- The laws of what a sweep carries from one word to the next.
use Rattle.std.proofs.Common.{◌≡◌, ℕ, zero, suc, ◌+◌, ◌-◌, ◌*◌, ◌%◌, ◌^◌, ◌<◌, ◌≤◌, Bool, true, false, cond, not, ◌&&◌, ◌||◌, eqb, sym, refl, ap, ◌∙◌, subst, ap₂, lt_of_lt_of_le, lt_of_le_of_lt, mod-lt, mod-eq_of_lt, pow-suc, zero-mul, arith, pow_pos, pow_mono, eq-eqb, ne_eqb, eqb-true}
use mathlib.Core.Bool.{xor, and-true, and-false}
use borrow.Author.Tests.{eqb-false}
use mir.Val.{bool_byte}
use lib.Bits.{bit_and, bit_or, bit_xor, and_zero_l, and_zero_r, xor_self, and_le_l, and_mod, xor_mod}
use Rattle.logic.specs.Truth.{Sequence, sweep}
use Rattle.row_words.specs.Row.{digit, pack_bits, nowhere}
use Rattle.row_words.proofs.Bits.{and_digits, xor-digits, pack_lt, pack_ext, pack_and, pack_or, pack-zeros, pack-top}
use Rattle.row_words.proofs.Words.{last_bit}
use Rattle.row_words.proofs.Sweep.{sweep_carry}
use Rattle.word_carries.specs.Carried.{carried_in}

-- ---- what a sweep comes to at its first position

doubled : (z : ℕ) → eqb (z * 2 + 0) 0 ≡ eqb z 0
doubled zero = refl
doubled (suc z) = ne_eqb (suc z * 2 + 0) 0 (λ e. omega arith) ∙ sym (ne_eqb (suc z) 0 (λ e. omega arith))

-- the lowest bits of p, up to the first one that fails, are those that change when 1 is added: the goal is reached if one of them has it
reached : (G P : Sequence) (i n : ℕ) → not (eqb (bit_and (pack_bits G i n) (bit_xor (pack_bits P i n) (pack_bits P i n + 1))) 0) ≡ sweep G P false i n
unfolding pack_bits sweep xor
reached G P i zero = ap (λ (x : ℕ). not (eqb x 0)) (and_zero_l (bit_xor 0 (0 + 1)))
reached G P i (suc n) =
    ap (λ (x : ℕ). not (eqb (bit_and (g * 2 + digit (G i)) x) 0)) (mask (P i))
    ∙ ap (λ (x : ℕ). not (eqb x 0)) (and_digits g (cond (P i) (bit_xor p (p + 1)) 0) (G i) true)
    ∙ value (G i) (P i) (reached G P (suc i) n)
  where
    g : ℕ
    g = pack_bits G (suc i) n

    p : ℕ
    p = pack_bits P (suc i) n

    mask : (b : Bool) → bit_xor (p * 2 + digit b) (p * 2 + digit b + 1) ≡ cond b (bit_xor p (p + 1)) 0 * 2 + digit true
    mask true = let e : p * 2 + 1 + 1 ≡ (p + 1) * 2 + 0 = omega arith in ap (bit_xor (p * 2 + 1)) e ∙ xor-digits p (p + 1) true false
    mask false =
        let e : p * 2 + 0 + 1 ≡ p * 2 + 1 = omega arith in
        ap (bit_xor (p * 2 + 0)) e ∙ xor-digits p p false true ∙ ap (λ (x : ℕ). x * 2 + 1) (xor_self p)

    value : (a b : Bool) → not (eqb (bit_and g (bit_xor p (p + 1))) 0) ≡ sweep G P false (suc i) n
        → not (eqb (bit_and g (cond b (bit_xor p (p + 1)) 0) * 2 + digit (a && true)) 0) ≡ a || (b && sweep G P false (suc i) n)
    value true b ih = ap not (ne_eqb (bit_and g (cond b (bit_xor p (p + 1)) 0) * 2 + 1) 0 (λ e. omega arith))
    value false true ih = ap not (doubled (bit_and g (bit_xor p (p + 1)))) ∙ ih
    value false false ih = ap (λ (x : ℕ). not (eqb (x * 2 + 0) 0)) (and_zero_r g)

-- below 2 ^ 64 it does not matter that 1 is added modulo 2 ^ 64
wrapped : (g p q : ℕ) → g < 2 ^ 64 → bit_and g (bit_xor p (q % 2 ^ 64)) ≡ bit_and g (bit_xor p q)
wrapped g p q h =
    low_bits (bit_xor p (q % 2 ^ 64))
    ∙ ap (bit_and g) (xor_mod p (q % 2 ^ 64) 64 ∙ ap (bit_xor (p % 2 ^ 64)) (mod_mod q 64) ∙ sym (xor_mod p q 64))
    ∙ sym (low_bits (bit_xor p q))
  where
    mod_mod : (x k : ℕ) → x % 2 ^ k % 2 ^ k ≡ x % 2 ^ k
    mod_mod x k = mod-eq_of_lt (mod-lt x (pow_pos k))

    low_bits : (x : ℕ) → bit_and g x ≡ bit_and g (x % 2 ^ 64)
    low_bits x =
        sym (mod-eq_of_lt (lt_of_le_of_lt (and_le_l g x) h)) ∙ and_mod g x 64
        ∙ ap (λ (y : ℕ). bit_and y (x % 2 ^ 64)) (mod-eq_of_lt h)

-- the keep holds all the way where all n bits are set
kept : (P : Sequence) (i n : ℕ) → eqb (pack_bits P i n) (2 ^ n - 1) ≡ sweep nowhere P true i n
unfolding pack_bits sweep
kept P i zero = refl
kept P i (suc n) =
    let e : 2 ^ suc n - 1 ≡ (2 ^ n - 1) * 2 + 1 = omega (arith, pow-suc 2 n, pow_pos n) in
    ap (eqb (pack_bits P (suc i) n * 2 + digit (P i))) e ∙ odd (P i) (pack_bits P (suc i) n) (2 ^ n - 1) ∙ ap (λ (b : Bool). P i && b) (kept P (suc i) n)
  where
    odd : (b : Bool) (x y : ℕ) → eqb (x * 2 + digit b) (y * 2 + 1) ≡ b && eqb x y
    odd true x y = go (eqb x y) refl
      where
        go : (t : Bool) → eqb x y ≡ t → eqb (x * 2 + 1) (y * 2 + 1) ≡ eqb x y
        go true h = let e : x ≡ y = eqb-true x y h in eq-eqb (x * 2 + 1) (y * 2 + 1) (omega arith) ∙ sym h
        go false h = let e : x ≡ y → ⊥ = eqb-false x y h in ne_eqb (x * 2 + 1) (y * 2 + 1) (λ q. e (omega arith)) ∙ sym h
    odd false x y = ne_eqb (x * 2 + 0) (y * 2 + 1) (λ q. omega arith)

pub kept_law : (P : Sequence) (i n p all : ℕ) → all ≡ 2 ^ n - 1 → p ≡ pack_bits P i n → eqb p all ≡ sweep nowhere P true i n
kept_law P i n p all ea ep = ap₂ eqb ep ea ∙ kept P i n

pub first_law : (G P : Sequence) (i n g p q all : ℕ) (carry : Bool) → n ≤ 64 → q ≡ (p + 1) % 2 ^ 64 → all ≡ 2 ^ n - 1 → g ≡ pack_bits G i n → p ≡ pack_bits P i n
    → not (eqb (bit_and g (bit_xor p q)) 0) || (eqb p all && carry) ≡ sweep G P carry i n
first_law G P i n g p q all carry few eq ea eg ep =
    ap₂ (λ (a b : Bool). a || (b && carry))
    (ap (λ (x : ℕ). not (eqb (bit_and g (bit_xor p x)) 0)) eq
    ∙ ap (λ (x : ℕ). not (eqb x 0)) (wrapped g p (p + 1) (rw eg (lt_of_lt_of_le (pack_lt G i n) (pow_mono few))) ∙ ap₂ (λ (x y : ℕ). bit_and x (bit_xor y (y + 1))) eg ep)
    ∙ reached G P i n)
    (kept_law P i n p all ea ep)
    ∙ sym (sweep_carry G P carry i n)

-- ---- the carry taken in

-- a sweep for goals that have taken the carry in needs none
pub sweep_carried : (G P : Sequence) (c : Bool) (e k m : ℕ) → 1 ≤ m → k + m ≡ e → sweep (carried_in G P c e) P false k m ≡ sweep G P c k m
unfolding sweep
sweep_carried G P c e k zero some h = absurd (omega arith)
sweep_carried G P c e k (suc zero) some h =
    ap (λ (b : Bool). (G k || (P k && (b && c))) || (P k && false)) (eq-eqb (suc k) e (omega arith)) ∙ last (G k) (P k) c
  where
    last : (a b c : Bool) → (a || (b && (true && c))) || (b && false) ≡ a || (b && c)
    last true b c = refl
    last false true true = refl
    last false true false = refl
    last false false c = refl
sweep_carried G P c e k (suc (suc m)) some h =
    ap₂ (λ (b s : Bool). (G k || (P k && (b && c))) || (P k && s)) (ne_eqb (suc k) e (λ q. omega arith)) (sweep_carried G P c e (suc k) (suc m) (omega arith) (omega arith))
    ∙ inner (G k) (P k) (sweep G P c (suc k) (suc m))
  where
    inner : (a b s : Bool) → (a || (b && (false && c))) || (b && s) ≡ a || (b && s)
    inner true b s = refl
    inner false true s = refl
    inner false false s = refl

pub bool_digit : (b : Bool) → bool_byte b ≡ digit b
bool_digit true = refl
bool_digit false = refl

-- the carry as a bit at the last of n positions
pack_carry : (c : Bool) (i n : ℕ) → suc n ≤ 64 → digit c * 2 ^ (suc n - 1) % 2 ^ 64 ≡ pack_bits (λ k. eqb (suc k) (i + suc n) && c) i (suc n)
pack_carry true i n h =
    last_bit n h ∙ pack-top i (i + suc n) n refl ∙ pack_ext _ (λ k. eqb (suc k) (i + suc n) && true) i i (suc n) (λ k l. sym (and-true (eqb (suc (i + k)) (i + suc n))))
pack_carry false i n h =
    ap (λ (y : ℕ). y % 2 ^ 64) (zero-mul (2 ^ (suc n - 1))) ∙ pack-zeros i (suc n) ∙ pack_ext _ (λ k. eqb (suc k) (i + suc n) && false) i i (suc n) (λ k l. sym (and-false (eqb (suc (i + k)) (i + suc n))))

pub goal_carried : (G P : Sequence) (i n g p c : ℕ) (carry : Bool) → 1 ≤ n → n ≤ 64 → c ≡ digit carry → g ≡ pack_bits G i n → p ≡ pack_bits P i n
    → bit_or g (bit_and p (c * 2 ^ (n - 1) % 2 ^ 64)) ≡ pack_bits (carried_in G P carry (i + n)) i n
goal_carried G P i n g p c carry some few ec eg ep =
    let m : n ≡ suc (n - 1) = omega arith in
    let top : c * 2 ^ (n - 1) % 2 ^ 64 ≡ pack_bits (λ k. eqb (suc k) (i + n) && carry) i n =
    ap (λ (x : ℕ). x * 2 ^ (n - 1) % 2 ^ 64) ec
    ∙ subst (λ (x : ℕ). digit carry * 2 ^ (x - 1) % 2 ^ 64 ≡ pack_bits (λ k. eqb (suc k) (i + x) && carry) i x) (sym m) (pack_carry carry i (n - 1) (omega arith)) in
    ap₂ bit_or eg (ap₂ bit_and ep top ∙ pack_and P (λ k. eqb (suc k) (i + n) && carry) i n) ∙ pack_or G (λ k. P k && (eqb (suc k) (i + n) && carry)) i n
