-- The step by a sample: what remains holds from the next position on exactly if the formula held at this one; it has no letters but its source's, stays
-- plain, and looks at no bit but those of its source's letters.
use Prim.Native.Nat.{ℕ, suc}
use mathlib.Core.Path.{◌≡◌, refl, ap, ap₂}
use mathlib.Core.Bool.{Bool, true, false, ◌&&◌, beq}
use mathlib.Core.Logic.Iff
use mathlib.Core.Logic.{◌↔◌, ◌⊎◌, inl, inr}
use lib.Dec.{T}
use Rattle.logic.specs.Formula.{Formula, Unary, Binary, const, lit, un, bin, next, neg, finally, globally, conj, disj, until, weak, release, strong, implies}
use Rattle.logic.specs.Bit.{bit}
use Rattle.logic.specs.Lasso.{Word, letter_in}
use Rattle.logic.specs.Letters.{Letters}
use Rattle.logic.specs.Semantics.{Constant, Holds}
use Rattle.logic.specs.NegationNormalForm.{is_plain, plain_unary, plain_binary}
use Rattle.transforms.specs.Folding.{fold_binary, fold}
use Rattle.transforms.specs.After.{after_unary, after_binary, after}
use Rattle.logic.proofs.Tests.{T_and, T-beq, ⊎-iff, →-iff}
use Rattle.logic.proofs.Expansion.{until_next, strong_next, weak_next, release_next}

-- ---- the meaning

-- what remains after the sample of a position holds from the next one on exactly if the formula holds there
pub after_holds : (σ : Word) (φ : Formula) (i : ℕ) → Holds σ (after (σ i) φ) (suc i) ↔ Holds σ φ i
unfolding after
after_holds σ (const b) i = Iff.rfl
after_holds σ (lit b n) i = T-beq b (letter_in (σ i) n)
after_holds σ (un next a) i = Iff.rfl
after_holds σ (un neg a) i = →-iff (after_holds σ a i) Iff.rfl
after_holds σ (un finally a) i =
    Iff.trans (⊎-iff (after_holds σ a i) (λ u. (tt, u), λ p. p.1)) (Iff.symm (until_next (Constant true) (Holds σ a) i))
after_holds σ (un globally a) i =
    Iff.trans (Iff.and (after_holds σ a i) (λ r. inr r, λ p. elim p [ inl f ↦ absurd f | inr r ↦ r ])) (Iff.symm (release_next (Constant false) (Holds σ a) i))
after_holds σ (bin conj a b) i = Iff.and (after_holds σ a i) (after_holds σ b i)
after_holds σ (bin disj a b) i = ⊎-iff (after_holds σ a i) (after_holds σ b i)
after_holds σ (bin until a b) i =
    Iff.trans (⊎-iff (after_holds σ b i) (Iff.and (after_holds σ a i) Iff.rfl)) (Iff.symm (until_next (Holds σ a) (Holds σ b) i))
after_holds σ (bin weak a b) i =
    Iff.trans (⊎-iff (after_holds σ b i) (Iff.and (after_holds σ a i) Iff.rfl)) (Iff.symm (weak_next (Holds σ a) (Holds σ b) i))
after_holds σ (bin release a b) i =
    Iff.trans (Iff.and (after_holds σ b i) (⊎-iff (after_holds σ a i) Iff.rfl)) (Iff.symm (release_next (Holds σ a) (Holds σ b) i))
after_holds σ (bin strong a b) i =
    Iff.trans (Iff.and (after_holds σ b i) (⊎-iff (after_holds σ a i) Iff.rfl)) (Iff.symm (strong_next (Holds σ a) (Holds σ b) i))
after_holds σ (bin implies a b) i = →-iff (after_holds σ a i) (after_holds σ b i)

-- ---- letters

letters-unary : (Q : ℕ → Type 0) (o : Unary) (a a' : Formula) → Letters Q a → Letters Q a' → Letters Q (after_unary o a a')
letters-unary Q next a a' p q = p
letters-unary Q neg a a' p q = q
letters-unary Q finally a a' p q = (q, p)
letters-unary Q globally a a' p q = (q, p)

letters-binary : (Q : ℕ → Type 0) (o : Binary) (a' b' w : Formula) → Letters Q a' → Letters Q b' → Letters Q w → Letters Q (after_binary o a' b' w)
letters-binary Q conj a' b' w p q r = (p, q)
letters-binary Q disj a' b' w p q r = (p, q)
letters-binary Q until a' b' w p q r = (q, (p, r))
letters-binary Q weak a' b' w p q r = (q, (p, r))
letters-binary Q release a' b' w p q r = (q, (p, r))
letters-binary Q strong a' b' w p q r = (q, (p, r))
letters-binary Q implies a' b' w p q r = (p, q)

-- what is so of every letter stays so
pub after_letters : (Q : ℕ → Type 0) (v : ℕ) (φ : Formula) → Letters Q φ → Letters Q (after v φ)
unfolding after
after_letters Q v (const b) h = h
after_letters Q v (lit b n) h = tt
after_letters Q v (un o a) h = letters-unary Q o a (after v a) h (after_letters Q v a h)
after_letters Q v (bin o a b) h = letters-binary Q o (after v a) (after v b) (bin o a b) (after_letters Q v a h.0) (after_letters Q v b h.1) h

-- samples that have the same bits of the letters of a formula leave the same
pub after_same : (P : ℕ → Type 0) (v w : ℕ) → ((n : ℕ) → P n → letter_in v n ≡ letter_in w n) → (φ : Formula) → Letters P φ → after v φ ≡ after w φ
unfolding after
after_same P v w e (const b) l = refl
after_same P v w e (lit b n) l = ap (λ (x : Bool). const (beq b x)) (e n l)
after_same P v w e (un o a) l = ap (after_unary o a) (after_same P v w e a l)
after_same P v w e (bin o a b) l = ap₂ (λ (x y : Formula). after_binary o x y (bin o a b)) (after_same P v w e a l.0) (after_same P v w e b l.1)

-- ---- plain formulas

plain-join : (o : Binary) (a b : Formula) → T (plain_binary o) → T (is_plain a) → T (is_plain b) → T (is_plain (bin o a b))
unfolding is_plain
plain-join o a b t p q = (T_and (plain_binary o && is_plain a) (is_plain b)).1 ((T_and (plain_binary o) (is_plain a)).1 (t, p), q)

plain_unary_lem : (o : Unary) (a a' : Formula) → T (plain_unary o) → T (is_plain a) → T (is_plain (after_unary o a a'))
plain_unary_lem next a a' t p = p
plain_unary_lem neg a a' t p = absurd t
plain_unary_lem finally a a' t p = absurd t
plain_unary_lem globally a a' t p = absurd t

plain_binary_lem : (o : Binary) (a' b' w : Formula) → T (plain_binary o) → T (is_plain a') → T (is_plain b') → T (is_plain w) → T (is_plain (after_binary o a' b' w))
plain_binary_lem conj a' b' w t p q r = plain-join conj a' b' tt p q
plain_binary_lem disj a' b' w t p q r = plain-join disj a' b' tt p q
plain_binary_lem until a' b' w t p q r = plain-join disj b' (bin conj a' w) tt q (plain-join conj a' w tt p r)
plain_binary_lem weak a' b' w t p q r = plain-join disj b' (bin conj a' w) tt q (plain-join conj a' w tt p r)
plain_binary_lem release a' b' w t p q r = plain-join conj b' (bin disj a' w) tt q (plain-join disj a' w tt p r)
plain_binary_lem strong a' b' w t p q r = plain-join conj b' (bin disj a' w) tt q (plain-join disj a' w tt p r)
plain_binary_lem implies a' b' w t p q r = absurd t

-- what remains of a plain formula is plain
pub after_plain : (v : ℕ) (φ : Formula) → T (is_plain φ) → T (is_plain (after v φ))
unfolding after is_plain
after_plain v (const b) t = tt
after_plain v (lit b n) t = tt
after_plain v (un o a) t = let s = (T_and (plain_unary o) (is_plain a)).0 t in plain_unary_lem o a (after v a) s.0 s.1
after_plain v (bin o a b) t =
    let s = (T_and (plain_binary o && is_plain a) (is_plain b)).0 t in
    let r = (T_and (plain_binary o) (is_plain a)).0 s.0 in
    plain_binary_lem o (after v a) (after v b) (bin o a b) r.0 (after_plain v a r.1) (after_plain v b s.1) t

-- ---- Example 8 of source 000: a or (b U c) after the samples {a}, {b} and {}, folded

abbrev example : Formula
example = bin disj (lit true 1) (bin until (lit true 2) (lit true 3))

after_a : fold (after 1 example) ≡ const true
unfolding after fold fold_binary letter_in bit
after_a = refl

after_b : fold (after 2 example) ≡ bin until (lit true 2) (lit true 3)
unfolding after fold fold_binary letter_in bit
after_b = refl

after_none : fold (after 0 example) ≡ const false
unfolding after fold fold_binary letter_in bit
after_none = refl
