-- The dialect without W and M: it holds where its source does, has its class byte, has no W and no M, and leaves a formula without them as it is.
use Prim.Native.Nat.{ℕ, zero, suc}
use mathlib.Core.Path.{◌≡◌, refl, sym, ap, ap₂, ◌∙◌, fun_ext}
use mathlib.Core.Bool.{Bool, true, false, ◌&&◌, ◌||◌}
use mathlib.Core.Logic.{◌↔◌}
use mathlib.Core.List.{List, [], ◌∷◌}
use lib.ListN.{length}
use lib.Bits.{bit_and}
use lib.Dec.{T}
use Rattle.logic.specs.Formula.{Formula, Binary, const, lit, un, bin, conj, disj, until, weak, release, strong, implies}
use Rattle.logic.specs.Lasso.{Lasso, word}
use Rattle.logic.specs.Semantics.{Holds}
use Rattle.logic.specs.Truth.{Sequence, sweep, applied, unary_operation, binary_operation, truth}
use Rattle.logic.specs.ClassByte.{tests, test_all, of_bits, class_byte}
use Rattle.logic.specs.ClassStep.{greatest_byte, least_byte, unary_byte, binary_byte}
use Rattle.logic.specs.NegationNormalForm.{is_plain, plain_unary, plain_binary}
use Rattle.transforms.specs.Dialect.{dialect_op, dialect, free_op, is_free}
use Rattle.logic.proofs.Tests.{T_and}
use Rattle.logic.proofs.Lasso.Truth.{same_truth}
use Rattle.logic.proofs.Hierarchy.Bits.{and_bits, and_of_bits}
use Rattle.logic.proofs.Hierarchy.Step.{unary_byte_lem, binary_byte_lem}

-- to reach g while f holds is to reach a g with (f or g) while (f or g) holds
sweep-either : (f g : Sequence) (c : Bool) (i n : ℕ) → sweep (λ k. g k && (f k || g k)) (λ k. f k || g k) c i n ≡ sweep g f c i n
unfolding sweep
sweep-either f g c i zero = refl
sweep-either f g c i (suc n) = go (f i) (g i) (sweep-either f g c (suc i) n)
  where
    go : (p q : Bool) {x y : Bool} → x ≡ y → ((q && (p || q)) || ((p || q) && x)) ≡ (q || (p && y))
    go true true e = refl
    go true false e = e
    go false true e = refl
    go false false e = refl

-- each operator, over truths of the operands
dialect_op-truth : (r : Lasso) (o : Binary) (a b : Formula) (i : ℕ) → truth r (dialect_op o a b) i ≡ truth r (bin o a b) i
unfolding truth
dialect_op-truth r conj a b i = refl
dialect_op-truth r disj a b i = refl
dialect_op-truth r until a b i = refl
dialect_op-truth r weak a b i = sweep-either (truth r a) (truth r b) true i (length r.samples)
dialect_op-truth r release a b i = refl
dialect_op-truth r strong a b i = refl
dialect_op-truth r implies a b i = refl

dialect-truth : (r : Lasso) (φ : Formula) (i : ℕ) → truth r (dialect φ) i ≡ truth r φ i
unfolding dialect truth
dialect-truth r (const b) i = refl
dialect-truth r (lit b n) i = refl
dialect-truth r (un o a) i =
    ap (λ (f : Sequence). applied (length r.samples) (unary_operation o) f f i) (fun_ext (dialect-truth r a))
dialect-truth r (bin o a b) i =
    dialect_op-truth r o (dialect a) (dialect b) i
    ∙ ap₂ (λ (f g : Sequence). applied (length r.samples) (binary_operation o) f g i) (fun_ext (dialect-truth r a)) (fun_ext (dialect-truth r b))

-- over every lasso and at every position it holds exactly when its source does
pub dialect-holds : (r : Lasso) (φ : Formula) (i : ℕ) → Holds (word r) (dialect φ) i ↔ Holds (word r) φ i
dialect-holds r φ i = same_truth r (dialect φ) φ i i (dialect-truth r φ i)

-- tests that all pass
both : (a b : Bool) → T a → T b → T (a && b)
both a b p q = (T_and a b).1 (p, q)

first : (a b c : Bool) → T (a && b && c) → T a
first a b c h = ((T_and a b).0 ((T_and (a && b) c).0 h).0).0

second : (a b c : Bool) → T (a && b && c) → T b
second a b c h = ((T_and a b).0 ((T_and (a && b) c).0 h).0).1

third : (a b c : Bool) → T (a && b && c) → T c
third a b c h = ((T_and (a && b) c).0 h).1

-- no W and no M is left
free_op-free : (o : Binary) (a b : Formula) → T (is_free a) → T (is_free b) → T (is_free (dialect_op o a b))
unfolding is_free
free_op-free conj a b p q = both (is_free a) (is_free b) p q
free_op-free disj a b p q = both (is_free a) (is_free b) p q
free_op-free until a b p q = both (is_free a) (is_free b) p q
free_op-free weak a b p q = both (is_free b) (is_free a && is_free b) q (both (is_free a) (is_free b) p q)
free_op-free release a b p q = both (is_free a) (is_free b) p q
free_op-free strong a b p q = both (is_free b) (is_free a && is_free b) q (both (is_free a) (is_free b) p q)
free_op-free implies a b p q = both (is_free a) (is_free b) p q

pub dialect-free : (φ : Formula) → T (is_free (dialect φ))
unfolding dialect is_free
dialect-free (const b) = tt
dialect-free (lit b n) = tt
dialect-free (un o a) = dialect-free a
dialect-free (bin o a b) = free_op-free o (dialect a) (dialect b) (dialect-free a) (dialect-free b)

-- a formula without them is its own conversion
free_op_kept : (o : Binary) (a b : Formula) → T (free_op o) → dialect_op o a b ≡ bin o a b
free_op_kept conj a b t = refl
free_op_kept disj a b t = refl
free_op_kept until a b t = refl
free_op_kept weak a b t = absurd t
free_op_kept release a b t = refl
free_op_kept strong a b t = absurd t
free_op_kept implies a b t = refl

pub dialect_kept : (φ : Formula) → T (is_free φ) → dialect φ ≡ φ
unfolding dialect is_free
dialect_kept (const b) t = refl
dialect_kept (lit b n) t = refl
dialect_kept (un o a) t = ap (un o) (dialect_kept a t)
dialect_kept (bin o a b) t =
    free_op_kept o (dialect a) (dialect b) (first (free_op o) (is_free a) (is_free b) t)
    ∙ ap₂ (bin o) (dialect_kept a (second (free_op o) (is_free a) (is_free b) t)) (dialect_kept b (third (free_op o) (is_free a) (is_free b) t))

pub dialect-twice : (φ : Formula) → dialect (dialect φ) ≡ dialect φ
dialect-twice φ = dialect_kept (dialect φ) (dialect-free φ)

-- a plain formula stays plain
dialect_op-plain : (o : Binary) (a b : Formula) → T (plain_binary o) → T (is_plain a) → T (is_plain b) → T (is_plain (dialect_op o a b))
unfolding is_plain
dialect_op-plain conj a b t p q = both (is_plain a) (is_plain b) p q
dialect_op-plain disj a b t p q = both (is_plain a) (is_plain b) p q
dialect_op-plain until a b t p q = both (is_plain a) (is_plain b) p q
dialect_op-plain weak a b t p q = both (is_plain b) (is_plain a && is_plain b) q (both (is_plain a) (is_plain b) p q)
dialect_op-plain release a b t p q = both (is_plain a) (is_plain b) p q
dialect_op-plain strong a b t p q = both (is_plain b) (is_plain a && is_plain b) q (both (is_plain a) (is_plain b) p q)
dialect_op-plain implies a b t p q = absurd t

pub dialect-plain : (φ : Formula) → T (is_plain φ) → T (is_plain (dialect φ))
unfolding dialect is_plain
dialect-plain (const b) t = tt
dialect-plain (lit b n) t = tt
dialect-plain (un o a) t =
    let s = (T_and (plain_unary o) (is_plain a)).0 t in
    (T_and (plain_unary o) (is_plain (dialect a))).1 (s.0, dialect-plain a s.1)
dialect-plain (bin o a b) t =
    dialect_op-plain o (dialect a) (dialect b) (first (plain_binary o) (is_plain a) (is_plain b) t)
    (dialect-plain a (second (plain_binary o) (is_plain a) (is_plain b) t)) (dialect-plain b (third (plain_binary o) (is_plain a) (is_plain b) t))

-- both operands' classes, and the right one's once more, are both operands' classes
bits_again : (as' bs : List Bool) → and_bits bs (and_bits as' bs) ≡ and_bits as' bs
bits_again [] [] = refl
bits_again [] (b ∷ bs) = refl
bits_again (a ∷ as') [] = refl
bits_again (a ∷ as') (b ∷ bs) = ap₂ ◌∷◌ (go a b) (bits_again as' bs)
  where
    go : (x y : Bool) → (y && (x && y)) ≡ (x && y)
    go true true = refl
    go true false = refl
    go false true = refl
    go false false = refl

and_again : (a b : Formula) → bit_and (class_byte b) (bit_and (class_byte a) (class_byte b)) ≡ bit_and (class_byte a) (class_byte b)
unfolding class_byte
and_again a b =
    let as' : List Bool = test_all tests a in
    let bs : List Bool = test_all tests b in
    ap (bit_and (of_bits bs)) (and_of_bits as' bs) ∙ and_of_bits bs (and_bits as' bs) ∙ ap of_bits (bits_again as' bs) ∙ sym (and_of_bits as' bs)

-- R and "or" close the classes that W closes, U and "and" those that M closes
dialect_op-byte : (o : Binary) (a b : Formula) → class_byte (dialect_op o a b) ≡ class_byte (bin o a b)
unfolding greatest_byte least_byte
dialect_op-byte conj a b = refl
dialect_op-byte disj a b = refl
dialect_op-byte until a b = refl
dialect_op-byte weak a b =
    binary_byte_lem release b (bin disj a b)
    ∙ rw (binary_byte_lem disj a b, and_again a b) (sym (binary_byte_lem weak a b))
dialect_op-byte release a b = refl
dialect_op-byte strong a b =
    binary_byte_lem until b (bin conj a b)
    ∙ rw (binary_byte_lem conj a b, and_again a b) (sym (binary_byte_lem strong a b))
dialect_op-byte implies a b = refl

-- the class byte stays as it is
pub dialect-byte : (φ : Formula) → class_byte (dialect φ) ≡ class_byte φ
unfolding dialect
dialect-byte (const b) = refl
dialect-byte (lit b n) = refl
dialect-byte (un o a) = unary_byte_lem o (dialect a) ∙ ap (unary_byte o) (dialect-byte a) ∙ sym (unary_byte_lem o a)
dialect-byte (bin o a b) =
    dialect_op-byte o (dialect a) (dialect b)
    ∙ binary_byte_lem o (dialect a) (dialect b)
    ∙ ap₂ (binary_byte o) (dialect-byte a) (dialect-byte b)
    ∙ sym (binary_byte_lem o a b)
