-- The class byte of a formula is the step of its operator on its operands' class bytes.
use Prim.Native.Nat.{ℕ, ◌*◌}
use mathlib.Core.Path.{◌≡◌, refl, ap, ap₂, sym, subst, ◌∙◌}
use mathlib.Core.Logic.{◌⊎◌, inl, inr}
use mathlib.Core.Bool.{Bool, true, false, ◌&&◌, ◌||◌, and-true, and-false, or-false}
use mathlib.Core.List.{List, [], ◌∷◌}
use native.Mathlib.Omega.{arith}
use lib.Dec.{T}
use lib.Bits.{bit_and, bit_or}
use Rattle.logic.specs.Formula.{Formula, Unary, Binary, const, lit, un, bin, next, neg, finally, globally, conj, disj, until, weak, release, strong, implies}
use Rattle.logic.specs.Hierarchy.{Closing, boolean, least, greatest, closes}
use Rattle.logic.specs.ClassByte.{is_atomic, in_closure, in_Δ₀, in_Σ₁, in_Π₁, in_Δ₁, in_Σ₂, in_Π₂, in_Δ₂, tests, test_all, of_bits, class_byte}
use Rattle.logic.specs.ClassStep.{atomic_byte, with_delta, next_byte, least_byte, greatest_byte, unary_byte, binary_byte}
use Rattle.logic.proofs.Tests.{T_and, T_or}
use Rattle.logic.proofs.Hierarchy.Closure.{base_in}
use Rattle.logic.proofs.Hierarchy.Bits.{and_bits, or_bits, and_of_bits, or_of_bits}

-- the seven bits of a formula
abbrev bits_of : Formula → List Bool
bits_of φ = test_all tests φ

absorb : (p q : Bool) → (T p → T q) → (p || q) ≡ q
absorb true true h = refl
absorb true false h = absurd (h tt)
absorb false q h = refl

double : (bs : List Bool) → of_bits bs * 2 ≡ of_bits (false ∷ bs)
double bs = omega arith

-- the bits of a mask
abbrev mask48 : List Bool
mask48 = false ∷ false ∷ false ∷ true ∷ false ∷ false ∷ true ∷ []

abbrev mask36 : List Bool
mask36 = false ∷ true ∷ true ∷ false ∷ true ∷ true ∷ false ∷ []

abbrev mask12 : List Bool
mask12 = false ∷ true ∷ false ∷ false ∷ true ∷ false ∷ false ∷ []

abbrev mask02 : List Bool
mask02 = false ∷ true ∷ []

abbrev mask24 : List Bool
mask24 = false ∷ false ∷ true ∷ false ∷ false ∷ true ∷ false ∷ []

abbrev mask04 : List Bool
mask04 = false ∷ false ∷ true ∷ []

abbrev delta_bits : List Bool → List Bool
delta_bits ks = or_bits ks (and_bits (or_bits (false ∷ false ∷ ks) (false ∷ ks)) mask48)

with_delta-bits : (ks : List Bool) → with_delta (of_bits ks) ≡ of_bits (delta_bits ks)
unfolding with_delta
with_delta-bits ks =
    ap (λ (n : ℕ). bit_or (of_bits ks) (bit_and n 0x48)) (ap₂ bit_or (quadruple ks) (double ks) ∙ or_of_bits (false ∷ false ∷ ks) (false ∷ ks))
    ∙ ap (bit_or (of_bits ks)) (and_of_bits (or_bits (false ∷ false ∷ ks) (false ∷ ks)) mask48)
    ∙ or_of_bits ks (and_bits (or_bits (false ∷ false ∷ ks) (false ∷ ks)) mask48)
  where
    quadruple : (bs : List Bool) → of_bits bs * 4 ≡ of_bits (false ∷ false ∷ bs)
    quadruple bs = omega arith

next_list : (d s p e s' p' f : Bool) → (p || s') ≡ s' → (s || p') ≡ p'
    → delta_bits (and_bits (d ∷ s ∷ p ∷ e ∷ s' ∷ p' ∷ f ∷ []) mask36)
    ≡ false ∷ s ∷ p ∷ (s || p || false) ∷ (p || s') ∷ (s || p') ∷ (p || s' || (s || p') || false) ∷ []
next_list d s p e s' p' f g h = simp (and-true, and-false, or-false, g, h)

next_bits : (a : Formula) → delta_bits (and_bits (bits_of a) mask36) ≡ bits_of (un next a)
next_bits a =
    next_list (in_Δ₀ a) (in_Σ₁ a) (in_Π₁ a) (in_Δ₁ a) (in_Σ₂ a) (in_Π₂ a) (in_Δ₂ a)
    (absorb (in_Π₁ a) (in_Σ₂ a) (base_in in_Π₁ least a))
    (absorb (in_Σ₁ a) (in_Π₂ a) (base_in in_Σ₁ greatest a))

next_byte_step : (a : Formula) → class_byte (un next a) ≡ next_byte (class_byte a)
unfolding class_byte next_byte
next_byte_step a =
    sym
    (ap with_delta (and_of_bits (bits_of a) mask36)
    ∙ with_delta-bits (and_bits (bits_of a) mask36)
    ∙ ap of_bits (next_bits a))

-- both operands' bits, U and M, W and R
abbrev least_bits : List Bool → List Bool
least_bits m = delta_bits (or_bits (and_bits m mask12) (false ∷ false ∷ false ∷ false ∷ and_bits m mask02))

abbrev greatest_bits : List Bool → List Bool
greatest_bits m = delta_bits (or_bits (and_bits m mask24) (false ∷ false ∷ and_bits m mask04))

-- what is kept of both operands' bits, and the lower class moved up to the second level
fixpoint_byte_bits : (kept lower : List Bool) (k : ℕ) (moved : List Bool → List Bool) → ((l : List Bool) → of_bits l * k ≡ of_bits (moved l))
    → (as' bs : List Bool)
    → (let n : ℕ = bit_and (of_bits as') (of_bits bs) in
    let m : List Bool = and_bits as' bs in
    with_delta (bit_or (bit_and n (of_bits kept)) (bit_and n (of_bits lower) * k)) ≡ of_bits (delta_bits (or_bits (and_bits m kept) (moved (and_bits m lower)))))
fixpoint_byte_bits kept lower k moved e as' bs =
    let m : List Bool = and_bits as' bs in
    ap (λ (n : ℕ). with_delta (bit_or (bit_and n (of_bits kept)) (bit_and n (of_bits lower) * k))) (and_of_bits as' bs)
    ∙ ap with_delta
    (ap₂ bit_or (and_of_bits m kept) (ap (λ (n : ℕ). n * k) (and_of_bits m lower) ∙ e (and_bits m lower))
    ∙ or_of_bits (and_bits m kept) (moved (and_bits m lower)))
    ∙ with_delta-bits (or_bits (and_bits m kept) (moved (and_bits m lower)))

least_byte-bits : (as' bs : List Bool) → least_byte (of_bits as') (of_bits bs) ≡ of_bits (least_bits (and_bits as' bs))
unfolding least_byte
least_byte-bits = fixpoint_byte_bits mask12 mask02 16 (λ l. false ∷ false ∷ false ∷ false ∷ l) (λ l. omega arith)

greatest_byte-bits : (as' bs : List Bool) → greatest_byte (of_bits as') (of_bits bs) ≡ of_bits (greatest_bits (and_bits as' bs))
unfolding greatest_byte
greatest_byte-bits = fixpoint_byte_bits mask24 mask04 4 (λ l. false ∷ false ∷ l) (λ l. omega arith)

least_list : (d s p e s' p' f : Bool)
    → least_bits (d ∷ s ∷ p ∷ e ∷ s' ∷ p' ∷ f ∷ [])
    ≡ false ∷ s ∷ false ∷ (s || false || false) ∷ s' ∷ (s || false) ∷ (s' || (s || false) || false) ∷ []
least_list d s p e s' p' f = simp (and-true, and-false, or-false)

greatest_list : (d s p e s' p' f : Bool)
    → greatest_bits (d ∷ s ∷ p ∷ e ∷ s' ∷ p' ∷ f ∷ [])
    ≡ false ∷ false ∷ p ∷ (p || false) ∷ (p || false) ∷ p' ∷ (p || false || p' || false) ∷ []
greatest_list d s p e s' p' f = simp (and-true, and-false, or-false)

-- a set whose test holds of an operator's formula only where it holds of both operands
Splits : Binary → (Formula → Bool) → Type 0
Splits o β = (a b : Formula) → T (β (bin o a b)) → T (β a && β b)

joined : (t p q : Bool) → T t → (t && p && q) ≡ (p && q)
joined true p q h = refl
joined false p q h = absurd h

both_in : (t p q : Bool) → T t → T (p && q) → T (t && p && q)
both_in true p q h k = k
both_in false p q h k = absurd h

-- conjunction and disjunction close every class
module _ (o : Binary) (closed : (c : Closing) → T (closes c o)) where
  closure_both : (β : Formula → Bool) → Splits o β → (c : Closing) (a b : Formula) → in_closure β c (bin o a b) ≡ (in_closure β c a && in_closure β c b)
  unfolding Splits
  closure_both β splits c a b =
      absorb (β (bin o a b)) (closes c o && in_closure β c a && in_closure β c b)
      (λ t.
      let s = (T_and (β a) (β b)).0 (splits a b t) in
      both_in (closes c o) (in_closure β c a) (in_closure β c b) (closed c)
      ((T_and (in_closure β c a) (in_closure β c b)).1 (base_in β c a s.0, base_in β c b s.1)))
      ∙ joined (closes c o) (in_closure β c a) (in_closure β c b) (closed c)

  closure_splits : (β : Formula → Bool) → Splits o β → (c : Closing) → Splits o (in_closure β c)
  unfolding Splits
  closure_splits β splits c a b t = subst T (closure_both β splits c a b) t

  atomic_splits : Splits o is_atomic
  unfolding Splits
  atomic_splits a b t = absurd t

  union_splits : (α β : Formula → Bool) → Splits o α → Splits o β → Splits o (λ φ. α φ || β φ)
  unfolding Splits
  union_splits α β f g a b t = go ((T_or (α (bin o a b)) (β (bin o a b))).0 t)
    where
      go : T (α (bin o a b)) ⊎ T (β (bin o a b)) → T ((α a || β a) && (α b || β b))
      go (inl s) =
          let p = (T_and (α a) (α b)).0 (f a b s) in
          (T_and (α a || β a) (α b || β b)).1 ((T_or (α a) (β a)).1 (inl p.0), (T_or (α b) (β b)).1 (inl p.1))
      go (inr s) =
          let p = (T_and (β a) (β b)).0 (g a b s) in
          (T_and (α a || β a) (α b || β b)).1 ((T_or (α a) (β a)).1 (inr p.0), (T_or (α b) (β b)).1 (inr p.1))

  Δ₀_splits : Splits o in_Δ₀
  Δ₀_splits = closure_splits is_atomic atomic_splits boolean

  Σ₁_splits : Splits o in_Σ₁
  Σ₁_splits = closure_splits in_Δ₀ Δ₀_splits least

  Π₁_splits : Splits o in_Π₁
  Π₁_splits = closure_splits in_Δ₀ Δ₀_splits greatest

  Σ₂_splits : Splits o in_Σ₂
  Σ₂_splits = closure_splits in_Π₁ Π₁_splits least

  Π₂_splits : Splits o in_Π₂
  Π₂_splits = closure_splits in_Σ₁ Σ₁_splits greatest

  boolean-bits : (a b : Formula) → and_bits (bits_of a) (bits_of b) ≡ bits_of (bin o a b)
  boolean-bits a b =
      sym
      (ap₂ ◌∷◌ (closure_both is_atomic atomic_splits boolean a b)
      (ap₂ ◌∷◌ (closure_both in_Δ₀ Δ₀_splits least a b)
      (ap₂ ◌∷◌ (closure_both in_Δ₀ Δ₀_splits greatest a b)
      (ap₂ ◌∷◌ (closure_both (λ φ. in_Σ₁ φ || in_Π₁ φ) (union_splits in_Σ₁ in_Π₁ Σ₁_splits Π₁_splits) boolean a b)
      (ap₂ ◌∷◌ (closure_both in_Π₁ Π₁_splits least a b)
      (ap₂ ◌∷◌ (closure_both in_Σ₁ Σ₁_splits greatest a b)
      (ap₂ ◌∷◌ (closure_both (λ φ. in_Σ₂ φ || in_Π₂ φ) (union_splits in_Σ₂ in_Π₂ Σ₂_splits Π₂_splits) boolean a b)
      refl)))))))

  boolean-byte : (a b : Formula) → class_byte (bin o a b) ≡ bit_and (class_byte a) (class_byte b)
  unfolding class_byte
  boolean-byte a b = sym (and_of_bits (bits_of a) (bits_of b) ∙ ap of_bits (boolean-bits a b))

-- the byte of a fixpoint operator whose bits are those of until, or of weak
fixpoint-byte : (step : List Bool → List Bool) (byte : ℕ → ℕ → ℕ)
    → ((as' bs : List Bool) → byte (of_bits as') (of_bits bs) ≡ of_bits (step (and_bits as' bs)))
    → (o : Binary) (a b : Formula) → step (and_bits (bits_of a) (bits_of b)) ≡ bits_of (bin o a b)
    → class_byte (bin o a b) ≡ byte (class_byte a) (class_byte b)
unfolding class_byte
fixpoint-byte step byte f o a b e = sym (f (bits_of a) (bits_of b) ∙ ap of_bits e)

module _ (a b : Formula) where
  least_both : least_bits (and_bits (bits_of a) (bits_of b)) ≡ bits_of (bin until a b)
  least_both =
      least_list
      (in_Δ₀ a && in_Δ₀ b) (in_Σ₁ a && in_Σ₁ b) (in_Π₁ a && in_Π₁ b) (in_Δ₁ a && in_Δ₁ b) (in_Σ₂ a && in_Σ₂ b) (in_Π₂ a && in_Π₂ b) (in_Δ₂ a && in_Δ₂ b)

  greatest_both : greatest_bits (and_bits (bits_of a) (bits_of b)) ≡ bits_of (bin weak a b)
  greatest_both =
      greatest_list
      (in_Δ₀ a && in_Δ₀ b) (in_Σ₁ a && in_Σ₁ b) (in_Π₁ a && in_Π₁ b) (in_Δ₁ a && in_Δ₁ b) (in_Σ₂ a && in_Σ₂ b) (in_Π₂ a && in_Π₂ b) (in_Δ₂ a && in_Δ₂ b)

pub constant-byte : (b : Bool) → class_byte (const b) ≡ atomic_byte
unfolding class_byte
constant-byte b = refl

pub literal-byte : (b : Bool) (n : ℕ) → class_byte (lit b n) ≡ atomic_byte
unfolding class_byte
literal-byte b n = refl

pub unary_byte_lem : (o : Unary) (a : Formula) → class_byte (un o a) ≡ unary_byte o (class_byte a)
unfolding class_byte
unary_byte_lem next a = next_byte_step a
unary_byte_lem neg a = refl
unary_byte_lem finally a = refl
unary_byte_lem globally a = refl

pub binary_byte_lem : (o : Binary) (a b : Formula) → class_byte (bin o a b) ≡ binary_byte o (class_byte a) (class_byte b)
unfolding class_byte
binary_byte_lem conj a b = boolean-byte conj (λ c. tt) a b
binary_byte_lem disj a b = boolean-byte disj (λ c. tt) a b
binary_byte_lem until a b = fixpoint-byte least_bits least_byte least_byte-bits until a b (least_both a b)
binary_byte_lem weak a b = fixpoint-byte greatest_bits greatest_byte greatest_byte-bits weak a b (greatest_both a b)
binary_byte_lem release a b = fixpoint-byte greatest_bits greatest_byte greatest_byte-bits release a b (greatest_both a b)
binary_byte_lem strong a b = fixpoint-byte least_bits least_byte least_byte-bits strong a b (least_both a b)
binary_byte_lem implies a b = refl
