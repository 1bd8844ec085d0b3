-- The classes of the forms: φ[M]Π₁ is in Π₁, φ[N]Σ₁ in Σ₁, φ[M]Σ₂ in Σ₂, and the normal form in Δ₂.
use Prim.Native.Nat.{ℕ}
use mathlib.Core.Bool.{Bool, true, false}
use mathlib.Core.Logic.{◌⊎◌, inl, inr}
use mathlib.Core.Path.{subst}
use mathlib.Core.List.Memᴰ
use mathlib.Core.List.{List, ◌++◌, map, Memᴰ}
use lib.ListN.{length}
use lib.Dec.{T}
use Rattle.logic.specs.Formula.{Formula, Binary, const, lit, bin, conj, disj, until, weak, release, strong, implies, F, G}
use Rattle.logic.specs.Hierarchy.{base, Δ₀, Σ₁, Π₁, Σ₂, Π₂, Δ₂}
use Rattle.logic.specs.Hierarchy.{step as next-closed, join as closed, constant as constant-atomic, literal as literal-atomic}
use Rattle.logic.specs.NegationNormalForm.{plain_binary}
use Rattle.transforms.specs.Rewriting.{steady_op, steady, recurring_op, recurring, opening_op, opening}
use Rattle.transforms.specs.NormalForm.{least_of, greatest_of, part, choices, normal_form}
use Rattle.transforms.proofs.Normal.Junctions.{conjunction_closed, disjoin_closed}
use Rattle.transforms.proofs.Normal.Parts.{in_m, in_n, infinitelies, almosts, mem_least_of, mem_greatest_of}
use Rattle.transforms.proofs.Normal.PlainFormula.{Plain, plain_induction}

-- constants and letters, in the closure of any class that has class zero
constant-Δ₀ : (c : Bool) → Δ₀ (const c)
constant-Δ₀ c = base constant-atomic

literal-Δ₀ : (c : Bool) (n : ℕ) → Δ₀ (lit c n)
literal-Δ₀ c n = base literal-atomic

-- F and G
F-Σ₁ : {a : Formula} → Σ₁ a → Σ₁ (F a)
F-Σ₁ p = closed tt (base (constant-Δ₀ true)) p

G-Π₁ : {a : Formula} → Π₁ a → Π₁ (G a)
G-Π₁ p = closed tt (base (constant-Δ₀ false)) p

F-Σ₂ : {a : Formula} → Σ₂ a → Σ₂ (F a)
F-Σ₂ p = closed tt (base (base (constant-Δ₀ true))) p

G-Π₂ : {a : Formula} → Π₂ a → Π₂ (G a)
G-Π₂ p = closed tt (base (base (constant-Δ₀ false))) p

steady_op-Π₁ : (m : Bool) (o : Binary) {a b : Formula} → T (plain_binary o) → Π₁ a → Π₁ b → Π₁ (steady_op m o a b)
steady_op-Π₁ m conj t p q = closed tt p q
steady_op-Π₁ m disj t p q = closed tt p q
steady_op-Π₁ true until t p q = closed tt p q
steady_op-Π₁ false until t p q = base (constant-Δ₀ false)
steady_op-Π₁ m weak t p q = closed tt p q
steady_op-Π₁ m release t p q = closed tt p q
steady_op-Π₁ true strong t p q = closed tt p q
steady_op-Π₁ false strong t p q = base (constant-Δ₀ false)
steady_op-Π₁ m implies t p q = absurd t

pub steady-Π₁ : (M : Formula → Bool) {φ : Formula} → Plain φ → Π₁ (steady M φ)
unfolding steady
steady-Π₁ M p =
    plain_induction (λ φ. Π₁ (steady M φ)) (λ c. base (constant-Δ₀ c)) (λ c n. base (literal-Δ₀ c n)) (λ a x. next-closed tt x) p
    (λ o a b s t p q x y. steady_op-Π₁ (M (bin o a b)) o t x y)

recurring_op-Σ₁ : (n : Bool) (o : Binary) {a b : Formula} → T (plain_binary o) → Σ₁ a → Σ₁ b → Σ₁ (recurring_op n o a b)
recurring_op-Σ₁ n conj t p q = closed tt p q
recurring_op-Σ₁ n disj t p q = closed tt p q
recurring_op-Σ₁ n until t p q = closed tt p q
recurring_op-Σ₁ true weak t p q = base (constant-Δ₀ true)
recurring_op-Σ₁ false weak t p q = closed tt p q
recurring_op-Σ₁ true release t p q = base (constant-Δ₀ true)
recurring_op-Σ₁ false release t p q = closed tt p q
recurring_op-Σ₁ n strong t p q = closed tt p q
recurring_op-Σ₁ n implies t p q = absurd t

pub recurring-Σ₁ : (N : Formula → Bool) {φ : Formula} → Plain φ → Σ₁ (recurring N φ)
unfolding recurring
recurring-Σ₁ N p =
    plain_induction (λ φ. Σ₁ (recurring N φ)) (λ c. base (constant-Δ₀ c)) (λ c n. base (literal-Δ₀ c n)) (λ a x. next-closed tt x) p
    (λ o a b s t p q x y. recurring_op-Σ₁ (N (bin o a b)) o t x y)

opening_op-Σ₂ : (o : Binary) {a b a' b' : Formula} → T (plain_binary o) → Σ₂ a → Σ₂ b → Π₁ a' → Π₁ b' → Σ₂ (opening_op o a b a' b')
opening_op-Σ₂ conj t p q p' q' = closed tt p q
opening_op-Σ₂ disj t p q p' q' = closed tt p q
opening_op-Σ₂ until t p q p' q' = closed tt p q
opening_op-Σ₂ weak t p q p' q' = closed tt p (closed tt q (base (G-Π₁ p')))
opening_op-Σ₂ release t p q p' q' = closed tt (closed tt p (base (G-Π₁ q'))) q
opening_op-Σ₂ strong t p q p' q' = closed tt p q
opening_op-Σ₂ implies t p q p' q' = absurd t

pub opening-Σ₂ : (M : Formula → Bool) {φ : Formula} → Plain φ → Σ₂ (opening M φ)
unfolding opening
opening-Σ₂ M p =
    plain_induction (λ φ. Σ₂ (opening M φ)) (λ c. base (base (constant-Δ₀ c))) (λ c n. base (base (literal-Δ₀ c n))) (λ a x. next-closed tt x) p
    (λ o a b s t p q x y. opening_op-Σ₂ o t x y (steady-Π₁ M p) (steady-Π₁ M q))

module _ (ψs : List Formula) {φ : Formula} (plain : Plain φ) (plains : (ψ : Formula) → Memᴰ ψ ψs → Plain ψ) where
  conjunct_Δ₂ : (c : ℕ) (θ : Formula) → Memᴰ θ (infinitelies ψs c) ⊎ Memᴰ θ (almosts ψs c) → Δ₂ θ
  conjunct_Δ₂ c θ (inl m) =
      let k = Memᴰ.of_map (λ ψ. G (F (recurring (in_n ψs c) ψ))) (least_of ψs c) m in
      subst Δ₂ k.2 (base (inr (G-Π₂ (base (F-Σ₁ (recurring-Σ₁ (in_n ψs c) (plains k.0 (mem_least_of ψs c k.1).0)))))))
  conjunct_Δ₂ c θ (inr m) =
      let k = Memᴰ.of_map (λ ψ. F (G (steady (in_m ψs c) ψ))) (greatest_of ψs c) m in
      subst Δ₂ k.2 (base (inl (F-Σ₂ (base (G-Π₁ (steady-Π₁ (in_m ψs c) (plains k.0 (mem_greatest_of ψs c k.1).0)))))))

  pub part_Δ₂ : (c : ℕ) → Δ₂ (part ψs φ c)
  unfolding part
  part_Δ₂ c =
      conjunction_closed (infinitelies ψs c ++ almosts ψs c) (base (inl (opening-Σ₂ (in_m ψs c) plain)))
      (λ θ m. conjunct_Δ₂ c θ (Memᴰ.append_cases (infinitelies ψs c) m))

  pub normal_form-Δ₂ : Δ₂ (normal_form ψs φ)
  unfolding normal_form
  normal_form-Δ₂ =
      disjoin_closed (map (part ψs φ) (choices (length ψs))) (base (inl (base (base (constant-Δ₀ false)))))
      (λ θ m.
      let k = Memᴰ.of_map (part ψs φ) (choices (length ψs)) m in
      subst Δ₂ k.2 (part_Δ₂ k.0))
