-- Folding: a folded formula holds where its source does, is in every class that its source is in, has no letters but its source's, stays plain, and
-- has nothing left to fold; and each of its subformulas is the folding of one of its source's.
use Prim.Native.Nat.{ℕ, zero, suc}
use mathlib.Core.Path.{◌≡◌, refl}
use mathlib.Core.Bool.{Bool, true, false, ◌&&◌}
use mathlib.Core.Logic.Iff
use mathlib.Core.Logic.{◌↔◌, ◌⊎◌, inl, inr}
use mathlib.Core.List.{List, [], ◌∷◌}
use lib.ListN.{get_or}
use lib.Dec.{T}
use Rattle.logic.specs.Formula.{Formula, Unary, Binary, const, lit, un, bin, next, neg, finally, globally, conj, disj, until, weak, release, strong, implies}
use Rattle.logic.specs.Lasso.{Word}
use Rattle.logic.specs.Semantics.{Constant, Holds}
use Rattle.logic.specs.Hierarchy.{Closing, Closure, base, step, join, Atomic, constant, literal, Δ₀, Σ₁, Π₁, Σ₂, Π₂, Δ₂, classes, Class}
use Rattle.logic.specs.Letters.{Letters}
use Rattle.logic.specs.NegationNormalForm.{is_plain, plain_unary, plain_binary}
use Rattle.transforms.specs.Subformula as subformula
use Rattle.transforms.specs.Subformula.{Sub}
use Rattle.transforms.specs.Folding as folding
use Rattle.transforms.specs.Folding.{Fold, stands, on_left, on_right, on_operand, by_constant, or_else, pick, fold_unary, fold_binary, fold}
use Rattle.logic.proofs.Tests.{T_and}
use Rattle.logic.proofs.Expansion.{until_next, strong_next, weak_next, release_next}
use Rattle.logic.proofs.Lasso.Driven.{unary_same, binary_same}
use Rattle.transforms.proofs.Normal.PlainFormula.{sub_trans, sub-constant, sub-literal, sub-unary, sub-binary}

-- what is so of a word's operands and of the word is so of whichever is picked
pub picked {ℓ κ} : {A : Type ℓ} (P : A → Type κ) (f : Fold) {a b w : A} → P a → P b → P w → P (pick f a b w)
picked P folding.left p q r = p
picked P folding.right p q r = q
picked P stands p q r = r

module _ (P : Formula → Type 0) where
  pub folded_unary : (o : Unary) {a : Formula} → P a → P (un o a) → P (fold_unary o a)
  unfolding fold_unary
  folded_unary o {a} p r = picked P (by_constant (on_operand o) a) p p r

  pub folded_binary : (o : Binary) {a b : Formula} → P a → P b → P (bin o a b) → P (fold_binary o a b)
  unfolding fold_binary
  folded_binary o {a} {b} p q r = picked P (or_else (by_constant (on_left o) a) (by_constant (on_right o) b)) p q r

-- a word is folded by a constant only
by_constant_lem : (P : Formula → Fold → Type 0) (f : Bool → Fold) → ((a : Formula) → P a stands) → ((c : Bool) → P (const c) (f c)) → (a : Formula) → P a (by_constant f a)
by_constant_lem P f s h (const c) = h c
by_constant_lem P f s h (lit b n) = s (lit b n)
by_constant_lem P f s h (un o a) = s (un o a)
by_constant_lem P f s h (bin o a b) = s (bin o a b)

by_either : (P : Fold → Type 0) (f g : Fold) → P f → P g → P (or_else f g)
by_either P folding.left g p q = p
by_either P folding.right g p q = p
by_either P stands g p q = q

-- each rule of folding keeps the meaning
module _ (σ : Word) (i : ℕ) where
  left_holds : (o : Binary) (c : Bool) (b : Formula) → Holds σ (pick (on_left o c) (const c) b (bin o (const c) b)) i ↔ Holds σ (bin o (const c) b) i
  left_holds conj false b = (λ t. absurd t, λ p. p.0)
  left_holds conj true b = (λ q. (tt, q), λ p. p.1)
  left_holds disj false b = (λ q. inr q, λ p. elim p [ inl t ↦ absurd t | inr q ↦ q ])
  left_holds disj true b = (λ t. inl tt, λ p. tt)
  left_holds until false b =
      (λ q. (until_next (Constant false) (Holds σ b) i).1 (inl q), λ u. elim ((until_next (Constant false) (Holds σ b) i).0 u) [ inl q ↦ q | inr x ↦ absurd x.0 ])
  left_holds until true b = Iff.rfl
  left_holds weak false b =
      (λ q. (weak_next (Constant false) (Holds σ b) i).1 (inl q), λ w. elim ((weak_next (Constant false) (Holds σ b) i).0 w) [ inl q ↦ q | inr x ↦ absurd x.0 ])
  left_holds weak true b = (λ t. inl (λ k h. tt), λ p. tt)
  left_holds release false b = Iff.rfl
  left_holds release true b = (λ q. (release_next (Constant true) (Holds σ b) i).1 (q, inl tt), λ r. ((release_next (Constant true) (Holds σ b) i).0 r).0)
  left_holds strong false b = (λ t. absurd t, λ s. s.2)
  left_holds strong true b = (λ q. (strong_next (Constant true) (Holds σ b) i).1 (q, inl tt), λ s. ((strong_next (Constant true) (Holds σ b) i).0 s).0)
  left_holds implies c b = Iff.rfl

  right_holds : (o : Binary) (a : Formula) (c : Bool) → Holds σ (pick (on_right o c) a (const c) (bin o a (const c))) i ↔ Holds σ (bin o a (const c)) i
  right_holds conj a false = (λ t. absurd t, λ p. p.1)
  right_holds conj a true = (λ q. (q, tt), λ p. p.0)
  right_holds disj a false = (λ q. inl q, λ p. elim p [ inl q ↦ q | inr t ↦ absurd t ])
  right_holds disj a true = (λ t. inr tt, λ p. tt)
  right_holds until a c = (λ t. (until_next (Holds σ a) (Constant c) i).1 (inl t), λ u. u.2)
  right_holds weak a false = Iff.rfl
  right_holds weak a true = (λ t. (weak_next (Holds σ a) (Constant true) i).1 (inl tt), λ p. tt)
  right_holds release a c = (λ t. inl (λ k h. t), λ r. ((release_next (Holds σ a) (Constant c) i).0 r).0)
  right_holds strong a false = (λ t. absurd t, λ s. ((strong_next (Holds σ a) (Constant false) i).0 s).0)
  right_holds strong a true = Iff.rfl
  right_holds implies a c = Iff.rfl

  operand-holds : (o : Unary) (c : Bool) → Holds σ (pick (on_operand o c) (const c) (const c) (un o (const c))) i ↔ Holds σ (un o (const c)) i
  operand-holds next c = Iff.rfl
  operand-holds neg c = Iff.rfl
  operand-holds finally c = Iff.rfl
  operand-holds globally c = Iff.rfl

  fold_unary-holds : (o : Unary) (a : Formula) → Holds σ (fold_unary o a) i ↔ Holds σ (un o a) i
  unfolding fold_unary
  fold_unary-holds o a =
      by_constant_lem (λ x f. Holds σ (pick f x x (un o x)) i ↔ Holds σ (un o x) i) (on_operand o) (λ x. Iff.rfl) (operand-holds o) a

  fold_binary-holds : (o : Binary) (a b : Formula) → Holds σ (fold_binary o a b) i ↔ Holds σ (bin o a b) i
  unfolding fold_binary
  fold_binary-holds o a b =
      by_either (λ f. Holds σ (pick f a b (bin o a b)) i ↔ Holds σ (bin o a b) i) (by_constant (on_left o) a) (by_constant (on_right o) b)
      (by_constant_lem (λ x f. Holds σ (pick f x b (bin o x b)) i ↔ Holds σ (bin o x b) i) (on_left o) (λ x. Iff.rfl) (λ c. left_holds o c b) a)
      (by_constant_lem (λ y f. Holds σ (pick f a y (bin o a y)) i ↔ Holds σ (bin o a y) i) (on_right o) (λ y. Iff.rfl) (right_holds o a) b)

-- over every word and at every position a folded formula holds exactly when its source does
pub fold-holds : (σ : Word) (φ : Formula) (i : ℕ) → Holds σ (fold φ) i ↔ Holds σ φ i
unfolding fold
fold-holds σ (const b) i = Iff.rfl
fold-holds σ (lit b n) i = Iff.rfl
fold-holds σ (un o a) i = Iff.trans (fold_unary-holds σ i o (fold a)) (unary_same o (fold-holds σ a) i)
fold-holds σ (bin o a b) i = Iff.trans (fold_binary-holds σ i o (fold a) (fold b)) (binary_same o (fold-holds σ a) (fold-holds σ b) i)

-- what folding keeps
abbrev Kept : (Formula → Type 0) → Type 0
Kept P = (φ : Formula) → P φ → P (fold φ)

closure_kept : {Base : Formula → Type 0} {c : Closing} → Kept Base → {φ : Formula} → Closure Base c φ → Closure Base c (fold φ)
unfolding fold
closure_kept k {φ} (base p) = base (k φ p)
closure_kept {Base} {c} k (step t p) = let q = closure_kept k p in folded_unary (Closure Base c) next q (step t q)
closure_kept {Base} {c} k (join {o} t p q) =
    let x = closure_kept k p in
    let y = closure_kept k q in
    folded_binary (Closure Base c) o x y (join t x y)

pub fold_closure : {Base : Formula → Type 0} {c : Closing} → Kept Base → Kept (Closure Base c)
fold_closure k φ p = closure_kept k p

fold_atomic : Kept Atomic
unfolding fold
fold_atomic φ constant = constant
fold_atomic φ literal = literal

either_kept : {P Q : Formula → Type 0} → Kept P → Kept Q → Kept (λ φ. P φ ⊎ Q φ)
either_kept k l φ (inl p) = inl (k φ p)
either_kept k l φ (inr q) = inr (l φ q)

fold-Δ₀ : Kept Δ₀
fold-Δ₀ = fold_closure fold_atomic

fold-Σ₁ : Kept Σ₁
fold-Σ₁ = fold_closure fold-Δ₀

fold-Π₁ : Kept Π₁
fold-Π₁ = fold_closure fold-Δ₀

fold-Σ₂ : Kept Σ₂
fold-Σ₂ = fold_closure fold-Π₁

fold-Π₂ : Kept Π₂
fold-Π₂ = fold_closure fold-Σ₁

pub fold-Δ₂ : Kept Δ₂
fold-Δ₂ = fold_closure (either_kept fold-Σ₂ fold-Π₂)

abbrev AllKept : List (Formula → Type 0) → Type 0
AllKept [] = Unit {0}
AllKept (P ∷ Ps) = Kept P × AllKept Ps

kept_at : (Ps : List (Formula → Type 0)) → AllKept Ps → (b : ℕ) → Kept (get_or Ps b (λ φ. ⊥))
kept_at [] k b φ p = absurd p
kept_at (P ∷ Ps) k zero φ p = k.0 φ p
kept_at (P ∷ Ps) k (suc b) φ p = kept_at Ps k.1 b φ p

-- every class that holds a formula holds its folding
pub fold-class : (b : ℕ) (φ : Formula) → Class b φ → Class b (fold φ)
fold-class b =
    kept_at classes (fold-Δ₀, (fold-Σ₁, (fold-Π₁, (fold_closure (either_kept fold-Σ₁ fold-Π₁), (fold-Σ₂, (fold-Π₂, (fold-Δ₂, tt))))))) b

-- what is so of every letter stays so
pub fold-letters : (Q : ℕ → Type 0) (φ : Formula) → Letters Q φ → Letters Q (fold φ)
unfolding fold
fold-letters Q (const b) h = h
fold-letters Q (lit b n) h = h
fold-letters Q (un o a) h = let p = fold-letters Q a h in folded_unary (Letters Q) o p p
fold-letters Q (bin o a b) h =
    let p = fold-letters Q a h.0 in
    let q = fold-letters Q b h.1 in
    folded_binary (Letters Q) o p q (p, q)

-- a plain formula stays plain
pub fold-plain : (φ : Formula) → T (is_plain φ) → T (is_plain (fold φ))
unfolding fold is_plain
fold-plain (const b) t = t
fold-plain (lit b n) t = t
fold-plain (un o a) t =
    let s = (T_and (plain_unary o) (is_plain a)).0 t in
    let p = fold-plain a s.1 in
    folded_unary (λ x. T (is_plain x)) o p ((T_and (plain_unary o) (is_plain (fold a))).1 (s.0, p))
fold-plain (bin o a b) t =
    let s = (T_and (plain_binary o && is_plain a) (is_plain b)).0 t in
    let r = (T_and (plain_binary o) (is_plain a)).0 s.0 in
    let p = fold-plain a r.1 in
    let q = fold-plain b s.1 in
    folded_binary (λ x. T (is_plain x)) o p q ((T_and (plain_binary o && is_plain (fold a)) (is_plain (fold b))).1 ((T_and (plain_binary o) (is_plain (fold a))).1 (r.0, p), q))

-- a word over folded operands is one of them, or stands and is the word
unary-twice : (o : Unary) (a : Formula) → fold a ≡ a → fold (fold_unary o a) ≡ fold_unary o a
unfolding fold fold_unary
unary-twice o a e = go (by_constant (on_operand o) a) refl
  where
    go : (f : Fold) → by_constant (on_operand o) a ≡ f → fold (pick f a a (un o a)) ≡ pick f a a (un o a)
    go folding.left h = e
    go folding.right h = e
    go stands h = rw (e, h)

binary-twice : (o : Binary) (a b : Formula) → fold a ≡ a → fold b ≡ b → fold (fold_binary o a b) ≡ fold_binary o a b
unfolding fold fold_binary
binary-twice o a b d e = go (or_else (by_constant (on_left o) a) (by_constant (on_right o) b)) refl
  where
    go : (f : Fold) → or_else (by_constant (on_left o) a) (by_constant (on_right o) b) ≡ f → fold (pick f a b (bin o a b)) ≡ pick f a b (bin o a b)
    go folding.left h = d
    go folding.right h = e
    go stands h = rw (d, e, h)

-- nothing is left to fold
pub fold-twice : (φ : Formula) → fold (fold φ) ≡ fold φ
unfolding fold
fold-twice (const b) = refl
fold-twice (lit b n) = refl
fold-twice (un o a) = unary-twice o (fold a) (fold-twice a)
fold-twice (bin o a b) = binary-twice o (fold a) (fold b) (fold-twice a) (fold-twice b)

-- a subformula of φ whose folding is ψ
abbrev pub Origin : Formula → Formula → Type 0
Origin φ ψ = (χ : Formula) × Sub χ φ × (fold χ ≡ ψ)

origin_in : {a φ : Formula} (ψ : Formula) → Sub a φ → Origin a ψ → Origin φ ψ
origin_in ψ s g = (g.0, sub_trans g.1 s, g.2)

-- each subformula of a folded formula is the folding of a subformula of its source
pub fold-sub : (φ ψ : Formula) → Sub ψ (fold φ) → Origin φ ψ
unfolding fold fold_unary fold_binary
fold-sub (const b) ψ s = sub-constant (Origin (const b)) (const b, subformula.self, refl) ψ s
fold-sub (lit b n) ψ s = sub-literal (Origin (lit b n)) (lit b n, subformula.self, refl) ψ s
fold-sub (un o a) ψ s = go (by_constant (on_operand o) (fold a)) refl (λ χ r. origin_in χ (subformula.under subformula.self) (fold-sub a χ r)) s
  where
    go : (f : Fold) → by_constant (on_operand o) (fold a) ≡ f → ((χ : Formula) → Sub χ (fold a) → Origin (un o a) χ)
        → Sub ψ (pick f (fold a) (fold a) (un o (fold a))) → Origin (un o a) ψ
    go folding.left h inner r = inner ψ r
    go folding.right h inner r = inner ψ r
    go stands h inner r = sub-unary (Origin (un o a)) (un o a, subformula.self, rw h) inner ψ r
fold-sub (bin o a b) ψ s =
    go (or_else (by_constant (on_left o) (fold a)) (by_constant (on_right o) (fold b))) refl
    (λ χ r. origin_in χ (subformula.left subformula.self) (fold-sub a χ r)) (λ χ r. origin_in χ (subformula.right subformula.self) (fold-sub b χ r)) s
  where
    go : (f : Fold) → or_else (by_constant (on_left o) (fold a)) (by_constant (on_right o) (fold b)) ≡ f
        → ((χ : Formula) → Sub χ (fold a) → Origin (bin o a b) χ) → ((χ : Formula) → Sub χ (fold b) → Origin (bin o a b) χ)
        → Sub ψ (pick f (fold a) (fold b) (bin o (fold a) (fold b))) → Origin (bin o a b) ψ
    go folding.left h first second r = first ψ r
    go folding.right h first second r = second ψ r
    go stands h first second r = sub-binary (Origin (bin o a b)) (bin o a b, subformula.self, rw h) first second ψ r
