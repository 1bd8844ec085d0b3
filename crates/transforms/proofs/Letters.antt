-- What is asked of a formula's letters goes over to its subformulas and to its negation normal form, and to whatever follows from it.
use Prim.Native.Nat.{ℕ}
use mathlib.Core.Bool.{Bool, not}
use Rattle.logic.specs.Formula.{Formula, const, lit, un, bin, next, neg, finally, globally, conj, disj, until, weak, release, strong, implies}
use Rattle.logic.specs.Letters.{Letters}
use Rattle.logic.specs.NegationNormalForm.{plain}
use Rattle.transforms.specs.Subformula as subformula
use Rattle.transforms.specs.Subformula.{Sub}

pub letters-map : {P Q : ℕ → Type 0} → ((n : ℕ) → P n → Q n) → (φ : Formula) → Letters P φ → Letters Q φ
letters-map f (const b) h = tt
letters-map f (lit b n) h = f n h
letters-map f (un o a) h = letters-map f a h
letters-map f (bin o a b) h = (letters-map f a h.0, letters-map f b h.1)

module _ (Q : ℕ → Type 0) where
  pub letters-sub : {ψ φ : Formula} → Sub ψ φ → Letters Q φ → Letters Q ψ
  letters-sub subformula.self l = l
  letters-sub (subformula.under s) l = letters-sub s l
  letters-sub (subformula.left s) l = letters-sub s l.0
  letters-sub (subformula.right s) l = letters-sub s l.1

  pub letters-plain : (p : Bool) (φ : Formula) → Letters Q φ → Letters Q (plain p φ)
  unfolding plain
  letters-plain p (const b) h = tt
  letters-plain p (lit b n) h = h
  letters-plain p (un next a) h = letters-plain p a h
  letters-plain p (un neg a) h = letters-plain (not p) a h
  letters-plain p (un finally a) h = (tt, letters-plain p a h)
  letters-plain p (un globally a) h = (tt, letters-plain p a h)
  letters-plain p (bin conj a b) h = (letters-plain p a h.0, letters-plain p b h.1)
  letters-plain p (bin disj a b) h = (letters-plain p a h.0, letters-plain p b h.1)
  letters-plain p (bin until a b) h = (letters-plain p a h.0, letters-plain p b h.1)
  letters-plain p (bin weak a b) h = (letters-plain p a h.0, letters-plain p b h.1)
  letters-plain p (bin release a b) h = (letters-plain p a h.0, letters-plain p b h.1)
  letters-plain p (bin strong a b) h = (letters-plain p a h.0, letters-plain p b h.1)
  letters-plain p (bin implies a b) h = (letters-plain (not p) a h.0, letters-plain p b h.1)
