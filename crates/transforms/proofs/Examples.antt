-- Class bytes of formulas that source 002 and document 01 speak of: one table, and one law that turns a computed test into each row; and what
-- document 02, N8 folds, a row a phrase, with what it leaves.
use Prim.Native.Nat.{ℕ, ◌<◌}
use mathlib.Core.Path.{◌≡◌, refl}
use mathlib.Core.Bool.{Bool, true, false}
use mathlib.Core.List.{List, [], ◌∷◌}
use lib.ListN.{length, get_or}
use lib.Dec.{T, eqb, eqb→eq}
use Rattle.logic.specs.Formula.{Formula, const, lit, un, bin, next, neg, conj, disj, until, weak, release, strong, F, G}
use Rattle.logic.specs.ClassByte.{class_byte}
use Rattle.transforms.specs.Folding.{fold_unary, fold_binary, fold}
use Rattle.logic.proofs.Tests.{all_pass, pass_at}

-- a formula and its class byte
record Row : Type 0 where
  formula : Formula
  byte : ℕ

abbrev row : Formula → ℕ → Row
row φ b = record { formula = φ; byte = b }

abbrev a : Formula
a = lit true 1

abbrev b : Formula
b = lit true 2

abbrev c : Formula
c = lit true 3

abbrev rows : List Row
rows =
    row (const true) 0x7F
    ∷ row (lit false 1) 0x7F
    ∷ row (bin conj a b) 0x7F
    ∷ row (un next a) 0x7E
    -- U and M are in Σ₁, W and R in Π₁
    ∷ row (bin until a b) 0x7A
    ∷ row (bin strong a b) 0x7A
    ∷ row (bin weak a b) 0x7C
    ∷ row (bin release a b) 0x7C
    -- Example 7, G a or (b U c), in Δ₁
    ∷ row (bin disj (G a) (bin until b c)) 0x78
    -- X does not lead out of Σ₁ or Π₁, and Δ₁ is not closed under it
    ∷ row (un next (bin until a b)) 0x7A
    ∷ row (un next (bin disj (G a) (bin until b c))) 0x70
    ∷ row (F (G a)) 0x50
    ∷ row (G (F a)) 0x60
    ∷ row (bin conj (F (G a)) (G (F b))) 0x40
    -- Example 9, F (a and G (b or F c)), in Σ₃
    ∷ row (F (bin conj a (G (bin disj b (F c))))) 0x00
    -- a word that is not plain is in no class
    ∷ row (un neg a) 0x00
    ∷ []

right : Row → Bool
right r = eqb (class_byte r.formula) r.byte

Right : Row → Type 0
Right r = class_byte r.formula ≡ r.byte

every : T (all_pass right rows)
unfolding all_pass right class_byte
every = tt

class-examples : (i : ℕ) → i < length rows → (d : Row) → class_byte (get_or rows i d).formula ≡ (get_or rows i d).byte
unfolding Right right
class-examples = pass_at right Right (λ r. eqb→eq _ _) rows every

-- formulas, each with its folding
abbrev Folds : List (Formula × Formula) → Type 0
Folds [] = Unit {0}
Folds (r ∷ rs) = (fold r.0 ≡ r.1) × Folds rs

abbrev top : Formula
top = const true

abbrev bottom : Formula
bottom = const false

fold-examples : Folds (
    -- and, or with a constant
    (bin conj bottom a, bottom)
    ∷ (bin conj a top, a)
    ∷ (bin disj bottom a, a)
    ∷ (bin disj a top, top)
    -- X of a constant
    ∷ (un next top, top)
    -- U and R with a constant on the right
    ∷ (bin until a bottom, bottom)
    ∷ (bin until a top, top)
    ∷ (bin release a bottom, bottom)
    ∷ (bin release a top, top)
    -- false U b, true R b
    ∷ (bin until bottom b, b)
    ∷ (bin release top b, b)
    -- true W b, a W true, false W b
    ∷ (bin weak top b, top)
    ∷ (bin weak a top, top)
    ∷ (bin weak bottom b, b)
    -- a M false, false M b, true M b
    ∷ (bin strong a bottom, bottom)
    ∷ (bin strong bottom b, bottom)
    ∷ (bin strong top b, b)
    -- from the leaves upward; and the opening form of G p1
    ∷ (bin disj (un next (bin until a (bin conj b bottom))) c, c)
    ∷ (bin strong (bin disj bottom (G a)) a, bin strong (G a) a)
    -- what stands: F and G, a W false, a M true
    ∷ (F a, F a)
    ∷ (G a, G a)
    ∷ (bin weak a bottom, bin weak a bottom)
    ∷ (bin strong a top, bin strong a top)
    ∷ []
    )
unfolding fold fold_unary fold_binary
fold-examples =
    (refl, (refl, (refl, (refl, (refl, (refl, (refl, (refl, (refl, (refl, (refl, (refl, (refl, (refl, (refl, (refl, (refl, (refl, (refl, (refl, (refl, (refl, (refl, tt)))))))))))))))))))))))
