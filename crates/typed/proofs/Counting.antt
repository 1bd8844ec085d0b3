-- How many bytes the text of a word has, from those of its operands.
use Prim.Native.Nat.{ℕ, zero, suc, ◌+◌, ◌<◌, ◌^◌, min}
use mathlib.Core.Path.{◌≡◌, refl, ap, sym, ◌∙◌}
use mathlib.Core.Bool.{false}
use mathlib.Core.List.{List, [], ◌∷◌, ◌++◌, map, map-append}
use native.Mathlib.Omega.{arith}
use lib.ListN.{length, get_or, take, set, length-append, get_or-map}
use lib.Seq.{take-suc, take-suc-set}
use Rattle.logic.specs.Formula.{Formula, const}
use Rattle.logic.proofs.Numbers.{in_range}
use Rattle.table.specs.Node.{kind, left, right, shape}
use Rattle.table.specs.Table.{formula_of, formula_by, word_formula, formulas}
use Rattle.table.proofs.Fields.{kind_lt}
use Rattle.table.proofs.Formulas.{formula_at}
use Rattle.layouts.specs.Layout.{layout_of}
use Rattle.layouts.specs.declared.Layout.{Layout}
use Rattle.layouts.specs.declared.Layout.TheVariants.{Constant, Letter, Unary, Binary}
use Rattle.grammar.specs.Grammar.{decimal}
use Rattle.typed.specs.Typed.{typed, most, counted, owns, layout_bytes, word_bytes, earlier}

-- a word of kind k has so many bytes
abbrev Long : ℕ → Type 0
Long k = (n : ℕ) (φ ψ : Formula) → length (typed (formula_by (shape k) n φ ψ))
    ≡ layout_bytes (layout_of (shape k)) (get_or owns k 0) (length (decimal n)) (length (typed φ)) (length (typed ψ))

joined_long : (a s b : List ℕ) → length ((40 ∷ []) ++ (a ++ (32 ∷ s ++ (32 ∷ b ++ (41 ∷ []))))) ≡ 4 + length s + length a + length b
joined_long a s b =
    omega (arith, length-append a (32 ∷ s ++ (32 ∷ b ++ (41 ∷ []))), length-append s (32 ∷ b ++ (41 ∷ [])), length-append b (41 ∷ []))

prefixed_long : (x : ℕ) (b : List ℕ) → length ((x ∷ []) ++ b) ≡ 1 + length b
prefixed_long x b = omega arith

all_long : (k : ℕ) → k < 16 → Long k
unfolding typed shape
all_long k h =
    in_range Long 0 15 k (omega arith) (omega arith) (
      λ n φ ψ. refl,
      (
        λ n φ ψ. refl,
        (
          λ n φ ψ. refl,
          (
            λ n φ ψ. prefixed_long 112 (decimal n),
            (
              λ n φ ψ. omega (arith, prefixed_long 112 (decimal n)),
              (
                λ n φ ψ. joined_long (typed φ) (38 ∷ []) (typed ψ),
                (
                  λ n φ ψ. joined_long (typed φ) (124 ∷ []) (typed ψ),
                  (
                    λ n φ ψ. prefixed_long 88 (typed ψ),
                    (
                      λ n φ ψ. joined_long (typed φ) (85 ∷ []) (typed ψ),
                      (
                        λ n φ ψ. joined_long (typed φ) (87 ∷ []) (typed ψ),
                        (
                          λ n φ ψ. joined_long (typed φ) (82 ∷ []) (typed ψ),
                          (
                            λ n φ ψ. joined_long (typed φ) (77 ∷ []) (typed ψ),
                            (
                              λ n φ ψ. prefixed_long 33 (typed ψ),
                              (
                                λ n φ ψ. prefixed_long 70 (typed ψ),
                                (
                                  λ n φ ψ. prefixed_long 71 (typed ψ),
                                  λ n φ ψ. joined_long (typed φ) (45 ∷ 62 ∷ []) (typed ψ),
                                ),
                              ),
                            ),
                          ),
                        ),
                      ),
                    ),
                  ),
                ),
              ),
            ),
          ),
        ),
      ),
    )

-- what is counted up to the limit is enough to count on up to it
saturated : (s : Layout) (o d a b : ℕ) → min most (layout_bytes s o d (min most a) (min most b)) ≡ min most (layout_bytes s o d a b)
saturated Constant o d a b = refl
saturated Letter o d a b = refl
saturated Unary o d a b = omega arith
saturated Binary o d a b = omega arith

-- by what the code looks up
pub bytes_by : (w k : ℕ) (s : Layout) (o a b v : ℕ) → k ≡ kind w → s ≡ layout_of (shape k) → o ≡ get_or owns k 0
    → v ≡ min most (layout_bytes s o (length (decimal (right w))) a b) → v ≡ word_bytes w a b
unfolding word_bytes
bytes_by w k s o a b v ek es eo e = rw (← ek, ← es, ← eo) e

word-counted : (w a b : ℕ) → kind w < 16 → (φ ψ : Formula) → a ≡ counted φ → b ≡ counted ψ → word_bytes w a b ≡ counted (formula_by (shape (kind w)) (right w) φ ψ)
unfolding word_bytes
word-counted w a b h φ ψ ea eb =
    rw (ea, eb, all_long (kind w) h (right w) φ ψ)
    (saturated (layout_of (shape (kind w))) (get_or owns (kind w) 0) (length (decimal (right w))) (length (typed φ)) (length (typed ψ)))

-- an operand's count, from those of the words before
operand-counted : (φs : List Formula) (n : ℕ) → earlier (map counted φs) n ≡ counted (formula_of φs n)
unfolding formula_of typed
operand-counted φs zero = refl
operand-counted φs (suc i) = get_or-map counted φs i (const false)

-- the count of the word at j, after those before it
pub next_counted : (t sizes : List ℕ) (j a b : ℕ) → j < length t → get_or t j 0 < 2 ^ 32 → take j sizes ≡ map counted (take j (formulas t))
    → a ≡ earlier (take j sizes) (left (get_or t j 0)) → b ≡ earlier (take j sizes) (right (get_or t j 0))
    → word_bytes (get_or t j 0) a b ≡ counted (get_or (formulas t) j (const false))
unfolding word_formula
next_counted t sizes j a b h fits e ea eb =
    let φs : List Formula = take j (formulas t) in
    let w : ℕ = get_or t j 0 in
    let operand : (n : ℕ) → earlier (take j sizes) n ≡ counted (formula_of φs n) = λ n. rw e (operand-counted φs n) in
    word-counted w a b (kind_lt w fits) (formula_of φs (left w)) (formula_of φs (right w)) (ea ∙ operand (left w)) (eb ∙ operand (right w))
    ∙ ap counted (sym (formula_at t j h))

-- one more count in its place
pub more_counted : (φs : List Formula) (sizes : List ℕ) (i v : ℕ) → i < length φs → i < length sizes → take i sizes ≡ map counted (take i φs)
    → v ≡ counted (get_or φs i (const false)) → take (suc i) (set sizes i v) ≡ map counted (take (suc i) φs)
more_counted φs sizes i v h k e c =
    rw (take-suc-set sizes i v k, e, take-suc φs i (const false) h, c) (sym (map-append counted (take i φs) (get_or φs i (const false) ∷ [])))
