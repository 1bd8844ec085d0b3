-- What building a formula needs next may be built first: what building the whole ends in stays the same.
use Prim.Native.Nat.{ℕ}
use mathlib.Core.Path.{◌≡◌, sym, ap, ◌∙◌}
use mathlib.Core.List.{List}
use Rattle.logic.specs.Formula.{Formula, Unary, Binary, un, bin}
use Rattle.table.specs.Node.{pack, unary_kind, binary_kind}
use Rattle.table.specs.Numbering.{Placed, put, build}
use Rattle.numbering.specs.Held.{Distinct, Held}
use Rattle.numbering.proofs.Building.{Grows, build-un, build-bin, build-grows, build_held, build-distinct, held_build, held_grows}

-- with t built, c is what building φ needs next, or is on the way to it
pub data Next (t : List ℕ) : Formula → Formula → Type 0 where
  here : {φ : Formula} → Next t φ φ
  under : {o : Unary} {a c : Formula} → Next t a c → Next t (un o a) c
  first : {o : Binary} {a b c : Formula} → Next t a c → Next t (bin o a b) c
  second : {o : Binary} {a b c : Formula} (n : ℕ) → Held t a n → Next t b c → Next t (bin o a b) c

pub next_then : {t : List ℕ} {φ ψ c : Formula} → Next t φ ψ → Next t ψ c → Next t φ c
next_then here m = m
next_then (under k) m = under (next_then k m)
next_then (first k) m = first (next_then k m)
next_then (second n h k) m = second n h (next_then k m)

pub next_grows : {t s : List ℕ} {φ c : Formula} → Grows t s → Next t φ c → Next s φ c
next_grows g here = here
next_grows g (under k) = under (next_grows g k)
next_grows g (first k) = first (next_grows g k)
next_grows g (second {a = a} n h k) = second n (held_grows a n g h) (next_grows g k)

-- the words of the operators, after those of their operands
abbrev over : ℕ → ℕ → Placed → Placed
over k l p = put p.table (pack k l p.number)

pub build_next : (t : List ℕ) {φ c : Formula} → Distinct t → Next t φ c → build (build t c).table φ ≡ build t φ
build_next t {φ} d here = held_build (build t φ).table φ (build t φ).number (build-distinct t φ d) (build_held t φ)
build_next t d (under {o = o} {a = a} k) = build-un _ o a ∙ ap (over (unary_kind o) 0) (build_next t d k) ∙ sym (build-un t o a)
build_next t d (first {o = o} {a = a} {b = b} k) =
    build-bin _ o a b
    ∙ ap (λ (p : Placed). over (binary_kind o) p.number (build p.table b)) (build_next t d k)
    ∙ sym (build-bin t o a b)
build_next t {c = c} d (second {o = o} {a = a} {b = b} n h k) =
    let s = (build t c).table in
    rw (build-bin s o a b, build-bin t o a b, held_build s a n (build-distinct t c d) (held_grows a n (build-grows t c) h), held_build t a n d h)
    (ap (over (binary_kind o) n) (build_next t d k))
