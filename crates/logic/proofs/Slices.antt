-- Slices that a loop fills from the first number on with the numbers of another.
use Prim.Native.Nat.{ℕ, suc, ◌+◌, ◌≤◌, ◌<◌}
use native.Mathlib.Omega.{arith}
use mathlib.Core.Path.{◌≡◌, refl, sym, ap, ◌∙◌}
use mathlib.Core.List.{List, ◌++◌, append-nil}
use lib.ListN.{length, get_or, set, take, drop, replicate, length-set}
use lib.Seq.{drop-length, length-take-le, take-suc, drop-cons, append_snoc, set_at}

-- one number more of another list
pub copy_more : (f t : List ℕ) (i : ℕ) → i < length f → i < length t → set (take i f ++ drop i t) i (get_or f i 0) ≡ take (suc i) f ++ drop (suc i) t
copy_more f t i h k =
    ap (λ (l : List ℕ). set (take i f ++ l) i (get_or f i 0)) (drop-cons t i 0 k)
    ∙ set_at (take i f) (get_or t i 0) (drop (suc i) t) (get_or f i 0) i (length-take-le i f (omega arith))
    ∙ sym (append_snoc (take i f) (get_or f i 0) (drop (suc i) t))
    ∙ ap (λ (l : List ℕ). l ++ drop (suc i) t) (sym (take-suc f i 0 h))
