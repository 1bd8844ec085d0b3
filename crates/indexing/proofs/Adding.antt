-- One word more in an index.
use Prim.Native.Nat.{ℕ, suc, ◌+◌, ◌≤◌, ◌<◌}
use mathlib.Core.Path.{◌≡◌, refl, sym, ◌∙◌}
use mathlib.Core.Bool.{Bool, true, false, cond}
use mathlib.Core.List.{List, [], ◌∷◌, ◌++◌}
use mathlib.Core.Logic.{◌⊎◌, inl, inr}
use native.Mathlib.Omega.{arith}
use native.Mathlib.Nat.{eq-or-lt_of_le}
use native.Mathlib.Numerals.{add-one}
use lib.ListN.{length, get_or, take, set, length-set, length-append, get_or-append}
use lib.Seq.{take-append-le, take-append_seam, get_or-append_seam, get_or-set_same, get_or-set_other}
use lib.Dec.{eqb}
use borrow.Author.Tests.{eqb-true, eqb-false}
use Rattle.lookup.specs.Index.{bucket_of, latest, half_of, Indexed}
use Rattle.lookup.proofs.Laws.{bucket_lt, latest_snoc}

module _ (t index : List ℕ) (w : ℕ) (e : Indexed t index) (more : suc (length t) < half_of index) where
  abbrev head : ℕ
  head = half_of index + bucket_of (half_of index) w

  head_within : head < length index
  head_within = omega (arith, bucket_lt (half_of index) w (omega arith))

  abbrev chained : List ℕ
  chained = set index (suc (length t)) (get_or index head 0)

  abbrev headed : List ℕ
  headed = set chained head (suc (length t))

  abbrev counted : List ℕ
  counted = set headed 0 (suc (length t))

  long : length counted ≡ length index
  long = simp length-set

  one_more : length (t ++ (w ∷ [])) ≡ suc (length t)
  one_more = length-append t (w ∷ []) ∙ add-one (length t)

  heads_case : (b : ℕ) → b < half_of index → (y : Bool) → eqb (bucket_of (half_of index) w) b ≡ y → get_or headed (half_of index + b) 0 ≡ cond y (suc (length t)) (latest (half_of index) t b)
  heads_case b p true i = rw (← eqb-true _ b i) (get_or-set_same chained head _ 0 (rw length-set head_within))
  heads_case b p false i =
      get_or-set_other chained head (half_of index + b) _ 0 (λ j. eqb-false (bucket_of (half_of index) w) b i (omega arith))
      ∙ get_or-set_other index (suc (length t)) (half_of index + b) _ 0 (λ j. omega arith)
      ∙ e.heads_at b p

  chain_case : (n : ℕ) → (n ≡ length t) ⊎ (n < length t) → get_or chained (suc n) 0 ≡ latest (half_of index) (take n (t ++ (w ∷ []))) (bucket_of (half_of index) (get_or (t ++ (w ∷ [])) n 0))
  chain_case n (inl i) =
      rw (i, get_or-set_same index (suc (length t)) (get_or index head 0) 0 (omega arith), take-append_seam t (w ∷ []), get_or-append_seam t w [] 0)
      (e.heads_at (bucket_of (half_of index) w) (bucket_lt (half_of index) w (omega arith)))
  chain_case n (inr i) =
      rw (take-append-le n t (w ∷ []) (omega arith), get_or-append t (w ∷ []) 0 n)
      (get_or-set_other index (suc (length t)) (suc n) _ 0 (λ j. omega arith) ∙ e.chain_at n i)

  pub indexed_more : Indexed (t ++ (w ∷ [])) counted
  indexed_more =
      record {
        count_at = get_or-set_same headed 0 _ 0 (simp length-set (omega arith)) ∙ sym one_more;
        room = rw (long, one_more) more;
        small = rw long e.small;
        heads_at = λ b p. rw (long, latest_snoc) (get_or-set_other headed 0 (half_of index + b) _ 0 (λ j. omega arith) ∙ heads_case b (rw long at p) (eqb (bucket_of (half_of index) w) b) refl);
        chain_at =
            λ n p.
            let below : n ≤ length t = omega (arith, one_more) in
            rw long (get_or-set_other headed 0 (suc n) _ 0 (λ j. omega arith) ∙ get_or-set_other chained head (suc n) _ 0 (λ j. omega arith) ∙ chain_case n (eq-or-lt_of_le below));
      }
