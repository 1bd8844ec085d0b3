-- The laws of the chains: what the latest word of a bucket is, an index of no words, and what a search has found.
use Prim.Native.Nat.{ℕ, zero, suc, ◌+◌, ◌-◌, ◌*◌, ◌^◌, ◌≤◌, ◌<◌}
use mathlib.Core.Path.{◌≡◌, refl, sym, ap, ◌∙◌}
use mathlib.Core.Bool.{Bool, true, false, cond}
use mathlib.Core.List.{List, [], ◌∷◌, ◌++◌}
use mathlib.Core.Logic.{⊎_elim}
use native.Mathlib.Omega.{arith}
use native.Mathlib.Nat.{add-suc, suc-add, add-zero, zero-add, eq-or-lt_of_le, le_of_suc-le-suc, le_refl, div-lt_iff_lt-mul, mul-lt-mul_of_pos_right, mul-le-mul_right, le_of_lt, mul_comm}
use native.Mathlib.Numerals.{sub-one}
use lib.ListN.{length, get_or, take, replicate, length-replicate}
use lib.Seq.{length-take-le, take-suc, take-length}
use lib.Dec.{eqb}
use borrow.Author.Tests.{eqb-true, eqb-false}
use Rattle.logic.proofs.Numbers.{lt_or_le, get_or-zeros}
use Rattle.std.specs.Prelude.{Option, Some, None}
use Rattle.std.specs.Option.{is_some}
use Rattle.table.specs.Answers.{OrNone}
use Rattle.table.specs.Checks.{occurs}
use Rattle.table.proofs.Accepted.{none_occurs, occurs_at}
use Rattle.lookup.specs.Index.{hash_of, bucket_of, latest_after, latest, half_of, Indexed, Found}

pub hash_lt : (w : ℕ) → hash_of w < 2 ^ 32
unfolding hash_of
hash_lt w = omega arith

-- a part of 2 ^ 32, of half
pub part_le : (half w : ℕ) → hash_of w * half ≤ half * 2 ^ 32
part_le half w = rw (mul_comm half (2 ^ 32)) (mul-le-mul_right half (le_of_lt (hash_lt w)))

pub bucket_lt : (half w : ℕ) → 0 < half → bucket_of half w < half
unfolding bucket_of
bucket_lt half w p =
    (div-lt_iff_lt-mul {k = 2 ^ 32} (omega arith)).1 (rw (mul_comm half (2 ^ 32)) (mul-lt-mul_of_pos_right (hash_lt w) p))

latest_after_snoc : (half f n : ℕ) (t : List ℕ) (w b : ℕ) → latest_after half f n (t ++ (w ∷ [])) b ≡ cond (eqb (bucket_of half w) b) (suc (n + length t)) (latest_after half f n t b)
unfolding latest_after
latest_after_snoc half f n [] w b = simp add-zero
latest_after_snoc half f n (v ∷ t) w b = latest_after_snoc half (cond (eqb (bucket_of half v) b) (suc n) f) (suc n) t w b ∙ rw (suc-add, ← add-suc n (length t))

latest_none : (half b : ℕ) → latest half [] b ≡ 0
unfolding latest latest_after
latest_none half b = refl

pub latest_snoc : (half : ℕ) (t : List ℕ) (w b : ℕ) → latest half (t ++ (w ∷ [])) b ≡ cond (eqb (bucket_of half w) b) (suc (length t)) (latest half t b)
unfolding latest
latest_snoc half t w b = latest_after_snoc half 0 0 t w b ∙ rw zero-add

-- r is the number of the last of the first m words of t that is in bucket b, or 0
pub record Latest (half : ℕ) (t : List ℕ) (m b r : ℕ) : Type 0 where
  pub within : r ≤ m
  pub same : 0 < r → bucket_of half (get_or t (r - 1) 0) ≡ b
  pub last : (k : ℕ) → r ≤ k → k < m → bucket_of half (get_or t k 0) ≡ b → ⊥

latest_step : (half : ℕ) (t : List ℕ) (b m r : ℕ) → Latest half t m b r → (y : Bool) → eqb (bucket_of half (get_or t m 0)) b ≡ y → Latest half t (suc m) b (cond y (suc m) r)
latest_step half t b m r l true e =
    record {
      within = omega arith;
      same = λ p. rw sub-one (eqb-true _ _ e);
      last = λ k p q s. omega arith;
    }
latest_step half t b m r l false e =
    record {
      within = omega arith;
      same = l.same;
      last = λ k p q s. ⊎_elim (λ i. eqb-false _ _ e (rw i at s)) (λ i. l.last k p i s) (eq-or-lt_of_le (le_of_suc-le-suc q));
    }

latest_of : (half : ℕ) (t : List ℕ) (b m : ℕ) → m ≤ length t → Latest half t m b (latest half (take m t) b)
latest_of half t b zero p = rw latest_none (record { within = omega arith; same = λ q. absurd (omega arith); last = λ k q l s. omega arith })
latest_of half t b (suc m) p =
    rw (take-suc t m 0 p, latest_snoc, length-take-le m t (omega arith))
    (latest_step half t b m _ (latest_of half t b m (omega arith)) (eqb (bucket_of half (get_or t m 0)) b) refl)

-- an index of no words: zeros
pub indexed_none : (n : ℕ) → 2 ≤ n → n ≤ 32768 → Indexed [] (replicate n 0)
indexed_none n p q =
    let zeros : List ℕ = replicate n 0 in
    let long : length zeros ≡ n = length-replicate n 0 in
    record {
      count_at = get_or-zeros n 0;
      room = omega arith;
      small = omega arith;
      heads_at = λ b l. get_or-zeros n _ ∙ sym (latest_none _ b);
      chain_at = λ k l. absurd (omega arith);
    }

-- a search finds a number where the word occurs
pub found-occurs : (t : List ℕ) (w : ℕ) (r : Option ℕ) → OrNone (λ n. Found t w n) r → occurs w t ≡ is_some r
found-occurs t w None f = f.absent refl
found-occurs t w (Some n) f = occurs_at w t (n - 1) (omega (arith, f.0, (f.1.present f.0).0)) (f.1.present f.0).1

-- a search along a chain stands at number n: each word past it is another than w
pub record Trail (half : ℕ) (t : List ℕ) (w n : ℕ) : Type 0 where
  pub within : n ≤ length t
  pub same : 0 < n → bucket_of half (get_or t (n - 1) 0) ≡ bucket_of half w
  pub passed : (k : ℕ) → n ≤ k → k < length t → get_or t k 0 ≡ w → ⊥

module _ {t index : List ℕ} (e : Indexed t index) (w : ℕ) where
  pub trail_start : Trail (half_of index) t w (get_or index (half_of index + bucket_of (half_of index) w) 0)
  trail_start =
      let half : ℕ = half_of index in
      let l : Latest half t (length t) (bucket_of half w) (latest half t (bucket_of half w)) = rw take-length at (latest_of half t (bucket_of half w) (length t) (le_refl _)) in
      rw (e.heads_at (bucket_of half w) (bucket_lt half w (omega arith)))
      (record { within = l.within; same = l.same; passed = λ k p q i. l.last k p q (ap (bucket_of half) i) })

  module _ (n : ℕ) (r : Trail (half_of index) t w n) (pos : 0 < n) where
    trail_latest : Latest (half_of index) t (n - 1) (bucket_of (half_of index) w) (get_or index n 0)
    trail_latest =
        let here : suc (n - 1) ≡ n = omega arith in
        let chain = rw (here, r.same pos) at (e.chain_at (n - 1) (omega (arith, r.within))) in
        rw chain (latest_of (half_of index) t (bucket_of (half_of index) w) (n - 1) (omega (arith, r.within)))

    pub trail_falls : get_or index n 0 < n
    trail_falls = omega (arith, trail_latest.within)

    pub trail_next : (get_or t (n - 1) 0 ≡ w → ⊥) → Trail (half_of index) t w (get_or index n 0)
    trail_next other =
        record {
          within = omega (arith, trail_latest.within, r.within);
          same = trail_latest.same;
          passed =
              λ k p q i.
              ⊎_elim
              (λ before. trail_latest.last k p before (ap (bucket_of (half_of index)) i))
              (λ past. ⊎_elim (λ here. other (rw (← here) at i)) (λ further. r.passed k (omega arith) q i) (eq-or-lt_of_le past))
              (lt_or_le k (n - 1));
        }

    pub trail_found : get_or t (n - 1) 0 ≡ w → Found t w n
    trail_found here = record { absent = λ z. absurd (omega arith); present = λ p. (r.within, here) }

pub trail_end : {half : ℕ} {t : List ℕ} {w : ℕ} → Trail half t w 0 → Found t w 0
trail_end {half} {t} {w} r = record { absent = λ z. none_occurs w t (λ k. r.passed k (omega arith)); present = λ p. absurd (omega arith) }
