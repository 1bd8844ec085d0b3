-- The three ways in which a word is put: it is there, there is no room for it, or it is written at the end.
use Prim.Native.Nat.{ℕ, zero, suc, ◌/◌, ◌≤◌, ◌<◌, zero-le}
use native.Mathlib.Nat.{not-suc-le-zero}
use native.Mathlib.Omega.{arith}
use mathlib.Core.Path.{◌≡◌, refl, sym, ap, ◌∙◌}
use mathlib.Core.Bool.{true, false, true≢false}
use mathlib.Core.List.{List, [], ◌∷◌, ◌++◌}
use lib.ListN.{length, get_or, take, set, length-append, length-set, replicate, length-replicate}
use lib.Seq.{length-take-le, take-suc-set, drop-set-lt}
use borrow.Author.Tests.{le-leb, lt-leb}
use Rattle.table.specs.Numbering.{find, put, room, fits}
use Rattle.lookup.specs.Index.{count_of, Indexed, Found}
use Rattle.lookup.proofs.Laws.{indexed_none}
use Rattle.logic.proofs.Numbers.{get_or-zeros}
use Rattle.numbering.specs.Held.{Word}
use Rattle.numbering.proofs.Search.{find_absent, put_held, put-new, distinct_nil, distinct_snoc}
use Rattle.placing.specs.State.{State, state, count, written, fits_in, Numbered, Putting}

pub fits-true : (a n : ℕ) → a ≤ room n → fits a n ≡ true
unfolding fits
fits-true a n h = le-leb a (room n) h

pub fits-false : (a n : ℕ) → room n < a → fits a n ≡ false
unfolding fits
fits-false a n h = lt-leb a (room n) h

-- the table so far has count words
pub written-length : {s : State} → Numbered s → length (written s) ≡ count s
written-length {s} h = length-take-le (count s) s.out (omega (arith, h.within))

-- no word yet: the index is all 0
pub numbered_none : (out : List ℕ) (m : ℕ) → room (length out) < m / 2 → m ≤ 32768 → Numbered (state out (replicate m 0))
numbered_none out m h k =
    let none : count_of (replicate m 0) ≡ 0 = get_or-zeros m 0 in record {
      within = rw none zero-le;
      large = rw length-replicate h;
      distinct = rw none distinct_nil;
      indexed = rw none (indexed_none m (omega arith) k);
    }

module _ {s : State} (w : ℕ) (h : Numbered s) where
  -- the word is there
  pub put-present : (r : ℕ) → 0 < r → Found (written s) w r → Putting s s (put (written s) w) r
  put-present zero g f = absurd (not-suc-le-zero g)
  put-present (suc i) g f =
      rw (put_held (written s) w h.distinct (suc i) there)
      (record {
        placed = record {
          numbered = h;
          long = refl;
          within = omega (arith, (f.present g).0, written-length h);
          answer = λ e. refl;
          table = λ e. refl;
          past = λ e. refl;
          full = λ e. absurd (true≢false (sym fit ∙ e));
        };
        unchanged = λ e. refl;
      })
    where
      there : Word (written s) (suc i) w
      there = record { positive = g; within = (f.present g).0; is = ap (λ (k : ℕ). get_or (written s) k 0) (omega arith) ∙ (f.present g).1 }

      fit : fits_in (written s) s ≡ true
      fit = fits-true _ _ (rw (written-length h) h.within)

  -- it is not there, and there is no room
  pub put_full : (r : ℕ) → r ≤ 0 → Found (written s) w r → room (length s.out) ≤ count s → Putting s s (put (written s) w) 0
  put_full r z f g =
      rw (put-new (written s) w (find_absent (written s) w (f.absent (omega arith))))
      (record {
        placed = record {
          numbered = h;
          long = refl;
          within = zero-le;
          answer = λ e. absurd (true≢false (sym e ∙ unfit));
          table = λ e. absurd (true≢false (sym e ∙ unfit));
          past = λ e. absurd (true≢false (sym e ∙ unfit));
          full = λ e. refl;
        };
        unchanged = λ e. refl;
      })
    where
      unfit : fits_in (written s ++ (w ∷ [])) s ≡ false
      unfit = fits-false _ _ (rw (length-append, written-length h) (omega arith))

  -- it is not there, and is written at the end
  pub put_end : (r : ℕ) → r ≤ 0 → Found (written s) w r → count s < room (length s.out)
      → (index : List ℕ) → length index ≡ length s.index → Indexed (written s ++ (w ∷ [])) index
      → Putting s (state (set s.out (count s) w) index) (put (written s) w) (suc (count s))
  put_end r z f g index l x =
      rw (put-new (written s) w none)
      (record {
        placed = record {
          numbered = record {
            within = rw (length-set, one_more) g;
            large = rw (length-set, l) h.large;
            distinct = rw grown (distinct_snoc (written s) w h.distinct none);
            indexed = rw grown x;
          };
          long = length-set s.out (count s) w;
          within = omega (arith, one_more);
          answer = λ e. ap suc (sym (written-length h));
          table = λ e. grown;
          past = λ e. drop-set-lt (count_of index) s.out (count s) w (omega (arith, one_more));
          full = λ e. absurd (true≢false (sym fit ∙ e));
        };
        unchanged = λ e. absurd (true≢false (sym fit ∙ e));
      })
    where
      none : find (written s) w ≡ 0
      none = find_absent (written s) w (f.absent (omega arith))

      one_more : count_of index ≡ suc (count s)
      one_more = omega (arith, x.count_at, length-append (written s) (w ∷ []), written-length h)

      grown : take (count_of index) (set s.out (count s) w) ≡ written s ++ (w ∷ [])
      grown = rw one_more (take-suc-set s.out (count s) w (omega arith))

      fit : fits_in (written s ++ (w ∷ [])) s ≡ true
      fit = fits-true _ _ (rw (length-append, written-length h) (omega arith))
