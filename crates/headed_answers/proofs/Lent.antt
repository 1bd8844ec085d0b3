-- Words written to a part of a slice that begins after the place of their header, and how the step that made them ends.
use Prim.Native.Nat.{ℕ, ◌+◌, ◌-◌, ◌≤◌, ◌<◌, min}
use mathlib.Core.Path.{◌≡◌, refl, sym, subst}
use mathlib.Core.Bool.{true}
use mathlib.Core.List.{List, [], ◌∷◌, ◌++◌}
use native.Mathlib.Omega.{arith}
use lib.ListN.{length, take, drop, length-drop}
use borrow.Rule.Slice.PartMut.{put_mid, same_len_mid}
use Rattle.std.specs.Prelude.{Ok}
use Rattle.table.specs.Answers.{Answer}
use Rattle.table.specs.Checks.{checked}
use Rattle.table.specs.Header.{headed, body}
use Rattle.placing.specs.Written.{Written}
use Rattle.placing.proofs.Placing.{true-fits}
use Rattle.placing.proofs.Written.{written_part}
use Rattle.header_classes.specs.Headable.{Headable}
use Rattle.headed_answers.specs.Finished.{Finishable, Finished, Given}
use Rattle.headed_answers.proofs.Ends.{finishable, given_finished}

-- a part put back after the first word
put-body : (k : ℕ) (s part : List ℕ) → 0 < length s → body (put_mid 1 k s part) ≡ part ++ drop k (body s)
put-body k [] part h = absurd (omega arith)
put-body k (x ∷ s) part h = refl

-- a table of at most `most` words, written to so many after the first one
module _ (u result : List ℕ) {part : List ℕ} {k n : ℕ} (some : 0 < length result) (most : ℕ) (short : length u ≤ most) (h : k ≡ min (length (body result)) most)
    (same : length part ≡ length (take k (body result))) (q : Written u (take k (body result)) part n) where
  long : length (put_mid 1 k result part) ≡ length result
  long = same_len_mid 1 k result part same

  whole : Written u (body result) (body (put_mid 1 k result part)) n
  whole = subst (λ (m : List ℕ). Written u (body result) m n) (sym (put-body k result part some)) (written_part u (body result) short h q)

  pub lent-finishable : ((n ≡ 0 → ⊥) → Headable u) → Finishable (put_mid 1 k result part) n
  lent-finishable = finishable u result (put_mid 1 k result part) some long whole

  pub lent_given : {e : List ℕ} {r : Answer} → Finished (put_mid 1 k result part) n e r → Given (headed u) result e r
  lent_given f = given_finished u result (put_mid 1 k result part) some long whole f

-- a table written to all that is left of a slice after the place of its header
module _ (u result : List ℕ) {part : List ℕ} {n : ℕ} (accepts : length u ≤ 16383 → checked true 16383 u ≡ Ok tt) (some : length result ≡ 0 → ⊥)
    (same : length part ≡ length (take (length result - 1) (body result))) (q : Written u (take (length result - 1) (body result)) part n) where
  left : length result - 1 ≡ min (length (body result)) (length u + length (body result))
  left = omega (arith, length-drop 1 result)

  -- where it fits, it is accepted, and so has a header
  headable : (n ≡ 0 → ⊥) → Headable u
  headable z =
      let few : length u ≤ 16383 = omega (arith, true-fits _ _ (q.fit z).fitting) in
      record { plain_only = true; limit = 16383; accepted = accepts few; small = omega arith }

  pub left_finishable : Finishable (put_mid 1 (length result - 1) result part) n
  left_finishable = lent-finishable u result (omega (arith, some)) _ (omega arith) left same q headable

  pub left_given : {e : List ℕ} {r : Answer} → Finished (put_mid 1 (length result - 1) result part) n e r → Given (headed u) result e r
  left_given = lent_given u result (omega (arith, some)) _ (omega arith) left same q
