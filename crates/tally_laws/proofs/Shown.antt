-- After any calls from zeroed tallies each tally shows the accepted judgements that named its desk and those of them that held, and together they make the house's total.
-- Judged and held are two parts of a tally, each counted by a test of the answer; what is said of a part is said once.
use Prim.Native.Nat.{ℕ, zero, suc, ◌+◌, ◌<◌}
use mathlib.Core.Path.{◌≡◌, refl, sym, ap, ap₂, subst, ◌∙◌}
use mathlib.Core.Logic.{◌⊎◌, inl, inr}
use mathlib.Core.Bool.{Bool, true, false, ◌&&◌, cond}
use mathlib.Core.List.{List, [], ◌∷◌}
use native.Mathlib.Nat.{add-zero}
use native.Mathlib.Omega.{arith}
use lib.Dec.{T, eqb, eqb→eq, eqb-zero-suc, eqb-suc-zero, eqb-suc-suc}
use lib.ListN.{length, get_or, set, length-set, length-replicate, get_or-replicate}
use Rattle.refusals.specs.declared.Refusal.{Refusal}
use Rattle.refusals.specs.Refusals.{Outcome}
use Rattle.std.specs.Prelude.{Ok, Err}
use Rattle.table.specs.Table.{rule}
use Rattle.table.specs.Header.{body}
use Rattle.tally.specs.declared.Tally.{Tally}
use Rattle.tally.specs.Tallies.{none_judged, counted}
use Rattle.judging.specs.declared.answer.Judgement.{Judgement}
use Rattle.judging.specs.Judging.{JudgeAnswer, lasso_of, judge_outcome, reply_by, reply, desk_of, tallies_after}
use Rattle.judging.proofs.LastRow.{judge_desk}
use Rattle.tally_laws.specs.History.{Call, Entry, answer_over, leaves, history, tallies_left, zeroed, is_accepted, is_held, count, shown_at, total, summed, together}

-- a call leaves as many tallies as it finds
pub as_many : (a : JudgeAnswer) (tallies : List Tally) (n : ℕ) → length (tallies_after a tallies n) ≡ length tallies
unfolding tallies_after
as_many (Ok j) tallies n = length-set tallies n _
as_many (Err why) tallies n = refl

-- what is accepted names a desk that has a tally
inside : (tallies : List Tally) (c : Call) → (c.desk < length tallies) ⊎ ((why : Refusal) × (answer_over tallies c ≡ Err why))
unfolding answer_over reply reply_by
inside tallies c = by (judge_outcome c.table c.samples c.start c.driven c.scratch (desk_of tallies c.desk)) refl
  where
    by : (o : Outcome) → judge_outcome c.table c.samples c.start c.driven c.scratch (desk_of tallies c.desk) ≡ o
        → (c.desk < length tallies)
        ⊎ ((why : Refusal) × ((reply_by o (lasso_of c.samples c.start c.driven) (rule (body c.table)) (desk_of tallies c.desk).tally).answer ≡ Err why))
    by (Ok tt) e = inl (judge_desk c.table c.samples c.start c.driven c.scratch (desk_of tallies c.desk) e).0
    by (Err why) e = inr (why, refl)

get_d_set : (cs : List Tally) (k n : ℕ) (c : Tally) → n < length cs → get_or (set cs k c) n none_judged ≡ cond (eqb k n) c (get_or cs n none_judged)
get_d_set [] k n c l = absurd (omega arith)
get_d_set (d ∷ cs) zero zero c l = refl
get_d_set (d ∷ cs) zero (suc n) c l = rw (eqb-zero-suc n) refl
get_d_set (d ∷ cs) (suc k) zero c l = rw (eqb-suc-zero k) refl
get_d_set (d ∷ cs) (suc k) (suc n) c l = rw (eqb-suc-suc k n) (get_d_set cs k n c (omega arith))

-- a part of a tally, and the test of the answers that it counts
module _ (part : Tally → ℕ) (test : JudgeAnswer → Bool)
    (none : part none_judged ≡ 0)
    (counts : (c : Tally) (j : Judgement) → part (counted c j.holds) ≡ part c + cond (test (Ok j)) 1 0)
    (passes : (why : Refusal) → test (Err why) ≡ false) where
  -- one call, in the tally of the desk of number n
  refused_none : (x : ℕ) (b : Bool) (why : Refusal) → x ≡ x + cond (b && test (Err why)) 1 0
  refused_none x true why = rw (passes why) (sym (add-zero x))
  refused_none x false why = sym (add-zero x)

  counted_at : (cs : List Tally) (k n : ℕ) (j : Judgement) (b : Bool) → eqb k n ≡ b
      → part (cond b (counted (get_or cs k none_judged) j.holds) (get_or cs n none_judged)) ≡ part (get_or cs n none_judged) + cond (b && test (Ok j)) 1 0
  counted_at cs k n j true e =
      let same : k ≡ n = eqb→eq k n (subst T (sym e) tt) in
      counts (get_or cs k none_judged) j
      ∙ ap (λ (m : ℕ). part (get_or cs m none_judged) + cond (test (Ok j)) 1 0) same
  counted_at cs k n j false e = sym (add-zero _)

  step_at : (a : JudgeAnswer) (cs : List Tally) (k n : ℕ) → n < length cs
      → part (get_or (tallies_after a cs k) n none_judged) ≡ part (get_or cs n none_judged) + cond (eqb k n && test a) 1 0
  unfolding tallies_after
  step_at (Ok j) cs k n l = ap part (get_d_set cs k n _ l) ∙ counted_at cs k n j (eqb k n) refl
  step_at (Err why) cs k n l = refused_none (part (get_or cs n none_judged)) (eqb k n) why

  -- and in all tallies together
  step_set : (cs : List Tally) (k : ℕ) (j : Judgement) → k < length cs
      → summed part (set cs k (counted (get_or cs k none_judged) j.holds)) ≡ summed part cs + cond (test (Ok j)) 1 0
  step_set [] k j l = absurd (omega arith)
  step_set (c ∷ cs) zero j l = omega (arith, counts c j)
  step_set (c ∷ cs) (suc k) j l = omega (arith, step_set cs k j (omega arith))

  step_all : (a : JudgeAnswer) (cs : List Tally) (k : ℕ) → (k < length cs) ⊎ ((why : Refusal) × (a ≡ Err why))
      → summed part (tallies_after a cs k) ≡ summed part cs + cond (test a) 1 0
  unfolding tallies_after
  step_all (Ok j) cs k (inl l) = step_set cs k j l
  step_all (Ok j) cs k (inr w) = let clash = w.1 in cc
  step_all (Err why) cs k w = rw (passes why) (sym (add-zero (summed part cs)))

  -- any calls
  left_at : (cs : List Tally) (calls : List Call) (n : ℕ) → n < length cs
      → part (get_or (tallies_left cs calls) n none_judged) ≡ part (get_or cs n none_judged) + count (λ (e : Entry). eqb e.desk n && test e.answer) (history cs calls)
  left_at cs [] n l = sym (add-zero _)
  left_at cs (c ∷ calls) n l =
      let more = left_at (leaves cs c) calls n (omega (arith, as_many (answer_over cs c) cs c.desk)) in
      omega (arith, more, step_at (answer_over cs c) cs c.desk n l)

  left_all : (cs : List Tally) (calls : List Call) → summed part (tallies_left cs calls) ≡ summed part cs + count (λ (e : Entry). test e.answer) (history cs calls)
  left_all cs [] = sym (add-zero _)
  left_all cs (c ∷ calls) = let more = left_all (leaves cs c) calls in omega (arith, more, step_all (answer_over cs c) cs c.desk (inside cs c))

  zeros_at : (desks n : ℕ) → n < desks → part (get_or (zeroed desks) n none_judged) ≡ 0
  zeros_at desks n l = ap part (get_or-replicate desks n none_judged none_judged l) ∙ none

  zeros_all : (desks : ℕ) → summed part (zeroed desks) ≡ 0
  zeros_all zero = refl
  zeros_all (suc desks) = omega (arith, none, zeros_all desks)

  part_shown : (desks : ℕ) (calls : List Call) (n : ℕ) → n < desks
      → part (get_or (tallies_left (zeroed desks) calls) n none_judged) ≡ count (λ (e : Entry). eqb e.desk n && test e.answer) (history (zeroed desks) calls)
  part_shown desks calls n l = omega (arith, left_at (zeroed desks) calls n (omega (arith, length-replicate desks none_judged)), zeros_at desks n l)

  part_total : (desks : ℕ) (calls : List Call) → summed part (tallies_left (zeroed desks) calls) ≡ count (λ (e : Entry). test e.answer) (history (zeroed desks) calls)
  part_total desks calls = omega (arith, left_all (zeroed desks) calls, zeros_all desks)

held_counts : (c : Tally) (holds : Bool) → (counted c holds).held ≡ c.held + cond holds 1 0
held_counts c true = refl
held_counts c false = sym (add-zero c.held)

-- a tally of each desk stays lent
pub tallies_stay : (cs : List Tally) (calls : List Call) → length (tallies_left cs calls) ≡ length cs
tallies_stay cs [] = refl
tallies_stay cs (c ∷ calls) = tallies_stay (leaves cs c) calls ∙ as_many (answer_over cs c) cs c.desk

-- each shows how many accepted judgements named its desk, and how many of those held
pub shown : (desks : ℕ) (calls : List Call) (n : ℕ) → n < desks → get_or (tallies_left (zeroed desks) calls) n none_judged ≡ shown_at n (history (zeroed desks) calls)
shown desks calls n l =
    ap₂ (λ (j h : ℕ). record { judged = j; held = h })
    (part_shown (λ (c : Tally). c.judged) is_accepted refl (λ c j. refl) (λ why. refl) desks calls n l)
    (part_shown (λ (c : Tally). c.held) is_held refl (λ c j. held_counts c j.holds) (λ why. refl) desks calls n l)

-- and together they make the house's total
pub total-shown : (desks : ℕ) (calls : List Call) → together (tallies_left (zeroed desks) calls) ≡ total (history (zeroed desks) calls)
total-shown desks calls =
    ap₂ (λ (j h : ℕ). record { judged = j; held = h })
    (part_total (λ (c : Tally). c.judged) is_accepted refl (λ c j. refl) (λ why. refl) desks calls)
    (part_total (λ (c : Tally). c.held) is_held refl (λ c j. held_counts c j.holds) (λ why. refl) desks calls)
