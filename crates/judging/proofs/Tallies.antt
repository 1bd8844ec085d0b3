-- The tallies after a call: what is handed back for the named desk, in its place, is what the definition leaves.
use Prim.Native.Nat.{ℕ, zero, suc, ◌≤◌, ◌<◌}
use mathlib.Core.Path.{◌≡◌, refl, sym, ap}
use mathlib.Core.List.{List, [], ◌∷◌}
use native.Mathlib.Omega.{arith}
use lib.ListN.{length, get_or, set}
use Rattle.logic.specs.Formula.{Formula}
use Rattle.logic.specs.Lasso.{Lasso}
use Rattle.table.specs.Table.{rule}
use Rattle.table.specs.Header.{body}
use Rattle.refusals.specs.Refusals.{Outcome}
use Rattle.std.specs.Prelude.{Ok, Err}
use Rattle.tally.specs.declared.Tally.{Tally}
use Rattle.tally.specs.Tallies.{none_judged}
use Rattle.table_rows.specs.Rows.{lasso_of}
use Rattle.judging.specs.Judging.{JudgeAnswer, judge_outcome, reply_by, reply, desk_of, tallies_after}

-- a tally that is put where it stands, or past the last, changes nothing
set_same : (tallies : List Tally) (n : ℕ) → n < length tallies → set tallies n (get_or tallies n none_judged) ≡ tallies
set_same [] n l = absurd (omega arith)
set_same (c ∷ tallies) zero l = refl
set_same (c ∷ tallies) (suc n) l = ap (◌∷◌ c) (set_same tallies n (omega arith))

set_past : (tallies : List Tally) (n : ℕ) (c : Tally) → length tallies ≤ n → set tallies n c ≡ tallies
set_past [] n c l = refl
set_past (d ∷ tallies) zero c l = absurd (omega arith)
set_past (d ∷ tallies) (suc n) c l = ap (◌∷◌ d) (set_past tallies n c (omega arith))

-- no desk stands past the last tally
pub none_past : (tallies : List Tally) (n : ℕ) → length tallies ≤ n → (desk_of tallies n).tally ≡ none_judged
none_past [] n l = refl
none_past (c ∷ tallies) zero l = absurd (omega arith)
none_past (c ∷ tallies) (suc n) l = none_past tallies n (omega arith)

pub tallies_inside : (t samples : List ℕ) (start driven : ℕ) (scratch : List ℕ) (tallies : List Tally) (n : ℕ) → n < length tallies
    → set tallies n (reply t samples start driven scratch (desk_of tallies n)).tally ≡ tallies_after (reply t samples start driven scratch (desk_of tallies n)).answer tallies n
unfolding reply reply_by tallies_after
tallies_inside t samples start driven scratch tallies n l = by (judge_outcome t samples start driven scratch (desk_of tallies n)) (lasso_of samples start driven) (rule (body t))
  where
    by : (o : Outcome) (r : Lasso) (φ : Formula) → set tallies n (reply_by o r φ (desk_of tallies n).tally).tally ≡ tallies_after (reply_by o r φ (desk_of tallies n).tally).answer tallies n
    by (Ok tt) r φ = refl
    by (Err why) r φ = set_same tallies n l

pub tallies_outside : (answer : JudgeAnswer) (tallies : List Tally) (n : ℕ) → length tallies ≤ n → tallies ≡ tallies_after answer tallies n
unfolding tallies_after
tallies_outside (Ok j) tallies n l = sym (set_past tallies n _ l)
tallies_outside (Err why) tallies n l = refl
