-- The check of one mark after another.
use Prim.Native.Nat.{ℕ, suc, ◌-◌, ◌≤◌, ◌<◌}
use mathlib.Core.Path.{◌≡◌}
use mathlib.Core.Bool.{not}
use mathlib.Core.List.{List, []}
use native.Mathlib.Omega.{arith}
use Rattle.refusals.specs.declared.Refusal.TheVariants.{Unused}
use Rattle.refusals.specs.Refusals.{first, decide_by}
use Rattle.table.specs.Checks.{used, use_checks}

-- the use of word n, and then of the ones after it
pub use_step : (t : List ℕ) (n k : ℕ) → n < k → first (use_checks t n (k - n)) ≡ decide_by (not (used n t)) (Unused n) (first (use_checks t (suc n) (k - suc n)))
unfolding use_checks
use_step t n k l = let e : k - n ≡ suc (k - suc n) = omega arith in rw e

pub use_none : (t : List ℕ) (n k : ℕ) → k ≤ n → use_checks t n (k - n) ≡ []
unfolding use_checks
use_none t n k l = let e : k - n ≡ 0 = omega arith in rw e
