-- A step by limits that a house states: outside their ranges it refuses by 25, and by permitted ones it checks what it checked.
use Prim.Native.Nat.{◌≤◌}
use mathlib.Core.Path.{◌≡◌, refl, sym}
use mathlib.Core.Bool.{Bool, true, false, not, ◌&&◌}
use mathlib.Core.List.{List, ◌++◌}
use lib.Dec.{leb}
use borrow.Author.Tests.{leb-true}
use Rattle.refusals.specs.declared.Refusal.TheVariants.{LimitsOutside}
use Rattle.std.specs.Prelude.{Ok, Err}
use Rattle.refusals.specs.Refusals.{Check, first}
use Rattle.table.specs.declared.settings.Limits.{Limits}
use Rattle.table.specs.Limits.{most, is_permitted}
use Rattle.table.specs.StepChecks.{limit_checks}

-- limits within their ranges
pub record Permitted (l : Limits) : Type 0 where
  pub some : 1 ≤ l.written
  pub written : l.written ≤ 256
  pub fixpoints : l.fixpoints ≤ 10

both : (a b : Bool) → a && b ≡ true → (a ≡ true) × (b ≡ true)
both true b e = (refl, e)
both false b e = (e, cc)

module _ (l : Limits) where
  pub permitted : is_permitted l ≡ true → Permitted l
  permitted e =
      let p = both (leb 1 l.written) _ e in
      let q = both (leb l.written most.written) _ p.1 in
      record { some = leb-true _ _ p.0; written = leb-true _ _ q.0; fixpoints = leb-true _ _ q.1 }

  -- what a test of the limits tells
  pub limits_outside : (r : Bool) → r ≡ is_permitted l → not r ≡ true → is_permitted l ≡ false
  limits_outside true e h = cc
  limits_outside false e h = sym e

  pub limits_within : (r : Bool) → r ≡ is_permitted l → not r ≡ false → is_permitted l ≡ true
  limits_within true e h = sym e
  limits_within false e h = cc

  -- the other checks follow
  module _ (cs : List Check) where
    pub permitted-checks : is_permitted l ≡ true → first (limit_checks l ++ cs) ≡ first cs
    unfolding limit_checks
    permitted-checks e = rw e refl

    pub outside-checks : is_permitted l ≡ false → first (limit_checks l ++ cs) ≡ Err LimitsOutside
    unfolding limit_checks
    outside-checks e = rw e refl

    pub passed_limits : first (limit_checks l ++ cs) ≡ Ok tt → (is_permitted l ≡ true) × (first cs ≡ Ok tt)
    unfolding limit_checks
    passed_limits e = go (is_permitted l) refl
      where
        go : (b : Bool) → is_permitted l ≡ b → (is_permitted l ≡ true) × (first cs ≡ Ok tt)
        go true h = (h, rw h at e)
        go false h = (cc, cc)
