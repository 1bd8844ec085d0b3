-- The slots of words: those of an earlier word come before, and fit the fields where the last of them does.
use Prim.Native.Nat.{ℕ, ◌<◌}
use native.Mathlib.Omega.{arith}
use Rattle.form_places.specs.declared.Rewriting.{Rewriting}
use Rattle.form_places.specs.declared.Rewriting.TheVariants.{Steady, Recurring, Opening}
use Rattle.form_places.specs.Places.{place}

pub place-fits : (m : Rewriting) (j n : ℕ) → place Opening j < n → place m j < n
place-fits Steady j n h = omega arith
place-fits Recurring j n h = omega arith
place-fits Opening j n h = h

pub place_before : (m : Rewriting) (i j : ℕ) → i < j → place m i < place Steady j
place_before Steady i j h = omega arith
place_before Recurring i j h = omega arith
place_before Opening i j h = omega arith
