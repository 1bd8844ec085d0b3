-- A move of accepted words, placed in a slice or not.
use Prim.Native.Nat.{ℕ, ◌≤◌, ◌<◌}
use native.Mathlib.Omega.{arith}
use mathlib.Core.Path.{◌≡◌, refl, sym, subst}
use mathlib.Core.List.{List}
use lib.ListN.{length}
use borrow.Author.Tests.{le-leb, lt-leb}
use Rattle.std.specs.Prelude.{Option, None, Some}
use Rattle.table.specs.Answers.{OrNone}
use Rattle.automata_tables.specs.States.{state_words}
use Rattle.state_numbers.specs.Numbered.{Numbered, Found}
use Rattle.move_roots.specs.Roots.{Drawn}
use Rattle.move_rooms.specs.Rooms.{Moved}
use Rattle.move_placing.specs.Placed.{move_fits, Placed, Known}

-- the start, or a state whose word and class were found, with what is kept of the table
module _ {t bytes starts : List ℕ} {total n : ℕ} (k : Known t bytes starts total n) (few : total ≤ 16383) where
  pub known-numbered : Numbered t bytes starts
  known-numbered = k.filled.numbered few

  pub start_drawn : n ≡ 0 → Drawn t bytes starts 0 0 0
  start_drawn z = record { accepted = k.accepted; kept = known-numbered.kept; named = λ h. absurd (omega arith) }

  pub state_drawn : {w c : ℕ} → Found t n w c → Drawn t bytes starts n w c
  state_drawn f = record {
    accepted = k.accepted;
    kept = known-numbered.kept;
    named = λ h. record { class = f.class; state = f.is_state; is_bit = f.is_bit; among = omega (arith, k.inside, k.filled.all); positive = f.positive; inside = f.within };
  }

  -- written to the slice: with so few states, it fits where its words do
  one_placed : {v : ℕ} {out e : List ℕ} (r : ℕ) → Moved t n v out e r → Placed t n v out e r
  unfolding move_fits
  one_placed r q =
      let c = le-leb (length (state_words t)) 16383 (omega (arith, k.filled.all)) in
      record { unfit = λ z. rw c (q.written.unfit z); fit = λ z. let f = q.written.fit z in (rw c f.fitting, f.long, f.words) }

  pub placed-few : (v : ℕ) (out e : List ℕ) (r : Option ℕ) → OrNone (λ r. Moved t n v out e r) r → OrNone (λ r. Placed t n v out e r) r
  placed-few v out e None q = one_placed 0 q
  placed-few v out e (Some r) q = (q.0, one_placed r q.1)

  pub start_placed : (v : ℕ) (out e : List ℕ) (r : Option ℕ) → n ≡ 0 → OrNone (λ r. Moved t 0 v out e r) r → OrNone (λ r. Placed t n v out e r) r
  start_placed v out e r z q = placed-few v out e r (subst (λ (m : ℕ). OrNone (λ r. Moved t m v out e r) r) (sym z) q)

-- more states than a table may have words
pub placed-many : {t bytes starts : List ℕ} {total n v : ℕ} {out : List ℕ} → Known t bytes starts total n → 16383 < total → Placed t n v out out 0
unfolding move_fits
placed-many {t} k h = record { unfit = λ z. rw (lt-leb (length (state_words t)) 16383 (omega (arith, k.filled.all))) refl; fit = λ z. absurd (z refl) }
