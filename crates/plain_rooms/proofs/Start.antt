-- The draft of a plain form before its first form: the constants, and no word's slot filled.
use Prim.Native.Nat.{ℕ, zero, suc, ◌≤◌}
use native.Mathlib.Omega.{arith}
use mathlib.Core.Path.{◌≡◌, refl, sym, ◌∙◌}
use mathlib.Core.Bool.{Bool, true, false}
use mathlib.Core.List.{List}
use lib.ListN.{length, get_or, set, length-set}
use lib.Seq.{get_or-set_same, get_or-set_other}
use Rattle.table.proofs.Accepted.{accepted-well-formed}
use Rattle.slots.specs.Slot.{pack, Stored}
use Rattle.drafts.specs.Drafted.{Drafted}
use Rattle.plain_laws.specs.Forms.{form_of, slot_of}
use Rattle.plain_draft.specs.Forming.{Filled, Asked}
use Rattle.plain_rooms.specs.Rooms.{Empty}
use Rattle.plain_laws.proofs.Slots.{slot_bounds}
use Rattle.plain_draft.proofs.Filling.{constant-form}

module _ {t d : List ℕ} (q : Empty t d) (a b : ℕ) where
  two : 2 ≤ length d
  two = omega (arith, q.slots)

  -- the two constants are there, and nothing else
  filled : pack 1 0 0 ≡ a → pack 2 0 0 ≡ b → Filled t (set (set d 0 a) 1 b)
  filled ea eb = record { constant = constant; form = form }
    where
      constant : (p : Bool) → Drafted (set (set d 0 a) 1 b) (form_of p t 0) (slot_of p 0)
      constant true = rw (constant-form true t).0 (record {
        within = omega (arith, two, length-set d 0 a, length-set (set d 0 a) 1 b);
        is = get_or-set_other (set d 0 a) 1 0 b 0 (λ e. omega arith) ∙ get_or-set_same d 0 a 0 (omega (arith, two)) ∙ sym ea;
      })
      constant false = rw (constant-form false t).0 (record {
        within = omega (arith, two, length-set d 0 a, length-set (set d 0 a) 1 b);
        is = get_or-set_same (set d 0 a) 1 b 0 (omega (arith, two, length-set d 0 a)) ∙ sym eb;
      })

      form : (p : Bool) (j : ℕ) → (get_or (set (set d 0 a) 1 b) (slot_of p j) 0 ≡ 0 → ⊥) → Drafted (set (set d 0 a) 1 b) (form_of p t j) (slot_of p j)
      form p zero h = constant p
      form p (suc i) h =
          let s = slot_bounds p (suc i) in
          absurd (h (get_or-set_other (set d 0 a) 1 (slot_of p (suc i)) b 0 (λ e. omega (arith, s.0)) ∙ get_or-set_other d 0 (slot_of p (suc i)) a 0 (λ e. omega (arith, s.0)) ∙ q.empty (slot_of p (suc i))))

pub started : {t d e f : List ℕ} {x y : ℕ} → Empty t d → Stored d e 0 (pack 1 0 0) x → Stored e f 1 (pack 2 0 0) y → Asked t f (length t)
started {t} {d} {e} {f} {x} {y} q g h = rw (h.set, g.set) (record {
  word = record { plain = false; limit = q.limit; accepted = q.accepted; positive = (accepted-well-formed false q.limit t q.accepted).some; inside = omega arith };
  slots = omega (arith, q.slots, length-set d 0 (pack 1 0 0), length-set (set d 0 (pack 1 0 0)) 1 (pack 2 0 0));
  few = omega (arith, q.few, length-set d 0 (pack 1 0 0), length-set (set d 0 (pack 1 0 0)) 1 (pack 2 0 0));
  filled = filled q (pack 1 0 0) (pack 2 0 0) refl refl;
})
