-- The part of a choice: the opening form of the rule, and all conjuncts.
use Prim.Native.Nat.{ℕ, ◌+◌, ◌*◌, ◌-◌, ◌<◌}
use native.Mathlib.Omega.{arith}
use mathlib.Core.Path.{◌≡◌, ◌∙◌}
use mathlib.Core.Bool.{true}
use mathlib.Core.List.{List, map, foldl-append}
use lib.ListN.{length}
use Rattle.logic.specs.Formula.{bin, conj}
use Rattle.transforms.specs.Rewriting.{opening}
use Rattle.transforms.specs.NormalForm.{member, least_of, part}
use Rattle.table.specs.Table.{rule}
use Rattle.table.specs.Steps.{fixpoints}
use Rattle.table.proofs.Accepted.{accepted-well-formed}
use Rattle.drafts.specs.Drafted.{Drafted}
use Rattle.form_places.specs.declared.Rewriting.TheVariants.{Opening}
use Rattle.form_places.specs.Places.{place}
use Rattle.normal_laws.proofs.Chosen.{members_few}
use Rattle.fixpoint_kinds.specs.declared.Fixpoint.TheVariants.{Least, Greatest}
use Rattle.conjuncts.specs.Filled.{form_of, Filled}
use Rattle.conjuncts.specs.Conjunct.{members_of, conjunct_of, Joinable, Joined}
use Rattle.conjuncts.proofs.Forms.{filled-later}
use Rattle.choosing.specs.Filled.{Laid, Chosen, Fillable}
use Rattle.choosing.proofs.Choosing.{laid-later}
use Rattle.filling.proofs.WordByWord.{chosen-filled}

module _ {t positions : List ℕ} {c : ℕ} {d : List ℕ} (q : Fillable t positions d) {d₁ : List ℕ} (l : length d₁ ≡ length d) (chosen : Chosen t c d₁ (length t)) where
  filled : Filled t c d₁ (length t)
  filled = chosen-filled (accepted-well-formed true q.room.limit t q.room.accepted) chosen (omega (arith, q.room.long)) (length t) (omega arith)

  -- the opening form of the rule
  pub rule_opened : Drafted d₁ (opening (member (least_of (fixpoints t) c)) (rule t)) (5 * length t + 4)
  unfolding rule
  rule_opened = filled.form Opening (length t) (accepted-well-formed true q.room.limit t q.room.accepted).some (omega arith)

  pub joinable_least : Joinable Least t positions c d₁ (5 * length t + 5)
  joinable_least = record {
    limit = q.room.limit;
    accepted = q.room.accepted;
    kept = q.kept;
    filled = filled;
    past_words = omega arith;
    long = omega (arith, q.room.long, members_few (fixpoints t) c);
    narrow = omega (arith, q.room.narrow);
  }

  module _ {d₂ : List ℕ} {r₁ : ℕ} (j : Joined Least t c d₁ (5 * length t + 5) d₂ r₁) where
    pub joinable_greatest : Joinable Greatest t positions c d₂ r₁
    joinable_greatest = record {
      limit = q.room.limit;
      accepted = q.room.accepted;
      kept = q.kept;
      filled = filled-later d₂ (5 * length t + 5) filled (omega arith) (omega (arith, q.room.long, j.long)) j.before;
      past_words = omega (arith, j.after);
      long = omega (arith, q.room.long, j.after, j.long, members_few (fixpoints t) c);
      narrow = omega (arith, j.long, q.room.narrow);
    }

    module _ {d₃ : List ℕ} {r₂ : ℕ} (k : Joined Greatest t c d₂ r₁ d₃ r₂) where
      pub part_drafted : Drafted d₃ (part (fixpoints t) (rule t) c) (r₂ - 1)
      unfolding part rule
      part_drafted =
          let z : 5 * length t + 5 - 1 ≡ place Opening (length t) = omega arith in
          let some : 0 < length t = (accepted-well-formed true q.room.limit t q.room.accepted).some in
          rw (foldl-append (bin conj) (form_of Opening t c (length t)) (map (conjunct_of Least t c) (members_of Least t c)) (map (conjunct_of Greatest t c) (members_of Greatest t c)))
          (k.joined _ (j.joined _ (rw z (filled.form Opening (length t) some (omega arith)))))

      -- the words are as they were
      pub still_laid : Laid t d₃ (length t)
      still_laid =
          laid-later d₃ (5 * length t + 5) chosen.laid (omega arith) (omega (arith, q.room.long, j.long, k.long))
          (λ i h. k.before i (omega (arith, j.after)) ∙ j.before i h)
