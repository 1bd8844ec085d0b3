-- What the checks of the two calls say, step by step, and what is known where they accept.
use Prim.Native.Nat.{ℕ, ◌*◌, ◌≤◌, ◌<◌}
use mathlib.Core.Path.{◌≡◌}
use mathlib.Core.Bool.{false}
use mathlib.Core.List.{List, ◌++◌}
use native.Mathlib.Omega.{arith}
use lib.ListN.{length}
use borrow.Author.Tests.{ltb-false, leb-false, eqb-false, ne_eqb, le-ltb, le-leb, lt-leb}
use Rattle.refusals.specs.declared.Refusal.{Refusal}
use Rattle.refusals.specs.declared.Refusal.TheVariants.{DeskOutside}
use Rattle.std.specs.Prelude.{Ok, Err}
use Rattle.refusals.specs.Refusals.{Check, first}
use Rattle.table.specs.Checks.{checked}
use Rattle.table.specs.Header.{headed, body, headed_checks, headed_checked}
use Rattle.table.specs.StepChecks.{driven_checks, letter_checks}
use Rattle.table.proofs.Header.{accepted-headed, headed-accepted}
use Rattle.row_words.specs.Row.{row_words}
use Rattle.judge_conditions.specs.Checks.{recording_checks, scratch_checks, desk_checks, row_checks, judge_checks}
use Rattle.tally.specs.declared.Desk.{Desk}
use Rattle.tally.specs.Tallies.{is_full}
use Rattle.refusals.proofs.First.{Passed, first_passed, passed_first, first_append-accepted, first_append-refused, first_append_both}

-- a table with its header, a recording and a scratch that the row call accepts
pub record Judgeable (t : List ℕ) (samples start driven scratch : ℕ) : Type 0 where
  pub accepted : checked false 16383 (body t) ≡ Ok tt
  pub whole : t ≡ headed (body t)
  pub some : 1 ≤ samples
  pub few : samples ≤ 4096
  pub inside : start < samples
  pub few_driven : driven ≤ 32
  pub letters : first (letter_checks driven 1 (body t)) ≡ Ok tt
  pub room : length (body t) * row_words samples ≤ scratch

module _ (t : List ℕ) (samples start driven scratch : ℕ) where
  -- 21 and 16, and what comes before them
  named : List Check
  named = letter_checks driven 1 (body t) ++ scratch_checks (length (body t)) samples scratch

  memory : List Check
  memory = recording_checks samples start driven ++ named

  pub row-refused : (why : Refusal) → headed_checked false 16383 t ≡ Err why → first (row_checks t samples start driven scratch) ≡ Err why
  unfolding headed_checked row_checks memory named
  row-refused why e = first_append-refused (headed_checks false 16383 t) memory why e

  pub row-accepted : headed_checked false 16383 t ≡ Ok tt
      → first (row_checks t samples start driven scratch)
      ≡ first (recording_checks samples start driven ++ (letter_checks driven 1 (body t) ++ scratch_checks (length (body t)) samples scratch))
  unfolding headed_checked row_checks memory named
  row-accepted e = first_append-accepted (headed_checks false 16383 t) memory e

  pub judgeable : first (row_checks t samples start driven scratch) ≡ Ok tt → Judgeable t samples start driven scratch
  unfolding headed_checked row_checks memory named recording_checks driven_checks scratch_checks
  judgeable e =
      let ts = (first_append_both (headed_checks false 16383 t) memory).0 e in
      let ms = (first_append_both (recording_checks samples start driven) named).0 ts.1 in
      let ns = (first_append_both (letter_checks driven 1 (body t)) (scratch_checks (length (body t)) samples scratch)).0 ms.1 in
      let p : Passed (recording_checks samples start driven) = first_passed (recording_checks samples start driven) ms.0 in
      let table = accepted-headed false 16383 t ts.0 in
      record {
        accepted = table.words;
        whole = table.whole;
        some = omega (arith, eqb-false samples 0 p.0);
        few = ltb-false 4096 samples p.1.0;
        inside = leb-false samples start p.1.1.0;
        few_driven = ltb-false 32 driven p.1.1.1.0;
        letters = ns.0;
        room = ltb-false scratch (length (body t) * row_words samples) (first_passed (scratch_checks (length (body t)) samples scratch) ns.1).0;
      }

  -- and what is so is accepted
  pub judgeable-accepted : Judgeable t samples start driven scratch → first (row_checks t samples start driven scratch) ≡ Ok tt
  unfolding headed_checked row_checks memory named recording_checks driven_checks scratch_checks
  judgeable-accepted f =
      (first_append_both (headed_checks false 16383 t) memory).1 (
        rw f.whole (headed-accepted false 16383 (body t) (omega arith) f.accepted),
        (first_append_both (recording_checks samples start driven) named).1 (
          passed_first (recording_checks samples start driven) (
            ne_eqb samples 0 (λ e. omega (arith, f.some)),
            (le-ltb 4096 samples f.few, (lt-leb samples start f.inside, (le-ltb 32 driven f.few_driven, tt))),
          ),
          (first_append_both (letter_checks driven 1 (body t)) (scratch_checks (length (body t)) samples scratch)).1 (
            f.letters,
            passed_first (scratch_checks (length (body t)) samples scratch) (le-ltb scratch (length (body t) * row_words samples) f.room, tt),
          ),
        ),
      )

  -- the judge's checks are the row call's, and then the named desk's
  pub judge_refused : (desk : Desk) (why : Refusal) → first (row_checks t samples start driven scratch) ≡ Err why
      → first (judge_checks t samples start driven scratch desk) ≡ Err why
  unfolding judge_checks
  judge_refused desk why e = first_append-refused (row_checks t samples start driven scratch) (desk_checks desk) why e

  pub judge_accepted : (desk : Desk) → first (row_checks t samples start driven scratch) ≡ Ok tt
      → first (judge_checks t samples start driven scratch desk) ≡ first (desk_checks desk)
  unfolding judge_checks
  judge_accepted desk e = first_append-accepted (row_checks t samples start driven scratch) (desk_checks desk) e

  pub judge_both : (desk : Desk) → first (judge_checks t samples start driven scratch desk) ≡ Ok tt
      → (first (row_checks t samples start driven scratch) ≡ Ok tt) × (first (desk_checks desk) ≡ Ok tt)
  unfolding judge_checks
  judge_both desk e = (first_append_both (row_checks t samples start driven scratch) (desk_checks desk)).0 e

-- a desk without a tally is refused by 26, whatever tally goes with it, and one that is accepted has a tally that is not full
pub desk-outside : (desk : Desk) → desk.desks ≤ desk.number → first (desk_checks desk) ≡ Err DeskOutside
unfolding desk_checks
desk-outside desk l = simp (le-leb desk.desks desk.number l)

pub desk-accepted : (desk : Desk) → first (desk_checks desk) ≡ Ok tt → (desk.number < desk.desks) × (is_full desk.tally ≡ false)
unfolding desk_checks
desk-accepted desk e = let p = first_passed (desk_checks desk) e in (leb-false desk.desks desk.number p.0, p.1.0)
