-- A form that is written to a part of a slice that is as long as the form can need.
use Prim.Native.Nat.{ℕ, min, ◌<◌}
use native.Mathlib.Omega.{arith}
use mathlib.Core.Path.{◌≡◌, ap, ◌∙◌}
use mathlib.Core.List.{List, ◌++◌}
use lib.ListN.{length, take, drop}
use Rattle.std.specs.Prelude.{Option, Some, None}
use Rattle.table.specs.Answers.{OrNone}
use Rattle.table.specs.Steps.{fixpoints, normal_table}
use Rattle.placing.specs.Written.{Written}
use Rattle.placing.proofs.Written.{written_part}
use Rattle.form_rooms.specs.Rooms.{Positioned}
use Rattle.form_lengths.specs.Lengths.{most_words}
use Rattle.normal_laws.proofs.Promise.{normal-length}

-- with the positions of a table's until-like words
module _ {t positions : List ℕ} {bits : ℕ} (q : Positioned t positions bits) where
  -- a part of the slice that is as long as the form can need serves as the whole
  formed : (result : List ℕ) {e : List ℕ} {cap r : ℕ} → cap ≡ min (most_words (length t) bits) (length result)
      → Written (normal_table t) (take cap result) e r → Written (normal_table t) result (e ++ drop cap result) r
  formed result {e} {cap} c f =
      let k : cap ≡ min (most_words (length t) (length (fixpoints t))) (length result) = c ∙ ap (λ (b : ℕ). min (most_words (length t) b) (length result)) q.bits_are in
      let least : cap ≡ min (length result) (most_words (length t) (length (fixpoints t))) = omega arith in
      written_part (normal_table t) result (normal-length q.table.limit t q.table.accepted (omega (arith, q.table.short))) least f

  pub formed_part : (result e : List ℕ) (cap : ℕ) → cap ≡ min (most_words (length t) bits) (length result) → (r : Option ℕ)
      → OrNone (λ n. Written (normal_table t) (take cap result) e n) r → OrNone (λ n. Written (normal_table t) result (e ++ drop cap result) n) r
  formed_part result e cap c None f = formed result c f
  formed_part result e cap c (Some n) f = (f.0, formed result c f.1)
