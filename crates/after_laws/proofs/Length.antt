-- A remainder has at most three words for each word of the table, and three more: there is a draft of that many slots.
use Prim.Native.Nat.{ℕ, zero, suc, ◌+◌, ◌*◌, ◌≤◌, ◌<◌}
use native.Mathlib.Decide.{ℕ_discrete, dec_lt}
use native.Mathlib.Omega.{arith}
use mathlib.Core.Path.{◌≡◌, refl, ◌∙◌, subst}
use mathlib.Core.Bool.{true}
use mathlib.Core.List.{List}
use lib.ListN.{length, length-set, replicate, length-replicate}
use Rattle.transforms.specs.Folding.{fold}
use Rattle.transforms.specs.After.{after}
use Rattle.std.specs.Prelude.{Ok}
use Rattle.table.specs.Table.{rule}
use Rattle.table.specs.Checks.{checked}
use Rattle.table.specs.Steps.{after_table}
use Rattle.table.proofs.Accepted.{accepted-well-formed}
use Rattle.drafts.specs.Drafted.{Drafted}
use Rattle.drafts.proofs.Growth.{drafted-length}
use Rattle.source.specs.Source.{WordAt}
use Rattle.source.proofs.Words.{plain-kind, word_at}
use Rattle.sample_letters.specs.Constant.{constant_at}
use Rattle.after_slots.specs.Slots.{stored, copied, leaf_slots, junction_slots, next_slots, fixpoint_slots}
use Rattle.after_draft.specs.Filling.{Room, Filled, Next}
use Rattle.after_draft.proofs.Forms.{plain_at, constant-filled, letter-filled, next_filled, junction-filled, until_at, release_at, fixpoint-filled, none_filled, next_word}

-- a draft as long as another, with the first j words and their steps
abbrev Filling : ℕ → List ℕ → List ℕ → ℕ → Type 0
Filling v t d j = (e : List ℕ) × (length e ≡ length d) × Filled v t e j

stored_long : (d : List ℕ) (i s : ℕ) → length (stored d i s) ≡ length d
unfolding stored
stored_long d i s = length-set d i _

copied_long : (d : List ℕ) (i n : ℕ) → length (copied d i n) ≡ length d
unfolding copied
copied_long d i n = length-set d i _

-- one more word, by its kind
word-filling : {v : ℕ} {t d : List ℕ} {j k l r : ℕ} → Next v t d j → WordAt t j k l r → Filling v t d j
word-filling {v} {t} {d} {j} {k} {l} {r} q w = go (dec_lt k 3) (dec_lt k 5) (dec_lt k 7) (ℕ_discrete k 7) (dec_lt k 10)
  where
    two : (i x m y : ℕ) → length (stored (stored d i x) m y) ≡ length d
    two i x m y = stored_long (stored d i x) m y ∙ stored_long d i x

    three : (i x m y n z : ℕ) → length (stored (stored (stored d i x) m y) n z) ≡ length d
    three i x m y n z = stored_long (stored (stored d i x) m y) n z ∙ two i x m y

    copy : (i x m n : ℕ) → length (copied (stored d i x) m n) ≡ length d
    copy i x m n = copied_long (stored d i x) m n ∙ stored_long d i x

    go : Dec (k < 3) → Dec (k < 5) → Dec (k < 7) → Dec (k ≡ 7) → Dec (k < 10) → Filling v t d j
    go (yes a) b c e f = (leaf_slots d j k 0 k, two _ _ _ _, constant-filled q w (omega (arith, w.positive)) a)
    go (no a) (yes b) c e f = (leaf_slots d j k r (constant_at v k r), two _ _ _ _, letter-filled q w (omega arith) b refl)
    go (no a) (no b) (yes c) e f = (junction_slots d j k l r, two _ _ _ _, junction-filled q w (omega arith) c)
    go (no a) (no b) (no c) (yes e) f = (next_slots d j r, copy _ _ _ _, next_filled q w e)
    go (no a) (no b) (no c) (no e) (yes f) = (fixpoint_slots d j k 5 6 l r, three _ _ _ _ _ _, fixpoint-filled q w (until_at k (omega arith) f))
    go (no a) (no b) (no c) (no e) (no f) = (fixpoint_slots d j k 6 5 l r, three _ _ _ _ _ _, fixpoint-filled q w (release_at k (omega arith) (plain_at q w)))

module _ (v : ℕ) (t : List ℕ) (ok : checked true 16383 t ≡ Ok tt) where
  words-filling : (d : List ℕ) → Room t d → (n : ℕ) → n ≤ length t → Filling v t d n
  words-filling d q zero h = (d, refl, none_filled v t d)
  words-filling d q (suc n) h =
      let f = words-filling d q n (omega arith) in
      let e : n + 1 ≡ suc n = omega arith in
      let next : Next v t f.0 (suc n) = subst (Next v t f.0) e (next_word q f.1 f.2 h) in
      let g = word-filling next (word_at next.word (omega (arith, plain-kind 16383 t ok (suc n) (omega arith) h)) refl refl refl) in
      (g.0, g.1 ∙ f.1, g.2)

  pub after_short : length (after_table v t) ≤ 3 * length t + 3
  unfolding after_table rule
  after_short =
      let few = (accepted-well-formed true 16383 t ok).few in
      let n : ℕ = 3 * length t + 3 in
      let d : List ℕ = replicate n 0 in
      let long : length d ≡ n = length-replicate {A = ℕ} n 0 in
      let f = words-filling d (record { accepted = ok; slots = omega arith; few = omega arith }) (length t) (omega arith) in
      let drafted : Drafted f.0 (fold (after v (rule t))) (3 * length t + 2) = (f.2.word (length t) (accepted-well-formed true 16383 t ok).some (omega arith)).step in
      omega (arith, drafted-length f.0 (omega (arith, f.1)) (fold (after v (rule t))) (3 * length t + 2) drafted)
