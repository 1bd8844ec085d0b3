-- A conversion has at most two words for each word of the table, and two more: there is a draft of that many slots.
use Prim.Native.Nat.{ℕ, zero, suc, ◌+◌, ◌*◌, ◌≤◌, ◌<◌}
use native.Mathlib.Decide.{ℕ_discrete, dec_lt}
use native.Mathlib.Omega.{arith}
use mathlib.Core.Path.{◌≡◌, refl, ◌∙◌, subst}
use mathlib.Core.Bool.{true}
use mathlib.Core.List.{List}
use lib.ListN.{length, set, length-set, replicate, length-replicate}
use Rattle.transforms.specs.Dialect.{dialect}
use Rattle.std.specs.Prelude.{Ok}
use Rattle.table.specs.Table.{rule}
use Rattle.table.specs.Checks.{checked}
use Rattle.table.specs.Steps.{dialect_table}
use Rattle.table.proofs.Accepted.{accepted-well-formed}
use Rattle.drafts.specs.Drafted.{Drafted}
use Rattle.drafts.proofs.Growth.{drafted-length}
use Rattle.source.specs.Source.{WordAt}
use Rattle.dialect_slots.specs.Filling.{slot_of, Room, Filled, Next}
use Rattle.source.proofs.Words.{plain-kind, word_at}
use Rattle.dialect_slots.proofs.Forms.{plain_at, Ready, leaf-ready, next_ready, weak-ready, strong-ready, kept_ready, none_filled, next_word}

-- a draft as long as another, with the first j words
abbrev Filling : List ℕ → List ℕ → ℕ → Type 0
Filling t d j = (e : List ℕ) × (length e ≡ length d) × Filled t e j

-- one more word, by its kind
word-filling : {t d : List ℕ} {j k l r : ℕ} → Next t d j → WordAt t j k l r → Filling t d j
word-filling {t} {d} {j} {k} {l} {r} q w = go (dec_lt k 5) (ℕ_discrete k 7) (ℕ_discrete k 9) (ℕ_discrete k 11)
  where
    filling : {e : List ℕ} {s : ℕ} → Ready t d e j s → Filling t d j
    filling {e} {s} f = (set e (slot_of j) s, length-set e (slot_of j) s ∙ f.long, f.filled)

    go : Dec (k < 5) → Dec (k ≡ 7) → Dec (k ≡ 9) → Dec (k ≡ 11) → Filling t d j
    go (yes h) b c e = filling (leaf-ready q w h refl refl)
    go (no h) (yes b) c e = filling (next_ready q w b refl refl)
    go (no h) (no b) (yes c) e = filling (weak-ready q w c refl refl refl)
    go (no h) (no b) (no c) (yes e) = filling (strong-ready q w e refl refl refl)
    go (no h) (no b) (no c) (no e) =
        filling (kept_ready q w (record { above = omega arith; plain = plain_at q w; no_next = b; no_weak = c; no_strong = e }) refl refl)

module _ (t : List ℕ) (ok : checked true 16383 t ≡ Ok tt) where
  words-filling : (d : List ℕ) → Room t d → (n : ℕ) → n ≤ length t → Filling t d n
  words-filling d q zero h = (d, refl, none_filled t d)
  words-filling d q (suc n) h =
      let f = words-filling d q n (omega arith) in
      let e : n + 1 ≡ suc n = omega arith in
      let next : Next t f.0 (suc n) = subst (Next t f.0) e (next_word q f.1 f.2 h) in
      let g = word-filling next (word_at next.word (omega (arith, plain-kind 16383 t ok (suc n) (omega arith) h)) refl refl refl) in
      (g.0, g.1 ∙ f.1, g.2)

  pub dialect-short : length (dialect_table t) ≤ 2 * length t + 2
  unfolding dialect_table rule
  dialect-short =
      let few = (accepted-well-formed true 16383 t ok).few in
      let n : ℕ = 2 * length t + 2 in
      let d : List ℕ = replicate n 0 in
      let long : length d ≡ n = length-replicate {A = ℕ} n 0 in
      let f = words-filling d (record { accepted = ok; slots = omega arith; few = omega arith }) (length t) (omega arith) in
      let drafted : Drafted f.0 (dialect (rule t)) (2 * length t + 1) = f.2.form (length t) (accepted-well-formed true 16383 t ok).some (omega arith) in
      omega (arith, drafted-length f.0 (omega (arith, f.1)) (dialect (rule t)) (2 * length t + 1) drafted)
