-- Sweeps over rows: the words with the carry taken in, and their closing.
use mathlib.Core.Path.{◌≡◌, refl, ap, ap₂, ◌∙◌}
use mathlib.Core.Bool.{Bool, false}
use Prim.Native.Nat.{ℕ, suc, ◌+◌, ◌-◌, ◌*◌, ◌/◌, ◌<◌, min}
use native.Mathlib.Omega.{arith}
use Rattle.logic.specs.Truth.{Sequence, sweep}
use Rattle.row_words.specs.Row.{pack_bits, filled, word_of, word_sweep}
use Rattle.row_words.proofs.Bits.{pack_ext}
use Rattle.row_words.proofs.Sweep.{sweep_ext}
use Rattle.word_carries.specs.Carried.{carried_in}
use Rattle.row_sweeps.specs.Carried.{carried_row}
use Rattle.word_carries.proofs.Carries.{sweep_carried}
use Rattle.row_words.proofs.Rows.{pack-word, sweep_from}

-- word w of the goals that have taken the carry in, from what the sweep comes to at the first position of the word after
pub word_carried : (L : ℕ) (G P : Sequence) (c carry : Bool) (w u n x : ℕ) → w * 64 < L → u ≡ suc w → n ≡ filled L w → carry ≡ sweep G P c (u * 64) (L - u * 64)
    → x ≡ pack_bits (carried_in G P carry (w * 64 + n)) (w * 64) n → x ≡ word_of L (carried_row L G P c) w
word_carried L G P c carry w u n x h eu en ec ex =
    pack-word L _ w n x en
    (ex
    ∙ pack_ext _ (carried_row L G P c) (w * 64) (w * 64) n
    (λ k l. ap₂ (λ (b : Bool) (e : ℕ). carried_in G P b e (w * 64 + k)) (ec ∙ ap (λ (e : ℕ). sweep G P c e (L - e)) (omega arith)) (omega arith)))

pub word_closed : (L : ℕ) (G P : Sequence) (w n x : ℕ) → n ≡ filled L w → x ≡ pack_bits (λ k. sweep G P false k (w * 64 + n - k)) (w * 64) n
    → x ≡ word_of L (word_sweep L G P false) w
word_closed L G P w n x en e =
    pack-word L _ w n x en (e ∙ pack_ext _ (word_sweep L G P false) (w * 64) (w * 64) n (λ k l. ap (sweep G P false (w * 64 + k)) (omega arith)))

-- with the carry taken in, the sweeps of the words are the sweep
pub closed_carried : (L : ℕ) (G P : Sequence) (c : Bool) (i : ℕ) → i < L → word_sweep L (carried_row L G P c) P false i ≡ sweep G P c i (L - i)
closed_carried L G P c i h =
    let u : ℕ = i / 64 * 64 + 64 in
    let s : Bool = sweep G P c u (L - u) in
    let e : ℕ = min u L in
    sweep_ext _ P (carried_in G P s e) P false i i (e - i) (λ k l. let q : (i + k) / 64 ≡ i / 64 = omega arith in rw q) (λ k l. refl)
    ∙ sweep_carried G P s e i (e - i) (omega arith) (omega arith)
    ∙ sweep_from L G P c s (i / 64) (suc (i / 64)) (filled L (i / 64)) (omega arith) refl refl (ap (λ (j : ℕ). sweep G P c j (L - j)) (omega arith)) i (e - i) (omega arith)
