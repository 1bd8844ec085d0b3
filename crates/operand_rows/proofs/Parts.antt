-- A row as a part of the scratch.
use Prim.Native.Nat.{ℕ, ◌+◌, ◌-◌, ◌*◌, ◌≤◌, ◌<◌}
use mathlib.Core.Path.{◌≡◌, ap, ◌∙◌}
use mathlib.Core.List.{List}
use native.Mathlib.Omega.{arith}
use lib.ListN.{length, take, drop}
use Rattle.table_rows.specs.Rows.{row_number}
use Rattle.table_rows.proofs.Parts.{row_end}
use Rattle.operand_rows.specs.Operands.{Standing}

-- the part of a word's row that stands
pub standing_end : {n words w : ℕ} {s : List ℕ} → words ≡ w → Standing n w s → (n - 1) * words + words ≤ length s
standing_end {n} {words} {w} {s} e h =
    let last : n - 1 < n = omega (arith, h.some) in
    rw e (row_end (n - 1) n w (length s) last h.room)

pub part_row : {words w : ℕ} (k : ℕ) (s : List ℕ) → words ≡ w → take (k * words + words - k * words) (drop (k * words) s) ≡ row_number w k s
part_row {words} {w} k s e =
    let d : k * words + words - k * words ≡ words = omega arith in
    ap (λ (x : ℕ). take x (drop (k * words) s)) d ∙ ap (λ (x : ℕ). row_number x k s) e
