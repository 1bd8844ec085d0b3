-- Each word is that of a full one; the last one is written anew.
use mathlib.Core.Path.{refl, ap, ◌∙◌}
use mathlib.Core.List.{List}
use Prim.Native.Nat.{ℕ, ◌-◌, ◌*◌}
use native.Mathlib.Omega.{arith}
use lib.ListN.{length, get_or}
use Rattle.std.proofs.lemmas.List.{get_or-replicate}
use Rattle.row_words.proofs.Rows.{pack-word, written_last}
use Rattle.rows.proofs.write_constant.Goals as goal

pub returns : goal.returns
returns c =
    let last : ℕ = length c.args.row.now - 1 in
    written_last {u = last}
    (record {
      word = λ w a b.
          ap (λ (r : List ℕ). get_or r w 0) (c.fill.ensures.after (λ y e. e)) ∙ get_or-replicate _ w _ 0 (omega arith)
          ∙ pack-word _ _ w 64 _ (omega arith) (c.constant.ensures (w * 64));
    })
    refl (omega arith) (omega arith) (pack-word _ _ last _ _ c.filled.ensures (c.constant-2.ensures (last * 64)))
