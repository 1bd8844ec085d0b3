use Rattle.std.proofs.Common.{◌≡◌, ℕ, ◌+◌, ◌<◌, List, [], ◌∷◌, ◌++◌, refl, sym, ap, ◌∙◌, subst, length, take, get_or, add-one, append_assoc, append-nil, take-suc}
use Rattle.std.specs.Io.KnownBytes.{Appends}
use Rattle.std.proofs.KnownBytes.{Appends-nil, Appends-trans}
use Rattle.listing.specs.Listing.{hex_line}
use Rattle.printing.specs.Report.{lines}
use Rattle.printing.proofs.report.lines.Goals as goal

lines-append : (a b : List ℕ) → lines (a ++ b) ≡ lines a ++ lines b
unfolding lines
lines-append [] b = refl
lines-append (w ∷ a) b = ap (λ r. hex_line w ++ r) (lines-append a b) ∙ sym (append_assoc (hex_line w) (lines a) (lines b))

lines-one : (w : ℕ) → lines (w ∷ []) ≡ hex_line w
unfolding lines
lines-one w = append-nil (hex_line w)

-- A word more.
lines-take : (xs : List ℕ) (i : ℕ) → i < length xs → lines (take (i + 1) xs) ≡ lines (take i xs) ++ hex_line (get_or xs i 0)
lines-take xs i h =
    ap (λ n. lines (take n xs)) (add-one i) ∙ ap lines (take-suc xs i 0 h) ∙ lines-append (take i xs) (get_or xs i 0 ∷ [])
    ∙ ap (λ r. lines (take i xs) ++ r) (lines-one (get_or xs i 0))

pub loop-w-init : goal.loop-w-init
unfolding lines
loop-w-init g c = Appends-nil _

pub loop-w-preserved : goal.loop-w-preserved
loop-w-preserved g c =
    let written = subst (Appends _ _) c.line.ensures c.in_ok-write_all.ensures.bytes in
    subst (Appends _ _) (sym (lines-take c.args.form.now c.loop-w.w-index c.loop-w-test.true)) (Appends-trans _ _ _ _ _ c.loop-w.invariant written)
