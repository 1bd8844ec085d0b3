use Rattle.std.proofs.Common.{ℕ, Bool, ◌||◌, List, [], ◌∷◌, ◌≡◌, rules, tests}
use mathlib.Core.Path.{refl, ap, ◌∙◌}
use lib.Dec.{leb}
use Rattle.std.specs.List.{list_any}
use Rattle.std.proofs.lemmas.Iterator.{YieldsList-from_slice}
use Rattle.std.proofs.lemmas.Iterator.Search.{any_from_yields_List}
use Rattle.table.specs.Node.{kind}
use Rattle.table.specs.Header.{is_written}
use Rattle.header_classes.proofs.is_written.Goals as goal

some_written : (t : List ℕ) → list_any (λ w. leb 12 (kind w)) t ≡ is_written t
unfolding is_written
some_written [] = refl
some_written (w ∷ t) = ap (λ (b : Bool). leb 12 (kind w) || b) (some_written t)

pub returns : goal.returns
returns c =
    any_from_yields_List (λ w. leb 12 (kind w)) _ _ _ c.any.ensures.ran (YieldsList-from_slice c.args.words.now cc) (λ x b q k. search (rules, tests))
    ∙ some_written c.args.words.now
