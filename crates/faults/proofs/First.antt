-- The checks of a word, of all words and of the whole table, one after another.
use Prim.Native.Nat.{ℕ, suc, ◌+◌, ◌-◌, ◌≤◌, ◌<◌, min}
use mathlib.Core.Path.{◌≡◌, ap}
use mathlib.Core.Logic.{◌⊎◌, inl, inr}
use mathlib.Core.Bool.{Bool, true, false}
use mathlib.Core.List.{List, [], ◌∷◌}
use lib.ListN.{length, take, drop, get_or}
use lib.Dec.{ltb, eqb}
use lib.Seq.{take-suc, drop-cons, length-take-le}
use native.Mathlib.Omega.{arith}
use native.Mathlib.Numerals.{add-one}
use borrow.Author.Tests.{ne_eqb, lt-ltb, le-ltb}
use Rattle.logic.proofs.Numbers.{lt_or_le}
use Rattle.refusals.specs.declared.Refusal.TheVariants.{NoWord, TooManyWords, Repeated}
use Rattle.refusals.specs.declared.Refusal.{Refusal}
use Rattle.refusals.specs.Refusals.{Outcome}
use Rattle.std.specs.Prelude.{Ok, Err}
use Rattle.refusals.specs.Refusals.{◌⇒◌, first, decide_by}
use Rattle.table.specs.Checks.{occurs, word_checks, words_checks, use_checks, table_checks, checked}
use Rattle.field_checks.specs.Field.{and_then}
use Rattle.field_checks.proofs.First.{first_append}
use Rattle.faults.specs.Contents.{contents}

-- a refusal leaves nothing to say of what acceptance would tell
pub refused_kept : {A : Type 0} {r : Refusal} → ◌≡◌ {A = Outcome} (Err r) (Ok tt) → A
refused_kept e = let z : ◌≡◌ {A = ℕ} 0 1 = cc in absurd (omega arith)

-- a word's checks: those that ask nothing of the earlier words, and then the one for repeats
pub word_then_repeated : (p : Bool) (earlier : List ℕ) (n w : ℕ) → first (word_checks p earlier n w) ≡ and_then (first (word_checks p [] n w)) (decide_by (occurs w earlier) (Repeated n) (Ok tt))
unfolding word_checks occurs
word_then_repeated p earlier n w = first_append (take 8 (word_checks p [] n w)) ((occurs w earlier ⇒ Repeated n) ∷ [])

-- the words after the first i: the next one's checks, and then those of the rest
pub words_step : (p : Bool) (t : List ℕ) (i : ℕ) → i < length t
    → first (words_checks p (take i t) (drop i t)) ≡ and_then (first (word_checks p (take i t) (i + 1) (get_or t i 0))) (first (words_checks p (take (i + 1) t) (drop (i + 1) t)))
unfolding words_checks
words_step p t i l = rw (add-one i, drop-cons t i 0 l, take-suc t i 0 l, length-take-le i t (omega arith)) (first_append (word_checks p (take i t) (suc i) (get_or t i 0)) _)

-- the whole table, then the words, then their uses
pub checked-in_order : (p : Bool) (limit : ℕ) (t : List ℕ)
    → checked p limit t
    ≡ decide_by (eqb (length t) 0) NoWord (decide_by (ltb limit (length t)) TooManyWords (contents p t))
unfolding checked table_checks
checked-in_order p limit t =
    ap (λ (o : Outcome). decide_by (eqb (length t) 0) NoWord (decide_by (ltb limit (length t)) TooManyWords o))
    (first_append (words_checks p [] t) (use_checks t 1 (length t - 1)))

-- every limit counts for 16,383 words at most
pub over_limit : (limit n : ℕ) → limit < n → ltb (min limit 16383) n ≡ true
over_limit limit n l = lt-ltb (min limit 16383) n (omega arith)

pub over_all : (limit n : ℕ) → 16383 < n → ltb (min limit 16383) n ≡ true
over_all limit n l = lt-ltb (min limit 16383) n (omega arith)

within_limit : (limit n : ℕ) → n ≤ limit → n ≤ 16383 → ltb (min limit 16383) n ≡ false
within_limit limit n l m = le-ltb (min limit 16383) n (omega arith)

-- a limit past the length asks no more than the length
pub length-asked : (p : Bool) (limit : ℕ) (t : List ℕ) → length t < limit → checked p (min limit 16383) t ≡ checked p (min (length t) 16383) t
length-asked p limit t l = rw (checked-in_order p (min limit 16383), checked-in_order p (min (length t) 16383)) (ap asked (go (lt_or_le 16383 (length t))))
  where
    asked : Bool → Outcome
    asked b = decide_by (eqb (length t) 0) NoWord (decide_by b TooManyWords (contents p t))

    go : ((16383 < length t) ⊎ (length t ≤ 16383)) → ltb (min limit 16383) (length t) ≡ ltb (min (length t) 16383) (length t)
    go (inl h) = rw (over_all limit (length t) h, over_all (length t) (length t) h)
    go (inr h) = rw (within_limit limit (length t) (omega arith) h, within_limit (length t) (length t) (omega arith) h)

-- past the checks of the whole table
pub contents-asked : (p : Bool) (limit : ℕ) (t : List ℕ) → (length t ≡ 0 → ⊥) → length t ≤ limit → length t ≤ 16383 → checked p (min limit 16383) t ≡ contents p t
contents-asked p limit t some few all = rw (checked-in_order, ne_eqb (length t) 0 some, within_limit limit (length t) few all)
