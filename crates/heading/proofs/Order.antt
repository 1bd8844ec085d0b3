-- The checks of a table with its header, one after another.
use Prim.Native.Nat.{ℕ, ◌≤◌, ◌<◌, ◌-◌, ◌^◌, min}
use mathlib.Core.Path.{◌≡◌, refl, sym, ap, ◌∙◌}
use mathlib.Core.Bool.{Bool, true, false, not}
use mathlib.Core.List.{List, [], ◌∷◌}
use native.Mathlib.Omega.{arith}
use lib.ListN.{length, take, length-drop}
use lib.Seq.{take_all}
use lib.Dec.{ltb, eqb}
use borrow.Author.Tests.{eq-eqb, ne_eqb, lt-ltb, le-ltb}
use Rattle.refusals.specs.declared.Refusal.{Refusal}
use Rattle.refusals.specs.declared.Refusal.TheVariants.{NoWord, TooManyWords, CountDiffers, HeaderWrong}
use Rattle.refusals.specs.Refusals.{Outcome}
use Rattle.std.specs.Prelude.{Ok, Err}
use Rattle.refusals.specs.Refusals.{◌⇒◌, decide_by}
use Rattle.table.specs.Node.{right}
use Rattle.table.specs.Checks.{content_checks, words_checks, use_checks, checked}
use Rattle.table.specs.Header.{header_of, header, count, body, is_misheaded, headed_checks, headed_checked}
use Rattle.table.proofs.Fields.{right_lt}
use Rattle.table.proofs.Header.{header_is, header-theirs, accepted-headed}
use Rattle.field_checks.specs.Field.{and_then}
use Rattle.field_checks.proofs.First.{first_append}
use Rattle.faults.specs.Contents.{contents}
use Rattle.faults.proofs.First.{contents-asked}

last : Bool → List ℕ → Outcome
last p s = and_then (contents p (body s)) (decide_by (is_misheaded s) HeaderWrong (Ok tt))

in_order : (p : Bool) (limit : ℕ) (s : List ℕ)
    → headed_checked p limit s
    ≡ decide_by (eqb (count s) 0) NoWord (decide_by (ltb limit (count s)) TooManyWords (decide_by (not (eqb (count s) (length (body s)))) CountDiffers (last p s)))
unfolding headed_checked headed_checks last
in_order p limit s =
    ap (λ (o : Outcome). decide_by (eqb (count s) 0) NoWord (decide_by (ltb limit (count s)) TooManyWords (decide_by (not (eqb (count s) (length (body s)))) CountDiffers o)))
    (first_append (content_checks p (body s)) ((is_misheaded s ⇒ HeaderWrong) ∷ [])
    ∙ ap (λ (o : Outcome). and_then o (decide_by (is_misheaded s) HeaderWrong (Ok tt))) (first_append (words_checks p [] (body s)) (use_checks (body s) 1 (length (body s) - 1))))

-- all that stands after the header
pub whole_body : (s : List ℕ) → take (length s - 1) (body s) ≡ body s
whole_body s = take_all (length s - 1) (body s) (omega (arith, length-drop 1 s))

-- the words that were read are all that stand after the header
pub words-read : (p : Bool) (limit : ℕ) (s : List ℕ) {o : Outcome} → o ≡ checked p (min limit 16383) (take (length s - 1) (body s)) → checked p (min limit 16383) (body s) ≡ o
words-read p limit s e = ap (checked p (min limit 16383)) (sym (whole_body s)) ∙ sym e

-- what is accepted has a header
pub some_word : (p : Bool) (limit : ℕ) (s : List ℕ) → headed_checked p limit s ≡ Ok tt → 1 ≤ length s
some_word p limit s e = omega (arith, ap length (accepted-headed p limit s e).whole)

-- a slice without a word has no header, and so no count
pub nothing-counted : (s : List ℕ) → length s ≡ 0 → count s ≡ 0
unfolding right
nothing-counted [] e = refl
nothing-counted (w ∷ t) e = absurd (omega arith)

module _ (p : Bool) (limit : ℕ) (s : List ℕ) where
  pub no_word : count s ≡ 0 → headed_checked p limit s ≡ Err NoWord
  no_word e = in_order p limit s ∙ rw (eq-eqb (count s) 0 e)

  pub too_many : (count s ≡ 0 → ⊥) → limit < count s → headed_checked p limit s ≡ Err TooManyWords
  too_many z h = in_order p limit s ∙ rw (ne_eqb (count s) 0 z, lt-ltb limit (count s) h)

  module _ (z : count s ≡ 0 → ⊥) (h : count s ≤ limit) where
    pub differing : (count s ≡ length (body s) → ⊥) → headed_checked p limit s ≡ Err CountDiffers
    differing n = in_order p limit s ∙ rw (ne_eqb (count s) 0 z, le-ltb limit (count s) h, ne_eqb (count s) (length (body s)) n)

    module _ (n : count s ≡ length (body s)) where
      rest : headed_checked p limit s ≡ last p s
      rest = in_order p limit s ∙ rw (ne_eqb (count s) 0 z, le-ltb limit (count s) h, eq-eqb (count s) (length (body s)) n)

      few : length (body s) < 2 ^ 14
      few = omega (arith, right_lt (header s))

      words : checked p (min limit 16383) (body s) ≡ contents p (body s)
      words = contents-asked p limit (body s) (λ e. z (n ∙ e)) (omega arith) (omega (arith, few))

      pub words-refused : {r : Refusal} → checked p (min limit 16383) (body s) ≡ Err r → headed_checked p limit s ≡ Err r
      unfolding last
      words-refused e = rest ∙ rw (← words, e)

      module _ (e : checked p (min limit 16383) (body s) ≡ Ok tt) where
        pub header_wrong : (header s ≡ header_of (body s) → ⊥) → headed_checked p limit s ≡ Err HeaderWrong
        unfolding last
        header_wrong w = rest ∙ rw (← words, e) (by_test (is_misheaded s) refl)
          where
            by_test : (b : Bool) → is_misheaded s ≡ b → decide_by b HeaderWrong (Ok tt) ≡ Err HeaderWrong
            by_test true f = refl
            by_test false f = absurd (w (header_is s n f))

        pub header_right : header s ≡ header_of (body s) → headed_checked p limit s ≡ Ok tt
        unfolding last
        header_right w = rest ∙ rw (← words, e, header-theirs (body s) few s w refl)
