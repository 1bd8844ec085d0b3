-- What is left of every accepted table whose remainder fits (`specs/Remaining`).
use Prim.Native.Nat.{ℕ, suc, ◌+◌, ◌*◌, ◌≤◌, ◌<◌, min}
use native.Mathlib.Omega.{arith}
use mathlib.Core.Path.{◌≡◌, refl, sym, ap, subst}
use mathlib.Core.Bool.{true}
use mathlib.Core.Logic.Iff
use mathlib.Core.Logic.{◌↔◌}
use mathlib.Core.List.{List}
use lib.ListN.{length, take}
use borrow.Author.Tests.{le-leb, leb-true}
use Rattle.logic.specs.Formula.{Formula}
use Rattle.logic.specs.Lasso.{Word}
use Rattle.logic.specs.Letters.{Letters}
use Rattle.logic.specs.Driven.{Driven, SameBits}
use Rattle.logic.specs.Semantics.{Holds}
use Rattle.transforms.specs.Folding.{fold}
use Rattle.transforms.specs.After.{after}
use Rattle.transforms.proofs.Folding.{fold-holds, fold-letters, fold-plain}
use Rattle.transforms.proofs.After.{after_holds, after_letters, after_same, after_plain}
use Rattle.std.specs.Prelude.{Ok}
use Rattle.refusals.specs.Refusals.{first}
use Rattle.table.specs.Table.{rule}
use Rattle.table.specs.Checks.{checked}
use Rattle.table.specs.Header.{headed, body}
use Rattle.table.specs.Numbering.{table_of}
use Rattle.table.specs.Steps.{after_table}
use Rattle.table.specs.Frame.{after_step, answer_of, result_of}
use Rattle.table.proofs.Accepted.{WellFormed, accepted-well-formed}
use Rattle.table.proofs.Header.{accepted-headed, headed-accepted}
use Rattle.table.proofs.Frame.{answered, made_answer}
use Rattle.table.proofs.AfterStep.{Sampled, accepted-sample, both_accepted}
use Rattle.numbering.proofs.Used.{rule-table_of}
use Rattle.numbering.proofs.Accepted.{Plain, plain_small, accepted-table_of}
use Rattle.numbering.proofs.Driven.{driven-exactly}
use Rattle.normal_laws.proofs.Subformulas.{rule-plain}
use Rattle.after_laws.specs.Remaining.{Remaining}
use Rattle.after_laws.proofs.Length.{after_short}

-- the words that are left of accepted words
module _ (v : ℕ) (t : List ℕ) (ok : checked true 16383 t ≡ Ok tt) where
  table : WellFormed true 16383 t
  table = accepted-well-formed true 16383 t ok

  left_letters : (Q : ℕ → Type 0) → Letters Q (rule t) → Letters Q (fold (after v (rule t)))
  left_letters Q l = fold-letters Q (after v (rule t)) (after_letters Q v (rule t) l)

  left_plain : Plain (fold (after v (rule t)))
  left_plain =
      let plain : Plain (rule t) = rule-plain (omega arith) table in
      (fold-plain (after v (rule t)) (after_plain v (rule t) plain.0), left_letters (λ p. (0 < p) × (p ≤ 32)) plain.1)

  -- the numbers of its words fit their fields
  module _ (few : length (after_table v t) ≤ 16383) where
    pub after_accepted : checked true 16383 (after_table v t) ≡ Ok tt
    unfolding after_table
    after_accepted = accepted-table_of true 16383 (fold (after v (rule t))) left_plain few (omega arith)

    pub after_rule : rule (after_table v t) ≡ fold (after v (rule t))
    unfolding after_table
    after_rule = rule-table_of (fold (after v (rule t))) (plain_small (fold (after v (rule t))) left_plain.1) (omega arith)

-- the table that is made of one that the step accepts
module _ (v driven : ℕ) (s : List ℕ) (ok : first ((after_step v driven).checks s) ≡ Ok tt) where
  given : checked true 16383 (body s) ≡ Ok tt
  given = (accepted-headed true 16383 s (both_accepted v driven s ok).0).words

  -- the letters of its rule are driven
  pub rule-driven : Letters (Driven driven) (rule (body s))
  rule-driven = (driven-exactly (accepted-well-formed true 16383 (body s) given) driven).0 (both_accepted v driven s ok).1.letters

  -- bits that are not driven are not looked at
  pub same_table : (w : ℕ) → SameBits driven v w → after_table v (body s) ≡ after_table w (body s)
  unfolding after_table
  same_table w e = ap (λ (φ : Formula). table_of (fold φ)) (after_same (Driven driven) v w e (rule (body s)) rule-driven)

  module _ (few : length (after_table v (body s)) ≤ 16383) where
    left_rule : rule (after_table v (body s)) ≡ fold (after v (rule (body s)))
    left_rule = after_rule v (body s) given few

    left_sampled : Sampled driven (after_table v (body s))
    left_sampled = record {
      few = (both_accepted v driven s ok).1.few;
      letters = (driven-exactly (accepted-well-formed true 16383 (after_table v (body s)) (after_accepted v (body s) given few)) driven).1
          (subst (Letters (Driven driven)) (sym left_rule) (left_letters v (body s) given (Driven driven) rule-driven));
    }

    left_holds : (σ : Word) (i : ℕ) → SameBits driven (σ i) v → Holds σ (fold (after v (rule (body s)))) (suc i) ↔ Holds σ (rule (body s)) i
    left_holds σ i e =
        Iff.trans (fold-holds σ (after v (rule (body s))) (suc i))
        (subst (λ (φ : Formula). Holds σ φ (suc i) ↔ Holds σ (rule (body s)) i) (after_same (Driven driven) (σ i) v e (rule (body s)) rule-driven) (after_holds σ (rule (body s)) i))

    pub after_remaining : Remaining v driven s (headed (after_table v (body s)))
    after_remaining = record {
      words = refl;
      accepted = headed-accepted true 16383 (after_table v (body s)) (omega arith) (after_accepted v (body s) given few);
      holds = λ σ i e. rw left_rule (left_holds σ i e);
      lacks = λ n l. rw left_rule (left_letters v (body s) given (λ m. m ≡ n → ⊥) l);
      sampled = accepted-sample driven (after_table v (body s)) left_sampled;
    }

  -- at most 5,460 words are always stepped in a slice of three words for each of them, three more, and the header
  pub after_answered : (slice : List ℕ) → length (body s) ≤ 5460 → 3 * length (body s) + 4 ≤ length slice
      → answer_of (after_step v driven) s (length slice) ≡ Ok (suc (length (after_table v (body s))))
  after_answered slice h l =
      made_answer (after_step v driven) s slice ok (le-leb (suc (length (after_table v (body s)))) (min (length slice) 16384) (omega (arith, after_short v (body s) given)))

-- of every answered call: the header and the words at the front of the slice
pub made_remaining : (v driven : ℕ) (s slice : List ℕ) (n : ℕ) → answer_of (after_step v driven) s (length slice) ≡ Ok n
    → Remaining v driven s (take n (result_of (after_step v driven) s slice))
made_remaining v driven s slice n made =
    let a = answered (after_step v driven) s slice n made in
    let inside : n ≤ min (length slice) 16384 = leb-true n (min (length slice) 16384) a.fitting in
    rw a.front (after_remaining v driven s a.accepted (omega (arith, a.long, inside)))
