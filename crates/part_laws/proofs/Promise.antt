-- What is told of every accepted plain table (`specs/Told`): first of its words, then of the table with its header, and of the judge's rows.
use Prim.Native.Nat.{ℕ, pred, ◌≤◌, ◌<◌}
use native.Mathlib.Omega.{arith}
use mathlib.Core.Path.{◌≡◌, subst}
use mathlib.Core.Logic.{◌⊎◌, inl, inr, ◌↔◌}
use mathlib.Core.Bool.{true, false}
use mathlib.Core.List.Memᴰ
use mathlib.Core.List.{List, map, Memᴰ}
use lib.ListN.{length}
use lib.Dec.{T}
use Rattle.logic.specs.Bit.{bit}
use Rattle.logic.specs.Formula.{Formula}
use Rattle.logic.specs.Lasso.{Lasso, word}
use Rattle.logic.specs.Letters.{Letters}
use Rattle.logic.specs.Semantics.{Holds}
use Rattle.transforms.specs.Choice.{Exact}
use Rattle.transforms.specs.Recurrence.{InfinitelyOften, AlmostAlways}
use Rattle.transforms.specs.NormalForm.{is_least, is_greatest, least_of, greatest_of, choices, normal_form}
use Rattle.transforms.specs.Subformula.{Sub, Numbers}
use Rattle.logic.proofs.Tests.{T_same}
use Rattle.transforms.proofs.Letters.{letters-sub}
use Rattle.transforms.proofs.Normal.Lasso as normal
use Rattle.transforms.proofs.Normal.Parts.{mem_least_of, mem_greatest_of}
use Rattle.transforms.proofs.Normal.PlainFormula.{exclusive}
use Rattle.std.specs.Prelude.{Ok}
use Rattle.table.specs.Table.{formulas, formula_of, rule}
use Rattle.table.specs.Checks.{checked}
use Rattle.table.specs.Header.{body, headed_checked}
use Rattle.table.specs.Numbering.{table_of}
use Rattle.table.specs.Steps.{fixpoints}
use Rattle.table.proofs.Accepted.{WellFormed, accepted-well-formed}
use Rattle.table.proofs.Header.{accepted-headed, headed-accepted}
use Rattle.numbering.proofs.Accepted.{Plain, plain_small, accepted-written}
use Rattle.numbering.proofs.Building.{held_within}
use Rattle.numbering.proofs.Built.{table_of-ordered}
use Rattle.numbering.proofs.Formulas.{held_formula}
use Rattle.numbering.proofs.Lengths.{sub_held}
use Rattle.numbering.proofs.Used.{rule-table_of, table_of_held}
use Rattle.normal_laws.proofs.Promise.{form-letters}
use Rattle.normal_laws.proofs.Subformulas.{rule-plain, fixpoints-number}
use Rattle.fixpoints.specs.Positions.{bit_of}
use Rattle.part_laws.specs.Parts.{unfolded_table, part_of, IsChoice, HoldsAt, LeastWord, GreatestWord, UntilLike, Chosen, Lasts, OnlyLasting, AllLasting}
use Rattle.part_laws.specs.Told.{Told, PartWord, Unfolded}
use Rattle.part_laws.proofs.Words.{word-least, word-greatest, word-listed, word-chosen, listed-word, bit-numbered}
use Rattle.part_laws.proofs.Choices.{choices_below, sub-disjoin, same_bits}

module _ (limit : ℕ) (t : List ℕ) (ok : checked true limit t ≡ Ok tt) (small : limit ≤ 16383) where
  formed : WellFormed true limit t
  formed = accepted-well-formed true limit t ok

  plain : Plain (rule t)
  plain = rule-plain small formed

  numbers : Numbers (fixpoints t) (rule t)
  numbers = fixpoints-number small formed

  -- an until-like word is in M, or in N, exactly where it is chosen
  module _ (c j : ℕ) (u : UntilLike t j) where
    in_least : LeastWord t j → Memᴰ (formula_of (formulas t) j) (least_of (fixpoints t) c) ↔ T (bit c (bit_of t (pred j)))
    unfolding least_of
    in_least k = word-chosen formed j u is_least c ((word-least formed j u.positive u.inside).1 k)

    in_greatest : GreatestWord t j → Memᴰ (formula_of (formulas t) j) (greatest_of (fixpoints t) c) ↔ T (bit c (bit_of t (pred j)))
    unfolding greatest_of
    in_greatest k = word-chosen formed j u is_greatest c ((word-greatest formed j u.positive u.inside).1 k)

  -- a part that holds has chosen only words that last
  only_lasting : (r : Lasso) (c i : ℕ) → Holds (word r) (part_of t c) i → OnlyLasting r t c
  only_lasting r c i x j h = record {
    least = λ k. normal.part_least (fixpoints t) (rule t) plain.0 numbers r c i x (formula_of (formulas t) j) ((in_least c j h.word k).1 h.one);
    greatest = λ k. normal.part_greatest (fixpoints t) (rule t) plain.0 numbers r c i x (formula_of (formulas t) j) ((in_greatest c j h.word k).1 h.one);
  }

  module _ (r : Lasso) (c : ℕ) where
    -- the exact choice of source 002 has chosen all words that last, and no other
    exact_lasting : IsChoice t c → Exact (word r) (fixpoints t) c → AllLasting r t c
    exact_lasting below e = record { choice = below; exactly = λ j u. (lasts j u, λ l. record { word = u; one = one j u l u.kinded }) }
      where
        lasts : (j : ℕ) → UntilLike t j → Chosen t c j → Lasts r t j
        lasts j u h = record {
          least = λ k. ((e.least (formula_of (formulas t) j)).0 ((in_least c j u k).1 h.one)).2;
          greatest = λ k. ((e.greatest (formula_of (formulas t) j)).0 ((in_greatest c j u k).1 h.one)).2;
        }

        one : (j : ℕ) (u : UntilLike t j) → Lasts r t j → LeastWord t j ⊎ GreatestWord t j → T (bit c (bit_of t (pred j)))
        one j u l (inl k) =
            (in_least c j u k).0 ((e.least (formula_of (formulas t) j)).1 (word-listed formed j u, (word-least formed j u.positive u.inside).1 k, l.least k))
        one j u l (inr k) =
            (in_greatest c j u k).0 ((e.greatest (formula_of (formulas t) j)).1 (word-listed formed j u, (word-greatest formed j u.positive u.inside).1 k, l.greatest k))

    -- and a choice that has is the exact one
    module _ (a : AllLasting r t c) where
      word-least-exactly : (j : ℕ) → UntilLike t j → T (is_least (formula_of (formulas t) j))
          → Memᴰ (formula_of (formulas t) j) (least_of (fixpoints t) c) ↔ (Memᴰ (formula_of (formulas t) j) (fixpoints t) × T (is_least (formula_of (formulas t) j)) × InfinitelyOften (HoldsAt r t j))
      word-least-exactly j u p =
          let k : LeastWord t j = (word-least formed j u.positive u.inside).0 p in (
            λ m. (word-listed formed j u, p, ((a.exactly j u).0 (record { word = u; one = (in_least c j u k).0 m })).least k),
            λ x. (in_least c j u k).1 ((a.exactly j u).1 (record {
              least = λ l. x.2;
              greatest = λ g. absurd (exclusive (formula_of (formulas t) j) p ((word-greatest formed j u.positive u.inside).1 g));
            })).one,
          )

      word-greatest-exactly : (j : ℕ) → UntilLike t j → T (is_greatest (formula_of (formulas t) j))
          → Memᴰ (formula_of (formulas t) j) (greatest_of (fixpoints t) c) ↔ (Memᴰ (formula_of (formulas t) j) (fixpoints t) × T (is_greatest (formula_of (formulas t) j)) × AlmostAlways (HoldsAt r t j))
      word-greatest-exactly j u p =
          let k : GreatestWord t j = (word-greatest formed j u.positive u.inside).0 p in (
            λ m. (word-listed formed j u, p, ((a.exactly j u).0 (record { word = u; one = (in_greatest c j u k).0 m })).greatest k),
            λ x. (in_greatest c j u k).1 ((a.exactly j u).1 (record {
              least = λ l. absurd (exclusive (formula_of (formulas t) j) ((word-least formed j u.positive u.inside).1 l) p);
              greatest = λ g. x.2;
            })).one,
          )

      least-exactly : (ψ : Formula) → Memᴰ ψ (fixpoints t) → T (is_least ψ)
          → Memᴰ ψ (least_of (fixpoints t) c) ↔ (Memᴰ ψ (fixpoints t) × T (is_least ψ) × InfinitelyOften (Holds (word r) ψ))
      least-exactly ψ m =
          let w = listed-word formed m in
          subst (λ (χ : Formula). T (is_least χ) → Memᴰ χ (least_of (fixpoints t) c) ↔ (Memᴰ χ (fixpoints t) × T (is_least χ) × InfinitelyOften (Holds (word r) χ)))
          w.2 (word-least-exactly w.0 w.1)

      greatest-exactly : (ψ : Formula) → Memᴰ ψ (fixpoints t) → T (is_greatest ψ)
          → Memᴰ ψ (greatest_of (fixpoints t) c) ↔ (Memᴰ ψ (fixpoints t) × T (is_greatest ψ) × AlmostAlways (Holds (word r) ψ))
      greatest-exactly ψ m =
          let w = listed-word formed m in
          subst (λ (χ : Formula). T (is_greatest χ) → Memᴰ χ (greatest_of (fixpoints t) c) ↔ (Memᴰ χ (fixpoints t) × T (is_greatest χ) × AlmostAlways (Holds (word r) χ)))
          w.2 (word-greatest-exactly w.0 w.1)

      lasting_exact : Exact (word r) (fixpoints t) c
      lasting_exact = record {
        least = λ ψ. (λ m. let k = mem_least_of (fixpoints t) c m in (least-exactly ψ k.0 k.1).0 m, λ x. (least-exactly ψ x.0 x.1).1 x);
        greatest = λ ψ. (λ m. let k = mem_greatest_of (fixpoints t) c m in (greatest-exactly ψ k.0 k.1).0 m, λ x. (greatest-exactly ψ x.0 x.1).1 x);
      }

  -- two such choices have the same bits
  same_choice : (r : Lasso) (c d : ℕ) → AllLasting r t c → AllLasting r t d → c ≡ d
  same_choice r c d a b = same_bits (length (fixpoints t)) c d a.choice b.choice same
    where
      same : (k : ℕ) → k < length (fixpoints t) → bit c k ≡ bit d k
      same k h =
          let w = bit-numbered formed k h in
          let u = w.1 in
          subst (λ (n : ℕ). bit c n ≡ bit d n) w.2
          (T_same _ _ (
            λ x. ((b.exactly w.0 u).1 ((a.exactly w.0 u).0 (record { word = u; one = x }))).one,
            λ x. ((a.exactly w.0 u).1 ((b.exactly w.0 u).0 (record { word = u; one = x }))).one,
          ))

  pub told : Told t
  told = record {
    only = only_lasting;
    some = λ r. let e = normal.exact_choice r (fixpoints t) in (e.0, exact_lasting r e.0 e.1 e.2);
    one = same_choice;
    whenever = λ r c i a. (
      normal.part_complete (fixpoints t) (rule t) plain.0 numbers r c i (lasting_exact r c a),
      normal.part_sound (fixpoints t) (rule t) plain.0 numbers r c i,
    );
  }

  -- the sentence of the document: a part that holds at moment 0
  pub told_at_start : (r : Lasso) (c : ℕ) → Holds (word r) (part_of t c) 0 → OnlyLasting r t c
  told_at_start r c x = told.only r c 0 x

  -- the unfolded form as a table, where its numbers fit their fields
  form : Formula
  form = normal_form (fixpoints t) (rule t)

  module _ (short : length (unfolded_table t) ≤ 16383) where
    form_small : Letters (λ p. p < 16384) form
    unfolding form
    form_small = form-letters limit t ok small (λ p. p < 16384) (plain_small (rule t) plain.1)

    few : length (table_of form) < 16384
    unfolding form unfolded_table
    few = omega (arith, short)

    rule-unfolded : rule (unfolded_table t) ≡ form
    unfolding form unfolded_table
    rule-unfolded = rule-table_of form form_small few

    part_inside : (c : ℕ) → IsChoice t c → Sub (part_of t c) form
    unfolding form normal_form
    part_inside c h = sub-disjoin (map (part_of t) (choices (length (fixpoints t)))) (Memᴰ.map (part_of t) ((choices_below (length (fixpoints t)) c).1 h))

    part_numbered : (c : ℕ) → IsChoice t c → (m : ℕ) × PartWord t c m
    unfolding form unfolded_table
    part_numbered c h =
        let u : List ℕ = table_of form in
        let s = part_inside c h in
        let held = sub_held u s (length u) (table_of_held form form_small few) in
        let within = held_within u (part_of t c) held.0 held.1 in (
          held.0,
          record {
            positive = within.0;
            inside = within.1;
            formula = held_formula u (table_of-ordered form form_small few) few (part_of t c) held.0 (letters-sub (λ p. p < 16384) s form_small) held.1;
          },
        )

    pub unfolded : Unfolded t
    unfolding form normal_form unfolded_table
    unfolded = record {
      accepted = headed-accepted false 16383 (unfolded_table t) (omega arith) (accepted-written 16383 form (form-letters limit t ok small (λ p. (0 < p) × (p ≤ 32)) plain.1) short (omega arith));
      holds = λ r i. rw rule-unfolded (normal.normal_form-holds (fixpoints t) (rule t) plain.0 numbers r i);
      joined = rule-unfolded;
      parts = choices_below (length (fixpoints t));
      part_word = part_numbered;
      told = λ r c m i w x. only_lasting r c i (subst (λ (χ : Formula). Holds (word r) χ i) w.formula x);
    }

-- the same of an accepted table with its header
module _ (limit : ℕ) (s : List ℕ) (ok : headed_checked true limit s ≡ Ok tt) (small : limit ≤ 16383) where
  pub headed-told : Told (body s)
  headed-told = told limit (body s) (accepted-headed true limit s ok).words small

  pub headed-unfolded : length (unfolded_table (body s)) ≤ 16383 → Unfolded (body s)
  headed-unfolded short = unfolded limit (body s) (accepted-headed true limit s ok).words small short
