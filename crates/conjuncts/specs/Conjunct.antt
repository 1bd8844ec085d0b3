-- The conjuncts of a part: which words have one, what it is, and the slots that it is made of.
use Rattle.std.specs.Prelude.{ℕ, ◌+◌, ◌*◌, ◌-◌, ◌^◌, ◌<◌, ◌≤◌, ◌≡◌, true, length, get_or}
use mathlib.Core.List.{List, map, foldl}
use Rattle.logic.specs.Formula.{Formula, bin, conj, F, G}
use Rattle.transforms.specs.NormalForm.{least_of, greatest_of}
use Rattle.table.specs.Steps.{fixpoints}
use Rattle.drafts.specs.Drafted.{Drafted}
use Rattle.form_places.specs.declared.Rewriting.TheVariants.{Steady, Recurring, Opening}
use Rattle.fixpoint_kinds.specs.declared.Fixpoint.{Fixpoint}
use Rattle.fixpoint_kinds.specs.declared.Fixpoint.TheVariants.{Least, Greatest}
use Rattle.std.specs.Prelude.{Ok}
use Rattle.table.specs.Checks.{checked}
use Rattle.table.specs.Node.{binary_kind}
use Rattle.slots.specs.Slot.{pack}
use Rattle.fixpoints.specs.Positions.{Kept}
use Rattle.form_places.specs.Places.{place, finally_slot, globally_slot}
use Rattle.fixpoint_kinds.specs.Kinds.{form_slot, inner_slot}
use Rattle.conjuncts.specs.Filled.{rewritten, Filled}

-- the chosen ones of a kind
abbrev pub members_of : Fixpoint → List ℕ → ℕ → List Formula
members_of Least t c = least_of (fixpoints t) c
members_of Greatest t c = greatest_of (fixpoints t) c

-- GF of the recurring form, FG of the steady form
abbrev pub conjunct_of : Fixpoint → List ℕ → ℕ → Formula → Formula
conjunct_of Least t c ψ = G (F (rewritten Recurring t c ψ))
conjunct_of Greatest t c ψ = F (G (rewritten Steady t c ψ))

-- a formula, and those conjuncts, joined from the left
abbrev pub conjoined : Fixpoint → List ℕ → ℕ → List Formula → Formula → Formula
conjoined x t c ψs φ = foldl (bin conj) φ (map (conjunct_of x t c) ψs)

-- how many conjuncts the words of t and a choice c give
abbrev pub conjuncts : Fixpoint → List ℕ → ℕ → ℕ
conjuncts x t c = length (members_of x t c)

-- the outer operator of a conjunct, over the inner one
abbrev pub outer_slot : Fixpoint → ℕ → ℕ
outer_slot Least i = globally_slot i
outer_slot Greatest i = finally_slot i

-- there is room for a conjunct of word j after the slots before `next`
pub record Conjoinable (x : Fixpoint) (j : ℕ) (d : List ℕ) (next : ℕ) : Type 0 where
  pub form_before : form_slot x j < next
  pub within : next + 2 < length d
  pub narrow : length d ≤ 2 ^ 20

-- three slots more: the conjunct, and what it is joined to
pub record Conjoined (x : Fixpoint) (j : ℕ) (d : List ℕ) (next : ℕ) (e : List ℕ) (r : ℕ) : Type 0 where
  pub long : length e ≡ length d
  pub before : (i : ℕ) → i < next → get_or e i 0 ≡ get_or d i 0
  pub inner : get_or e next 0 ≡ inner_slot x (form_slot x j)
  pub outer : get_or e (next + 1) 0 ≡ outer_slot x next
  pub joined : get_or e (next + 2) 0 ≡ pack (binary_kind conj) (next - 1) (next + 1)
  pub after : r ≡ next + 3

-- all words are filled, and there is room for all conjuncts after what the slot before `first` stands for
pub record Joinable (x : Fixpoint) (t positions : List ℕ) (c : ℕ) (d : List ℕ) (first : ℕ) : Type 0 where
  pub limit : ℕ
  pub accepted : checked true limit t ≡ Ok tt
  pub kept : Kept t positions (length t)
  pub filled : Filled t c d (length t)
  pub past_words : place Opening (length t) < first
  pub long : first + 3 * conjuncts x t c ≤ length d
  pub narrow : length d ≤ 2 ^ 20

-- the conjuncts were joined to what the slot before `first` stands for
pub record Joined (x : Fixpoint) (t : List ℕ) (c : ℕ) (d : List ℕ) (first : ℕ) (e : List ℕ) (r : ℕ) : Type 0 where
  pub long : length e ≡ length d
  pub before : (i : ℕ) → i < first → get_or e i 0 ≡ get_or d i 0
  pub after : r ≡ first + 3 * conjuncts x t c
  pub joined : (φ : Formula) → Drafted d φ (first - 1) → Drafted e (conjoined x t c (members_of x t c) φ) (r - 1)
