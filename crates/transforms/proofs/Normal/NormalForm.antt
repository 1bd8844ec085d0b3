-- Source 002, Theorem 23: the normal form of a plain formula means what the formula means. Over any word that has a stable suffix.
use Prim.Native.Nat.{ℕ}
use mathlib.Core.Path.{sym, subst}
use mathlib.Core.Logic.{◌↔◌}
use mathlib.Core.List.Memᴰ
use mathlib.Core.List.{List, map}
use lib.ListN.{length}
use Rattle.logic.specs.Formula.{Formula}
use Rattle.logic.specs.Lasso.{Word}
use Rattle.logic.specs.Semantics.{Holds}
use Rattle.transforms.specs.NormalForm.{part, choices, normal_form}
use Rattle.transforms.specs.Subformula.{Numbers}
use Rattle.transforms.proofs.Normal.PlainFormula.{Plain}
use Rattle.transforms.proofs.Normal.Stability.{Stable}
use Rattle.transforms.proofs.Normal.Junctions.{disjoin_intro, disjoin-elim}
use Rattle.transforms.proofs.Normal.Choices.{choice_by, choice_below, mem_choices}
use Rattle.transforms.proofs.Normal.Parts.{part_sound, part_complete}
use Rattle.transforms.proofs.Normal.ExactChoice.{lasting, exact_choice}

module _ {σ : Word} (w : Stable σ) (ψs : List Formula) {φ : Formula} (plain : Plain φ) (i : ℕ) where
  pub normal_form-sound : Holds σ (normal_form ψs φ) i → Holds σ φ i
  unfolding normal_form
  normal_form-sound x =
      let d = disjoin-elim σ i (map (part ψs φ) (choices (length ψs))) x in
      let k = Memᴰ.of_map (part ψs φ) (choices (length ψs)) d.1 in
      part_sound w ψs plain k.0 i (subst (λ χ. Holds σ χ i) (sym k.2) d.2)

  pub normal_form-complete : Numbers ψs φ → Holds σ φ i → Holds σ (normal_form ψs φ) i
  unfolding normal_form
  normal_form-complete numbers x =
      let c = choice_by (lasting w) ψs in
      disjoin_intro σ i (map (part ψs φ) (choices (length ψs)))
      (Memᴰ.map (part ψs φ) (mem_choices (length ψs) c (choice_below (lasting w) ψs)))
      (part_complete w ψs plain c i numbers (exact_choice w ψs) x)

  pub normal_form-holds : Numbers ψs φ → Holds σ (normal_form ψs φ) i ↔ Holds σ φ i
  normal_form-holds numbers = (normal_form-sound, normal_form-complete numbers)
